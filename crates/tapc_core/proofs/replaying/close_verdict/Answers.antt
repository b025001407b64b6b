use Rattle.std.proofs.Common.{Result, Err, ap, subst, sym, ◌∙◌}
use Rattle.replay.specs.declared.fault.ReplayFault.{ReplayFault}
use Rattle.tapc_core.specs.inner.Verdicts.{ClosesVerdict}
use Rattle.tapc_core.proofs.replaying.close_verdict.Goals as goal

pub returns-in-Err-ReadFault-clause-closes : goal.returns-in-Err-ReadFault-clause-closes
returns-in-Err-ReadFault-clause-closes g c =
    let P : Result Unit ReplayFault → Type 0 = λ v. ClosesVerdict v (g.O.Sink.written c.args.out.now) (g.O.Sink.written c.close-in-Err-ReadFault.new.out) c.close-in-Err-ReadFault.result in
    let kind = rw c.in-Err-ReadFault.is at c.in-Err-ReadFault.field-0-is in
    subst P (sym (c.in-Err-ReadFault.is ∙ ap Err kind)) c.close-in-Err-ReadFault.ensures.closes
