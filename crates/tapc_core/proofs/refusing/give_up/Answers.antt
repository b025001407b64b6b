use Rattle.std.proofs.Common.{subst, sym}
use Rattle.tapc_core.specs.inner.FileFaults.{GivesUp}
use Rattle.tapc_core.specs.declared.files.FileFault.{FileFault}
use Rattle.tapc_core.proofs.refusing.give_up.Goals as goal

pub returns-in-ReadFault-clause-closes : goal.returns-in-ReadFault-clause-closes
returns-in-ReadFault-clause-closes g c =
    let P : FileFault → Type 0 = λ f. GivesUp f (g.O.Sink.written c.args.out.now) (g.O.Sink.written c.close.new.out) c.close.result in
    subst P (sym c.in-ReadFault.is) c.close.ensures.closes
