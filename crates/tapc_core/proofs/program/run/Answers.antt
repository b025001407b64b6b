use Rattle.std.proofs.Common.{Option, subst}
use Rattle.tapc_core.specs.Words.{Asked, command_of}
use Rattle.tapc_core.specs.Written.{Writes}
use Rattle.tapc_core.specs.commands.All.{command_for}
use Rattle.tapc_core.specs.declared.status.Status.{Status}
use Rattle.tapc_core.specs.declared.status.Status.TheVariants.{Done}
use Rattle.tapc_core.proofs.Sure.{sure_status}
use Rattle.tapc_core.proofs.program.run.Goals as goal

pub returns-clause-done : goal.returns-clause-done
returns-clause-done g c = λ system schedule seed settings same e.
    let contents = g.S.Store.contents c.args.store.now in
    let before = g.O.Sink.written c.args.out.now in
    let now = g.O.Sink.written c.obey.new.out in
    let P : Option Asked → Status → Type 0 = λ a s. Writes ((command_for a).writes contents) s before now in
    subst (λ a. P a Done) same (subst (P (command_of c.args.words.now)) e c.obey.ensures.writes)

pub returns-clause-sure : goal.returns-clause-sure
returns-clause-sure g c =
    sure_status (command_of c.args.words.now) (g.S.Store.contents c.args.store.now) c.obey.result (g.O.Sink.written c.args.out.now) (g.O.Sink.written c.obey.new.out)
    (g.S.Store.faults c.args.store.now) (g.S.Store.faults c.obey.new.store) (g.O.Sink.faults c.args.out.now) (g.O.Sink.faults c.obey.new.out)
    c.obey.ensures.writes c.obey.ensures.store_cause c.obey.ensures.sink_cause
