use Rattle.std.proofs.Common.{[], Err, ap, refl, inl}
use Rattle.tapc_core.specs.commands.Make.{OfMake, Order}
use Rattle.tapc_core.proofs.GivenTexts.{held_told}
use Rattle.tapc_core.proofs.MadeLines.{made_writes}
use Rattle.tapc_core.proofs.Outputs.{gives_up}
use Rattle.tapc_core.proofs.making.make.Goals as goal

pub returns-in-Ok-clause-writes : goal.returns-in-Ok-clause-writes
returns-in-Ok-clause-writes g c =
    let text = g.S.Store.contents c.args.store.now c.args.system.now in
    made_writes (record { text = text; seed = c.args.seed; events = c.args.events; faults = c.args.faults }) c.in-Ok.system (held_told text c.in-Ok.system c.in-Ok.ensures.holds) c.make_schedule.result c.make_schedule.ensures.closes

pub returns-in-Err-clause-writes : goal.returns-in-Err-clause-writes
returns-in-Err-clause-writes g c =
    let order : Order = record { text = g.S.Store.contents c.args.store.now c.args.system.now; seed = c.args.seed; events = c.args.events; faults = c.args.faults } in
    gives_up (OfMake order) c.in-Err.fault c.give_up.result _ _ (λ o e. record { offence = o; first = c.in-Err.ensures.refused o (ap Err e); is = refl }) refl (record { front = []; rest = []; shown = inl refl; is = refl }) c.give_up.ensures.closes
