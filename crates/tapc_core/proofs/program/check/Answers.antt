use Rattle.std.proofs.Common.{◌≡◌, Err, List, [], ap, refl, ℕ}
use Rattle.tap_base.specs.declared.system.System.{System}
use Rattle.tapc_core.specs.commands.Check.{OfCheck, check_command}
use Rattle.tapc_core.specs.commands.Text.{IsOfText}
use Rattle.tapc_core.specs.declared.status.Status.{Status}
use Rattle.tapc_core.specs.declared.status.Status.TheVariants.{ReadFault, WriteFault, NoMemory}
use Rattle.tapc_core.proofs.Found.{AreSpared, closed_or_found, given_up_found, refused_read}
use Rattle.tapc_core.proofs.Outputs.{answered_or, closes_or, gives_up}
use Rattle.tapc_core.proofs.program.check.Goals as goal

spared : {reads : Status → List (List ℕ)} → reads WriteFault ≡ [] → reads ReadFault ≡ [] → reads NoMemory ≡ [] → AreSpared reads
spared a b c = record { unwritten = a; unread = b; no_memory = c }

pub returns-in-Ok-clause-writes : goal.returns-in-Ok-clause-writes
returns-in-Ok-clause-writes g c =
    closes_or (OfCheck (g.S.Store.contents c.args.store.now c.args.system.now)) (record { system = c.in-Ok.checked; accepted = c.in-Ok.ensures.accepted; is = refl }) refl c.close_accepted.ensures.closes

pub returns-in-Err-clause-writes : goal.returns-in-Err-clause-writes
returns-in-Err-clause-writes g c =
    gives_up (OfCheck (g.S.Store.contents c.args.store.now c.args.system.now)) c.in-Err.fault c.give_up.result _ _ (λ o e. record { offence = o; first = c.in-Err.ensures.refused o (ap Err e); is = refl }) refl refl c.give_up.ensures.closes

pub returns-in-Ok-clause-found : goal.returns-in-Ok-clause-found
returns-in-Ok-clause-found g c = λ t.
    closed_or_found (check_command c.args.system.now).reads (g.S.Store.contents c.args.store.now) _ _ _ _ _ c.close_accepted.result (spared refl refl refl) (c.in-Ok.ensures.found tt t, tt) c.close_accepted.ensures.closes

pub returns-in-Err-clause-found : goal.returns-in-Err-clause-found
returns-in-Err-clause-found g c = λ t.
    given_up_found (check_command c.args.system.now).reads (g.S.Store.contents c.args.store.now) c.in-Err.fault _ _ c.give_up.result (spared refl refl refl) (λ o e. (c.in-Err.ensures.found (refused_read System c.in-Err.fault o e) t, tt)) c.give_up.ensures.closes

pub returns-in-Ok-clause-answers : goal.returns-in-Ok-clause-answers
returns-in-Ok-clause-answers g c = answered_or IsOfText tt tt tt c.close_accepted.ensures.closes
