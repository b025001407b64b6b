use Rattle.std.proofs.Common.{◌∙◌, ◌≡◌, Err, List, [], ap, refl, ℕ}
use Rattle.tap_base.specs.declared.ast.Ast.{Ast}
use Rattle.tapc_core.specs.commands.Print.{OfPrint, print_command}
use Rattle.tapc_core.specs.declared.status.Status.{Status}
use Rattle.tapc_core.specs.declared.status.Status.TheVariants.{ReadFault, WriteFault, NoMemory}
use Rattle.tapc_core.proofs.Found.{AreSpared, closed_found, given_up_found, refused_read}
use Rattle.tapc_core.proofs.Outputs.{closes_alone, gives_up}
use Rattle.tapc_core.proofs.program.print_tree.Goals as goal

spared : {reads : Status → List (List ℕ)} → reads WriteFault ≡ [] → reads ReadFault ≡ [] → reads NoMemory ≡ [] → AreSpared reads
spared a b c = record { unwritten = a; unread = b; no_memory = c }

pub returns-in-Ok-print-clause-writes : goal.returns-in-Ok-print-clause-writes
returns-in-Ok-print-clause-writes g c =
    closes_alone (OfPrint (g.S.Store.contents c.args.store.now c.args.system.now)) (record { tree = c.in-Ok.tree; read = c.in-Ok.ensures.read; is = c.as_slice.ensures ∙ c.in-Ok-print.ensures }) c.close.ensures.closes

pub returns-in-Ok-clause-writes : goal.returns-in-Ok-clause-writes
returns-in-Ok-clause-writes g c =
    closes_alone (OfPrint (g.S.Store.contents c.args.store.now c.args.system.now)) refl c.close-in-Err-print.ensures.closes

pub returns-clause-writes : goal.returns-clause-writes
returns-clause-writes g c =
    gives_up (OfPrint (g.S.Store.contents c.args.store.now c.args.system.now)) c.in-Err.fault c.give_up.result _ _ (λ o e. record { offence = o; first = c.in-Err.ensures.refused o (ap Err e); is = refl }) refl refl c.give_up.ensures.closes

pub returns-in-Ok-print-clause-found : goal.returns-in-Ok-print-clause-found
returns-in-Ok-print-clause-found g c = λ t.
    closed_found (print_command c.args.system.now).reads (g.S.Store.contents c.args.store.now) _ _ _ _ c.close.result (spared refl refl refl) (c.in-Ok.ensures.found tt t, tt) c.close.ensures.closes

pub returns-clause-found : goal.returns-clause-found
returns-clause-found g c = λ t.
    given_up_found (print_command c.args.system.now).reads (g.S.Store.contents c.args.store.now) c.in-Err.fault _ _ c.give_up.result (spared refl refl refl) (λ o e. (c.in-Err.ensures.found (refused_read Ast c.in-Err.fault o e) t, tt)) c.give_up.ensures.closes
