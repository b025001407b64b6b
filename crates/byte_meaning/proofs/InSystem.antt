-- The meaning of bytes in a system, by the actions of the receiver.
use Rattle.std.proofs.Common.{◌≡◌, ℕ, List, flat_map, ap, ◌∙◌, subst, sym, Some, Ok, Err}
use Rattle.std.specs.Option.{option_map}
use Rattle.std.specs.Prelude.{slice_get, Result, IfOk}
use Rattle.std.proofs.lemmas.Option.{slice_get-map}
use Rattle.std.proofs.lemmas.List.Folds.{flat_map-map}
use Rattle.tap_base.specs.declared.memory.NoMemory.{NoMemory}
use Rattle.tap_base.specs.declared.system.Action.{Action}
use Rattle.tap_base.specs.declared.system.Process.{Process}
use Rattle.tap_base.specs.declared.system.System.{System}
use Rattle.byte_meaning.specs.declared.cell.Cell.{Cell}
use Rattle.byte_meaning.specs.Messages.{Receives}
use Rattle.tap_exec.specs.Semantics.{ActionSemantics, action_semantics, guard_semantics, messages_of, process_semantics, semantics_of}
use Rattle.byte_meaning.specs.Meaning.{Means}
use Rattle.byte_meaning.specs.Reading.{heard, heard_by, heard_in, meaning, meaning_among}
use Rattle.byte_meaning.proofs.Meant.{meaning_is_meant}

heard_in_system : (system : System) (q p : ℕ) (process : Process) → slice_get system.processes p ≡ Some process
    → heard (semantics_of system) q p ≡ flat_map (λ (a : Action). heard_by q (guard_semantics a.guard)) process.actions
heard_in_system system q p process is =
    ap (heard_in q) (slice_get-map (process_semantics (messages_of system)) system.processes p)
    ∙ ap (λ o. heard_in q (option_map (process_semantics (messages_of system)) o)) is
    ∙ flat_map-map (λ (a : ActionSemantics). heard_by q a.guard) (action_semantics (messages_of system)) process.actions

-- what the actions of a process hear is the meaning
pub meaning_by_actions : (system : System) (q p : ℕ) (bytes : List ℕ) (processes : List Process) (process : Process) (actions : List Action) → processes ≡ system.processes → actions ≡ process.actions
    → slice_get processes p ≡ Some process
    → meaning_among (messages_of system) (flat_map (λ (a : Action). heard_by q (guard_semantics a.guard)) actions) bytes ≡ meaning (semantics_of system) q p bytes
meaning_by_actions system q p bytes processes process actions all own is =
    ap (λ as_. meaning_among (messages_of system) (flat_map (λ (a : Action). heard_by q (guard_semantics a.guard)) as_) bytes) own
    ∙ sym (ap (λ numbers. meaning_among (messages_of system) numbers bytes) (heard_in_system system q p process (ap (λ ps. slice_get ps p) (sym all) ∙ is)))

pub meant_cell : (system : System) (q p : ℕ) (bytes : List ℕ) (r : Result Cell NoMemory) → IfOk r (λ c. c ≡ meaning (semantics_of system) q p bytes)
    → IfOk r (λ c. Means (messages_of system) (Receives (semantics_of system)) q p bytes c)
meant_cell system q p bytes (Ok c) h = subst (Means (messages_of system) (Receives (semantics_of system)) q p bytes) (sym h) (meaning_is_meant (semantics_of system) q p bytes)
meant_cell system q p bytes (Err e) h = tt
