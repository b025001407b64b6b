-- The order of rejects, worked on a process at which errors of two peers and a message arrive.
use Rattle.std.specs.Prelude.{[], ◌∷◌}
use Rattle.byte_meaning.specs.declared.cell.Cell.TheVariants as cell
use Rattle.abstract_run.specs.declared.label.Label.TheVariants as label
use Rattle.abstract_run.specs.declared.state.State.{State}
use Rattle.abstract_run.specs.Opening.{opening_state}
use Rattle.tap_exec.specs.Semantics.{ProcessSemantics, Semantics}
use Rattle.exact_choice.specs.Rejects.{RejectsInOrder}

-- it has no action
abbrev pub bare : ProcessSemantics
bare = record { name = 97 ∷ []; inputs = []; vars = []; timers = 0; actions = [] }

abbrev pub three_processes : Semantics
three_processes = record { messages = []; processes = bare ∷ bare ∷ bare ∷ [] }

-- An error, a message and an error are in flight from 1 to 0, and an error from 2 to 0.
abbrev pub in_flight : State
in_flight = record (opening_state three_processes (record { of = [] ∷ [] ∷ [] ∷ [] })) {
  channels =
      record { from = 1; to = 0; cells = cell.Error ∷ cell.Msg 0 [] ∷ cell.Error ∷ []; mark = 0 }
      ∷ record { from = 2; to = 0; cells = cell.Error ∷ []; mark = 0 }
      ∷ [];
}

-- The error of 2 arrives first and goes first, and then those of 1. The second of these stands behind the message.
abbrev pub ByArrival : Type 0
ByArrival =
    RejectsInOrder three_processes in_flight
    (label.Arrive 2 0 ∷ label.Arrive 1 0 ∷ label.Arrive 1 0 ∷ label.Arrive 1 0 ∷ label.Reject 2 0 0 ∷ label.Reject 1 0 0 ∷ label.Reject 1 0 1 ∷ [])

-- That of 1 does not go first, though its channel comes first.
abbrev pub NotByChannel : Type 0
NotByChannel = ¬ RejectsInOrder three_processes in_flight (label.Arrive 2 0 ∷ label.Arrive 1 0 ∷ label.Reject 1 0 0 ∷ label.Reject 2 0 0 ∷ [])
