-- The choice in cyclic order, worked on a process with two actions that are always enabled.
use Rattle.std.specs.Prelude.{ℕ, true, [], ◌∷◌, Some}
use Rattle.abstract_run.specs.declared.label.Label.{Label}
use Rattle.abstract_run.specs.declared.label.Label.TheVariants as label
use Rattle.abstract_run.specs.declared.state.State.{State}
use Rattle.abstract_run.specs.Opening.{opening_state}
use Rattle.tap_exec.specs.Semantics.{ActionSemantics, Semantics, local}
use Rattle.exact_choice.specs.Choice.{ChoosesInTurn}

-- it is always enabled, and does nothing
abbrev pub always : ActionSemantics
always = record { guard = local (λ cells inputs. true); body = λ inputs received r. Some r }

abbrev pub two_actions : Semantics
two_actions = record {
  messages = [];
  processes = record { name = 97 ∷ []; inputs = []; vars = []; timers = 0; actions = always ∷ always ∷ [] } ∷ [];
}

abbrev pub opened : State
opened = opening_state two_actions (record { of = [] ∷ [] })

abbrev pub act : ℕ → Label
act a = label.Act 0 a []

-- The second action runs after the first, and the first after the second, whatever else happens in between.
abbrev pub TurnsGoRound : Type 0
TurnsGoRound = ChoosesInTurn two_actions opened (act 0 ∷ label.Tick 0 7 ∷ act 1 ∷ act 0 ∷ [])

-- The first action does not run twice in a row, while the second is enabled.
abbrev pub NotTwice : Type 0
NotTwice = ¬ ChoosesInTurn two_actions opened (act 0 ∷ act 0 ∷ [])
