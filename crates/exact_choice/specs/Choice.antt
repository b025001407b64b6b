-- Exact choice: each action that runs is the first enabled one of its process in cyclic order, from the one after the
-- last that ran.
use Rattle.std.specs.Prelude.{ℕ, ◌≡◌, true, List, [], ◌∷◌, map, length, slice_get, slice_set, Some}
use Rattle.guard_scheduler.specs.Cursor.{Cursor}
use Rattle.guard_scheduler.specs.Turnstile.{TakesNext}
use Rattle.abstract_run.specs.declared.label.Label.{Label}
use Rattle.abstract_run.specs.declared.label.Label.TheVariants as label
use Rattle.abstract_run.specs.declared.state.State.{State}
use Rattle.abstract_run.specs.Enabled.{is_enabled}
use Rattle.tap_exec.specs.Semantics.{Semantics}
use Rattle.exact_choice.specs.Moments.{Moment, moments}

-- There is a cursor for each process, and it goes round the actions of the process.
abbrev pub AreCursorsOf : Semantics → List Cursor → Type 0
AreCursorsOf semantics cursors = map (λ c. c.places) cursors ≡ map (λ process. length process.actions) semantics.processes

-- one cursor for each process, at its first action
abbrev pub opening_cursors : Semantics → List Cursor
opening_cursors semantics = map (λ process. record { places = length process.actions; at = 0 }) semantics.processes

-- The action a of p is the first enabled one in cyclic order from the cursor of p, which then stands at the action after
-- it, and after the last one at 0. The other cursors stay.
pub record ChoosesAct (semantics : Semantics) (s : State) (p a : ℕ) (old new : List Cursor) : Type 0 where
  pub from : Cursor
  pub stood : slice_get old p ≡ Some from
  pub to : Cursor
  pub next : TakesNext (λ b. is_enabled semantics s p b ≡ true) from a to
  pub moved : new ≡ slice_set old p to

-- An action is chosen so. Every other label leaves the cursors.
abbrev pub Chooses : Semantics → Moment → List Cursor → List Cursor → Type 0
Chooses semantics (s, label.Act p a choices) old new = ChoosesAct semantics s p a old new
Chooses semantics m old new = new ≡ old

-- one moment after another
abbrev pub AllChoose : Semantics → List Moment → List Cursor → List Cursor → Type 0
AllChoose semantics [] old new = new ≡ old
AllChoose semantics (m ∷ ms) old new = (middle : List Cursor) × Chooses semantics m old middle × AllChoose semantics ms middle new

-- Each action of a run is chosen so; at its beginning each cursor stands at 0.
pub record ChoosesInTurn (semantics : Semantics) (s : State) (labels : List Label) : Type 0 where
  -- where the cursors stand at the end
  pub cursors : List Cursor
  pub all : AllChoose semantics (moments semantics s labels) (opening_cursors semantics) cursors

-- What is chosen is determined.
abbrev pub OneChoice : Type 0
OneChoice = (semantics : Semantics) (s : State) (p a b : ℕ) (old new other : List Cursor) → ChoosesAct semantics s p a old new → ChoosesAct semantics s p b old other → (a ≡ b) × (new ≡ other)
