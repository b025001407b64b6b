-- How a world serves an event, label by label.
use Rattle.std.specs.Prelude.{◌≡◌, ℕ, ◌<◌, ◌≤◌, ◌+◌, Bool, true, false, List, [], ◌∷◌, ◌++◌, ℤ, FitsSigned, length, slice_get, slice_set, Option, Some, None}
use Rattle.std.specs.Int.{w64}
use Rattle.std.specs.Option.{option_map}
use Rattle.tap_base.specs.declared.system.System.{System}
use Rattle.tap_base.specs.Lists.{Each}
use Rattle.tap_base.specs.Option.{◌>>=◌}
use Rattle.tap_exec.specs.declared.running.Outgoing.{Outgoing}
use Rattle.tap_exec.specs.Semantics.{Semantics, semantics_of}
use Rattle.abstract_run.specs.declared.label.Event.{Event}
use Rattle.abstract_run.specs.declared.label.Event.TheVariants as event
use Rattle.abstract_run.specs.declared.label.Label.{Label}
use Rattle.abstract_run.specs.declared.label.Label.TheVariants as label
use Rattle.abstract_run.specs.declared.state.Falling.{Falling}
use Rattle.abstract_run.specs.declared.state.State.{State}
use Rattle.abstract_run.specs.Answers.{EndsTurn, IsRejectOf, arrived}
use Rattle.abstract_run.specs.CellCount.{cells_in}
use Rattle.abstract_run.specs.Enabled.{is_enabled}
use Rattle.abstract_run.specs.Fits.{Fits}
use Rattle.abstract_run.specs.Step.{step}
use Rattle.rand_pcg.specs.Lcg.{Lcg}
use Rattle.guard_scheduler.specs.Cursor.{Cursor}
use Rattle.guard_scheduler.specs.Turnstile.{Picks}
use Rattle.exact_choice.specs.Choice.{ChoosesAct}
use Rattle.exact_choice.specs.Draws.{DrawsAct}
use Rattle.run_text.specs.TraceText.{went_out}
use Rattle.world_run.specs.declared.course.Course.{Course}
use Rattle.world_run.specs.declared.deeds.Deeds.{Deeds}
use Rattle.world_run.specs.declared.given.Given.{Given}
use Rattle.world_run.specs.Served.{Happened, IsCourse, Recorded}

-- ---- what is given

abbrev pub said_by : Given → Semantics
said_by given = semantics_of given.system.now

-- ---- what is recorded

-- A label that led to a state was recorded behind others, and those of its sends that went out behind those before.
pub record KeepsLabel (l : Label) (new : State) (sends : List Outgoing) (before after : Deeds) : Type 0 where
  pub labels : after.labels ≡ before.labels ++ l ∷ []
  pub sent : after.sent ≡ before.sent ++ went_out (new, sends)

-- ---- one label

-- how many cells more than before a label leaves at most
abbrev pub most_more : Label → ℕ
most_more (label.Act p a choices) = 64
most_more (label.Copy q p i) = 1
most_more (label.Forge q p bytes) = 1
most_more _ = 0

-- One label was done, and recorded behind others.
pub record DidOne (semantics : Semantics) (l : Label) (old new : Course) (before after : Deeds) : Type 0 where
  pub sends : List Outgoing
  pub ran : step semantics old.state l ≡ Some (new.state, sends)
  pub fits : Fits semantics new.state
  pub cells : new.cells ≡ cells_in new.state
  pub few : new.cells ≤ old.cells + most_more l
  pub recorded : Recorded semantics old.state (l ∷ []) before after

-- A label was done where it is possible, and else nothing was.
abbrev pub Tried : Semantics → Label → Course → Course → Deeds → Bool → Deeds → Type 0
Tried semantics l old new before true after = DidOne semantics l old new before after
Tried semantics l old new before false after = (step semantics old.state l ≡ None) × (new ≡ old) × (after ≡ before)

-- It leaves the cursors, the generators and the lists of errors.
abbrev pub IsPlain : Label → Type 0
IsPlain (label.Act p a choices) = ⊥
IsPlain (label.Arrive q p) = ⊥
IsPlain (label.Reject q p i) = ⊥
IsPlain _ = Unit {0}

-- the label of an event that is no turn
abbrev pub label_of : Event → Label
label_of (event.Turn p c) = label.Void
label_of (event.Arrive q p) = label.Arrive q p
label_of (event.Lose q p i) = label.Lose q p i
label_of (event.Copy q p i) = label.Copy q p i
label_of (event.Move q p i j) = label.Move q p i j
label_of (event.Damage q p i bytes) = label.Damage q p i bytes
label_of (event.Forge q p bytes) = label.Forge q p bytes
label_of (event.Cut p n) = label.Cut p n

-- ---- rejects

-- the sender of the error at p that arrived first
abbrev pub first_of : List (List ℕ) → ℕ → Option ℕ
first_of errors p = slice_get errors p >>= λ senders. slice_get senders 0

-- So many errors of a process were rejected, and nothing else happened.
pub record Rejected (semantics : Semantics) (p rejects : ℕ) (old new : Course) (before after : Deeds) : Type 0 where
  pub labels : List Label
  pub of_process : Each (IsRejectOf p) labels
  pub counted : length labels ≡ rejects
  pub did : Happened semantics labels old new before after
  pub course : IsCourse semantics new
  pub settled : new.state.falling ≡ None
  pub down : new.state.down ≡ old.state.down
  pub fewer : arrived new.state p + rejects ≡ arrived old.state p
  pub few : new.cells ≤ old.cells

-- ---- actions

-- how many actions a process has
abbrev pub action_count : System → ℕ → Option ℕ
action_count system p = option_map (λ process. length process.actions) (slice_get system.processes p)

-- Of each of so many actions of a process, whether it is enabled.
pub record AreEnabled (semantics : Semantics) (s : State) (p actions : ℕ) (enabled : List Bool) : Type 0 where
  pub counted : length enabled ≡ actions
  pub told : (a : ℕ) → a < actions → slice_get enabled a ≡ Some (is_enabled semantics s p a)

-- The cursor of a process, where there is one, picks from the list; the others stay.
abbrev pub PicksAt : List Cursor → ℕ → List Bool → Option ℕ → List Cursor → Type 0
PicksAt old p enabled picked new = (from : Cursor) → slice_get old p ≡ Some from → (to : Cursor) × Picks from enabled picked to × (new ≡ slice_set old p to)

-- The next enabled action of a process was chosen by its cursor, or none is enabled.
abbrev pub Chose : Semantics → State → ℕ → List Cursor → Option ℕ → List Cursor → Type 0
Chose semantics s p old (Some a) new = ChoosesAct semantics s p a old new
Chose semantics s p old None new = ((a : ℕ) → is_enabled semantics s p a ≡ false) × (new ≡ old)

-- The generator of a process was taken out, and another one stands in its place.
pub record IsTaken (old : List Lcg) (p : ℕ) (taken : Lcg) (new : List Lcg) : Type 0 where
  pub stood : slice_get old p ≡ Some taken
  pub other : Lcg
  pub left : new ≡ slice_set old p other

-- An action was done with choices that the generator of its process drew, each a number of 64 bits, and recorded behind
-- others.
pub record DidAct (semantics : Semantics) (p a : ℕ) (old new : Course) (before after : Deeds) : Type 0 where
  pub choices : List ℤ
  pub drawn : DrawsAct semantics old.state p a choices old.generators new.generators
  pub sized : Each (FitsSigned w64) choices
  pub did : DidOne semantics (label.Act p a choices) old new before after

-- the stop that is due where a cut fell
abbrev pub fall_labels : Option Falling → List Label
fall_labels None = []
fall_labels (Some f) = label.Stop f.process f.receivers ∷ []

-- A turn came to its end behind so many rejects.
pub record Ended (semantics : Semantics) (p rejects : ℕ) (old new : Course) (before after : Deeds) : Type 0 where
  pub labels : List Label
  pub ends : EndsTurn p rejects labels
  pub did : Happened semantics labels old new before after
  pub course : IsCourse semantics new
  pub settled : new.state.falling ≡ None
  pub few : new.cells ≤ old.cells + 64
