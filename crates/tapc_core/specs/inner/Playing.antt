-- How a schedule is played, line by line, and what was put of it.
use Rattle.std.specs.Prelude.{◌≡◌, ◌⊎◌, ℕ, ◌+◌, ◌<◌, ◌≤◌, List, [], ◌∷◌, ◌++◌, length, IfSome, Option, Some, Result, Ok, Err}
use Rattle.std.specs.Io.KnownBytes.{Appends}
use Rattle.tap_base.specs.Lists.{Each}
use Rattle.tap_base.specs.declared.system.Inputs.{Inputs}
use Rattle.tap_base.specs.declared.system.System.{System}
use Rattle.tap_exec.specs.Semantics.{Semantics, semantics_of}
use Rattle.abstract_run.specs.CellCount.{cells_in}
use Rattle.world_run.specs.RunsFrom.{IsRunFrom}
use Rattle.world_run.specs.Served.{Answers, WorldValue, full_from}
use Rattle.abstract_run.specs.declared.label.Event.{Event}
use Rattle.abstract_run.specs.declared.label.Label.{Label}
use Rattle.abstract_run.specs.declared.state.State.{State}
use Rattle.run_text.specs.ScheduleText.{AreListed, BeginsBadly, IsFirstLine, IsLineOf, events_text, most_events}
use Rattle.run_text.specs.Sized.{IsSized}
use Rattle.run_text.specs.TraceText.{lines_text, names_in, run_lines}
use Rattle.link_trait.specs.Outside.{Rose}
use Rattle.tapc_core.specs.Run.{FileGives, Task}
use Rattle.tapc_core.specs.declared.lines.Stop.{Stop}
use Rattle.tapc_core.specs.declared.lines.Stop.TheVariants as stop
use Rattle.world_run.specs.declared.fault.WorldFault.TheVariants as world_fault

-- The file of the system gives what the system says, and with the settings these inputs; the seed is this one; and the
-- schedule is this text, where it is told.
pub record AreOf (seed : ℕ) (system : System) (inputs : Inputs) (schedule : List ℕ) (task : Task) : Type 0 where
  pub gives : FileGives task.text task.settings (semantics_of system) inputs
  pub seed_is : task.seed ≡ seed
  pub schedule_is : IfSome task.schedule (λ text. schedule ≡ text)

-- The lines of the events were read, and the rest of the schedule is left. The line feed of the last line may be
-- wanting.
abbrev pub Passed : List (List ℕ) → List ℕ → List Event → List ℕ → Type 0
Passed names schedule events rest =
    (schedule ≡ events_text names events ++ rest) ⊎ ((rest ≡ []) × (schedule ++ 10 ∷ [] ≡ events_text names events))

-- The first events of a schedule were served, from a state to another, and the line of a number comes next. What was put
-- since a moment, and then the page, are the lines of their labels.
pub record Progress (seed : ℕ) (semantics : Semantics) (start : State) (schedule rest : List ℕ) (number : ℕ) (s : State) (before now : Option (List ℕ)) (page : List ℕ) : Type 0 where
  pub events : List Event
  pub listed : AreListed (length (names_in semantics)) events
  pub passed : Passed (names_in semantics) schedule events rest
  pub count : number ≡ length events + 1
  pub labels : List Label
  pub run : IsRunFrom seed semantics start events labels s
  pub sized : Each (IsSized (length semantics.processes)) labels
  pub put : List ℕ
  pub told : Appends before now put
  pub lines : List (List ℕ)
  pub shown : run_lines semantics start labels ≡ Some lines
  pub is : lines_text lines ≡ put ++ page

-- A put failed: what was put is a front of the lines of the labels of some first events.
pub record Broken (seed : ℕ) (semantics : Semantics) (start : State) (schedule : List ℕ) (before now : Option (List ℕ)) : Type 0 where
  pub rest : List ℕ
  pub number : ℕ
  pub last : State
  pub middle : Option (List ℕ)
  pub page : List ℕ
  pub progress : Progress seed semantics start schedule rest number last before middle page
  pub front : List ℕ
  pub behind : List ℕ
  pub cut : front ++ behind ≡ page
  pub told : Appends middle now front

-- The line of this number is that of an event.
pub record IsNext (names : List (List ℕ)) (rest : List ℕ) (number : ℕ) : Type 0 where
  pub some : rest ≡ [] → ⊥
  pub line : List ℕ
  pub behind : List ℕ
  pub first : IsFirstLine rest line behind
  pub event : Event
  pub is : IsLineOf names line event
  pub few : number ≤ most_events

-- what playing a schedule leaves: it is served to its end, or a line is none, or an event is reached with too many cells,
-- or memory was refused, or a put failed
abbrev pub Plays : ℕ → Semantics → State → List ℕ → Option (List ℕ) → Result Unit Stop → State → Option (List ℕ) → List ℕ → Type 0
Plays seed semantics start schedule before (Ok x) s now page = (number : ℕ) × Progress seed semantics start schedule [] number s before now page
Plays seed semantics start schedule before (Err (stop.BadLine number)) s now page =
    (rest : List ℕ) × (rest ≡ [] → ⊥) × ((most_events < number) ⊎ BeginsBadly (names_in semantics) rest) × Progress seed semantics start schedule rest number s before now page
Plays seed semantics start schedule before (Err (stop.Full cells)) s now page =
    (rest : List ℕ) × (number : ℕ) × IsNext (names_in semantics) rest number × (full_from < cells) × (cells ≡ cells_in s) × Progress seed semantics start schedule rest number s before now page
Plays seed semantics start schedule before (Err stop.NoMemory) s now page = (rest : List ℕ) × (number : ℕ) × (t : State) × Progress seed semantics start schedule rest number t before now page
Plays seed semantics start schedule before (Err stop.Failed) s now page = Broken seed semantics start schedule before now

-- what moving a page to a sink leaves: the front that was put, and then the page, are the page as it was
abbrev pub Moves : {E : Type 0} → List ℕ → Option (List ℕ) → Result Unit E → List ℕ → Option (List ℕ) → Type 0
Moves old before (Ok x) new now = (put : List ℕ) × Appends before now put × (put ++ new ≡ old)
Moves old before (Err e) new now = (front rest : List ℕ) × (front ++ rest ≡ old) × Appends before now front

-- the count rose where a put failed, and is as before with every other answer
abbrev pub HasPlayCause : ℕ → ℕ → Result Unit Stop → Type 0
HasPlayCause before now (Err stop.Failed) = (before ≤ now) × Rose before now
HasPlayCause before now _ = now ≡ before

-- what serving an event leaves in a world that has not ended: it is served, or there are too many cells, or memory was refused
abbrev pub StopsAt : Event → WorldValue → List ℕ → Result Unit Stop → WorldValue → List ℕ → Type 0
StopsAt event old before (Ok x) new after = Answers event old before (Ok x) new after
StopsAt event old before (Err (stop.Full cells)) new after = Answers event old before (Err (world_fault.Full cells)) new after
StopsAt event old before (Err stop.NoMemory) new after = Answers event old before (Err world_fault.NoMemory) new after
StopsAt event old before (Err _) new after = ⊥
