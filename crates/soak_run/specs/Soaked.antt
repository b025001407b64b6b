-- What a run on generated events answers.
use Rattle.std.specs.Prelude.{◌≡◌, ℕ, ◌<◌, List, Result, Ok, Err}
use Rattle.tap_exec.specs.Semantics.{Semantics}
use Rattle.abstract_run.specs.CellCount.{cells_in}
use Rattle.abstract_run.specs.declared.label.Label.{Label}
use Rattle.abstract_run.specs.declared.state.State.{State}
use Rattle.schedule_gen.specs.Schedule.{Making, events_from}
use Rattle.soak_run.specs.Counted.{IsTallyOf}
use Rattle.soak_run.specs.declared.tally.Tally.{Tally}
use Rattle.world_run.specs.RunsFrom.{IsRunFrom}
use Rattle.world_run.specs.Served.{GoesOn, WorldValue, full_from}
use Rattle.world_run.specs.declared.fault.WorldFault.{WorldFault}
use Rattle.world_run.specs.declared.fault.WorldFault.TheVariants as fault

-- The tally is that of a run from a state on the first n events, whose choices the seed draws, and the last state is that
-- of this run. Where the channels had too many cells, the run is one on fewer events, and they are the cells of its last
-- state. A world that is fresh has not ended.
abbrev pub Soaks : ℕ → Semantics → State → Making → ℕ → Result Tally WorldFault → State → Type 0
Soaks seed semantics start making n (Ok tally) last = (labels : List Label) × IsRunFrom seed semantics start (events_from n making) labels last × IsTallyOf semantics start labels tally
Soaks seed semantics start making n (Err (fault.Full cells)) last =
    (k : ℕ) × (k < n) × (labels : List Label) × IsRunFrom seed semantics start (events_from k making) labels last × (full_from < cells) × (cells ≡ cells_in last)
Soaks seed semantics start making n (Err fault.Ended) last = ⊥
Soaks seed semantics start making n (Err fault.NoMemory) last = Unit {0}

-- The world can go on, unless memory was refused.
abbrev pub GoesOnWith : Result Tally WorldFault → WorldValue → Type 0
GoesOnWith (Ok tally) world = GoesOn world
GoesOnWith (Err (fault.Full cells)) world = GoesOn world
GoesOnWith (Err fault.Ended) world = ⊥
GoesOnWith (Err fault.NoMemory) world = Unit {0}
