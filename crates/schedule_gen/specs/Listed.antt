-- Generated schedules as texts.
use Rattle.std.specs.Prelude.{◌≡◌, ◌⊎◌, ℕ, ◌≤◌, List, [], ◌∷◌, length, Result, Ok, Err}
use Rattle.tap_base.specs.Resolved.{IsResolved}
use Rattle.tap_base.specs.declared.system.System.{System}
use Rattle.tap_exec.specs.Semantics.{semantics_of}
use Rattle.abstract_run.specs.declared.label.Event.{Event}
use Rattle.run_text.specs.Names.{AreNames}
use Rattle.run_text.specs.Reads.{Reads}
use Rattle.run_text.specs.ScheduleText.{AreListed, IsFirstLine, IsLineOf, Lacks, SpellsSchedule, events_text, most_events}
use Rattle.run_text.specs.TraceText.{names_in}
use Rattle.run_text.specs.declared.fault.LineFault.{LineFault}
use Rattle.run_text.specs.declared.fault.LineFault.TheVariants as fault
use Rattle.schedule_gen.specs.Schedule.{generated_events}

-- the text of a generated schedule: a line for each event
abbrev pub made_text : System → ℕ → ℕ → ℕ → List ℕ
made_text system seed n faults = events_text (names_in (semantics_of system)) (generated_events system seed n faults)

-- Each event of a generated schedule is one that the processes of its system can have, as far as a schedule goes.
abbrev pub AllAreListed : Type 0
AllAreListed = (system : System) (seed n faults : ℕ) → IsResolved system → n ≤ most_events → AreListed (length system.processes) (generated_events system seed n faults)

-- A reader of the line answers this event, or it finds no memory.
abbrev pub IsReadAs : List (List ℕ) → List ℕ → Event → Type 0
IsReadAs names line e = (result : Result Event LineFault) → Reads (IsLineOf names line) result → (result ≡ Ok e) ⊎ (result ≡ Err fault.NoMemory)

-- Line after line, and to its end, the text is read as these events.
abbrev pub AreRead : List (List ℕ) → List ℕ → List Event → Type 0
AreRead names text [] = text ≡ []
AreRead names text (e ∷ es) = (line rest : List ℕ) × IsFirstLine text line rest × Lacks 10 line × IsReadAs names line e × AreRead names rest es

-- The text is a schedule of these events and of no others, and is read as them.
pub record IsTextOf (names : List (List ℕ)) (text : List ℕ) (events : List Event) : Type 0 where
  pub spells : SpellsSchedule names text events
  pub alone : (others : List Event) → SpellsSchedule names text others → others ≡ events
  pub read : AreRead names text events

-- The text of a generated schedule is a schedule, of the generated events.
abbrev pub MadeIsSchedule : Type 0
MadeIsSchedule = (system : System) (seed n faults : ℕ) → IsResolved system → AreNames (names_in (semantics_of system)) → n ≤ most_events
    → IsTextOf (names_in (semantics_of system)) (made_text system seed n faults) (generated_events system seed n faults)
