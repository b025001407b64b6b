-- What is written of a run on generated events.
use Rattle.std.proofs.Common.{◌≡◌, ℕ, List, ◌++◌, Option, Ok, Err, ap, subst, ◌∙◌}
use Rattle.tap_base.specs.declared.system.Inputs.{Inputs}
use Rattle.tap_base.specs.declared.system.System.{System}
use Rattle.tap_exec.specs.Semantics.{semantics_of}
use Rattle.abstract_run.specs.Opening.{opening_state}
use Rattle.abstract_run.specs.declared.label.Label.{Label}
use Rattle.abstract_run.specs.declared.state.State.{State}
use Rattle.run_text.specs.TraceText.{last_lines, lines_text}
use Rattle.schedule_gen.specs.Schedule.{events_from, opening}
use Rattle.soak_run.specs.Counted.{IsTallyOf}
use Rattle.soak_run.specs.Soaked.{Soaks}
use Rattle.soak_run.specs.declared.tally.Tally.{Tally}
use Rattle.world_run.specs.RunsFrom.{IsRunFrom}
use Rattle.world_run.specs.declared.fault.WorldFault.{WorldFault}
use Rattle.world_run.specs.declared.fault.WorldFault.TheVariants as world_fault
use Rattle.tapc_core.specs.Lines.{tally_text}
use Rattle.tapc_core.specs.Run.{SetsUp}
use Rattle.tapc_core.specs.Written.{IsWritten, Writes}
use Rattle.tapc_core.specs.commands.Soak.{IsSoakFull, IsSoakText, Load, OfSoak, SoakRun}
use Rattle.tapc_core.specs.inner.Soaking.{OfRun}
use Rattle.tapc_core.specs.declared.status.Status.{Status}
use Rattle.tapc_core.specs.declared.status.Status.TheVariants.{Done, Refused, Usage, BadSchedule, ReadFault, WriteFault, LinkFault, NoMemory, NotARun, WorldFull}

-- ---- a run

-- the run of a world that began in the opening state
abbrev soaked_run : {draws seed faults n : ℕ} {system : System} {inputs : Inputs} {start last : State} {labels : List Label} → draws ≡ seed → start ≡ opening_state (semantics_of system) inputs
    → IsRunFrom draws (semantics_of system) start (events_from n (opening system seed faults)) labels last → SoakRun seed faults n system inputs
soaked_run {seed = seed} {faults = faults} {n = n} {system = system} {start = start} {last = last} {labels = labels} same begins run =
    let m = semantics_of system in
    let events = events_from n (opening system seed faults) in
    record { labels = labels; last = last; run = subst (λ s. IsRunFrom seed m s events labels last) begins (subst (λ d. IsRunFrom d m start events labels last) same run) }

-- its counts, and the last lines
pub soak_text : {draws seed faults n : ℕ} {system after : System} {inputs : Inputs} {start last : State} {tally : Tally} {bytes : List ℕ} → draws ≡ seed → start ≡ opening_state (semantics_of system) inputs
    → Soaks draws (semantics_of system) start (opening system seed faults) n (Ok tally) last → after ≡ system → bytes ≡ tally_text n tally ++ lines_text (last_lines (semantics_of after) last)
    → IsSoakText seed faults n system inputs bytes
soak_text {n = n} {system = system} {last = last} {tally = tally} same begins h still is = record {
  soaked = soaked_run same begins h.1;
  tally = tally;
  counted = subst (λ s. IsTallyOf (semantics_of system) s h.0 tally) begins h.2;
  is = is ∙ ap (λ x. tally_text n tally ++ lines_text (last_lines (semantics_of x) last)) still;
}

-- how many cells stood in the channels
pub soak_full : {draws seed faults n cells : ℕ} {system : System} {inputs : Inputs} {start : State} (last : State) (fault : WorldFault) → draws ≡ seed → start ≡ opening_state (semantics_of system) inputs
    → Soaks draws (semantics_of system) start (opening system seed faults) n (Err fault) last → fault ≡ world_fault.Full cells → IsSoakFull seed faults n system inputs cells
soak_full {draws = draws} {seed = seed} {faults = faults} {n = n} {system = system} {start = start} last fault same begins h is =
    let f = subst (λ e. Soaks draws (semantics_of system) start (opening system seed faults) n (Err e) last) is h in
    record { served = f.0; fewer = f.1; soaked = soaked_run same begins f.3; many = f.4; counted = f.5 }

-- ---- what is written

-- of a system and inputs that a file and settings give
module _ (load : Load) (system : System) (inputs : Inputs) (gives : SetsUp load.text load.settings system inputs) where
  abbrev Kind : Status → List ℕ → Type 0
  Kind = OfRun load.seed load.faults load.events system inputs

  of_run : (status : Status) (bytes : List ℕ) → Kind status bytes → OfSoak load status bytes
  of_run Done bytes h = record { system = system; inputs = inputs; gives = gives; text = h }
  of_run WorldFull bytes h = record { system = system; inputs = inputs; gives = gives; cells = h.0; full = h.1; is = h.2 }
  of_run NoMemory bytes h = h
  of_run Refused bytes h = absurd h
  of_run Usage bytes h = absurd h
  of_run BadSchedule bytes h = absurd h
  of_run ReadFault bytes h = absurd h
  of_run WriteFault bytes h = absurd h
  of_run LinkFault bytes h = absurd h
  of_run NotARun bytes h = absurd h

  is_written : (status : Status) (bytes : List ℕ) → IsWritten Kind status bytes → IsWritten (OfSoak load) status bytes
  is_written WriteFault bytes h = record { status = h.status; whole = h.whole; output = of_run h.status h.whole h.output; rest = h.rest; front = h.front }
  is_written Done bytes h = of_run Done bytes h
  is_written WorldFull bytes h = of_run WorldFull bytes h
  is_written NoMemory bytes h = h
  is_written Refused bytes h = absurd h
  is_written Usage bytes h = absurd h
  is_written BadSchedule bytes h = absurd h
  is_written ReadFault bytes h = absurd h
  is_written LinkFault bytes h = absurd h
  is_written NotARun bytes h = absurd h

  pub soak_writes : {before now : Option (List ℕ)} (r : Status) → Writes Kind r before now → Writes (OfSoak load) r before now
  soak_writes r h = record { bytes = h.bytes; told = h.told; kind = is_written r h.bytes h.kind }
