-- The lines of a made schedule, written.
use Rattle.std.proofs.Common.{◌≡◌, ◌+◌, ◌-◌, inr, ℕ, List, Option, Ok, Err, IfSome, refl, ap, sym, arith, ◌∙◌}
use Rattle.tap_base.specs.declared.system.System.{System}
use Rattle.tap_exec.specs.Semantics.{semantics_of}
use Rattle.run_text.specs.TraceText.{names_in}
use Rattle.tap_front.specs.Accepting.{Accepted}
use Rattle.schedule_gen.specs.Laws.{behind_events}
use Rattle.schedule_gen.specs.Listed.{made_text}
use Rattle.schedule_gen.specs.Made.{Makes}
use Rattle.schedule_gen.specs.Schedule.{opening}
use Rattle.schedule_gen.specs.declared.fault.MakeFault.TheVariants as fault
use Rattle.schedule_gen.proofs.Gathered.{lines, lines_joined}
use Rattle.tapc_core.specs.Lines.{no_memory_line}
use Rattle.tapc_core.specs.Written.{IsWritten, Writes}
use Rattle.tapc_core.specs.commands.Make.{OfMake, Order}
use Rattle.tapc_core.specs.inner.Closing.{Closes}
use Rattle.tapc_core.specs.inner.Making.{OfLines}
use Rattle.tapc_core.specs.declared.status.Status.{Status}
use Rattle.tapc_core.specs.declared.status.Status.TheVariants.{Done, Refused, Usage, BadSchedule, ReadFault, WriteFault, LinkFault, NoMemory, NotARun, WorldFull}
use Rattle.tapc_core.proofs.Outputs.{closes_behind}

-- all lines were put
pub all_made : (system : System) (seed n faults : ℕ) (before now : Option (List ℕ)) → Makes system seed n faults before (Ok tt) now → Writes (OfLines system seed n faults) Done before now
all_made system seed n faults before now h = record { bytes = made_text system seed n faults; told = h; kind = refl }

-- those of the first events were put, and memory was refused
pub some_made : (system : System) (seed n faults : ℕ) (before middle now : Option (List ℕ)) (r : Status) → Makes system seed n faults before (Err fault.NoMemory) middle → Closes NoMemory no_memory_line middle now r
    → Writes (OfLines system seed n faults) r before now
some_made system seed n faults before middle now r h closes = closes_behind (OfLines system seed n faults) (made_text system seed h.0 faults) h.2 (h.0, h.1, refl) closes

-- a put failed
pub broken_made : (system : System) (seed n faults : ℕ) (before now : Option (List ℕ)) → Makes system seed n faults before (Err fault.WriteFault) now → Writes (OfLines system seed n faults) WriteFault before now
broken_made system seed n faults before now h = record {
  bytes = h.0;
  told = h.3;
  kind = record { status = Done; whole = made_text system seed n faults; output = refl; rest = h.1; front = h.2 };
}

-- ---- of a text that is accepted

module _ (order : Order) (system : System) (accepted : IfSome order.text (λ t. Accepted t system)) where
  of_lines : (status : Status) (bytes : List ℕ) → OfLines system order.seed order.events order.faults status bytes → OfMake order status bytes
  of_lines Done bytes h = record { system = system; accepted = accepted; is = h }
  of_lines NoMemory bytes h =
      let names = names_in (semantics_of system) in
      let m = opening system order.seed order.faults in
      let few = h.1 in
      let rest = lines names (order.events - h.0) (behind_events h.0 m) in
      let all : order.events ≡ h.0 + (order.events - h.0) = omega (arith, few) in
      record {
        front = made_text system order.seed h.0 order.faults;
        rest = rest;
        shown = inr (record { system = system; accepted = accepted; is = sym (lines_joined names h.0 (order.events - h.0) m) ∙ ap (λ n. lines names n m) (sym all) });
        is = h.2;
      }
  of_lines Refused bytes h = absurd h
  of_lines Usage bytes h = absurd h
  of_lines BadSchedule bytes h = absurd h
  of_lines ReadFault bytes h = absurd h
  of_lines WriteFault bytes h = absurd h
  of_lines LinkFault bytes h = absurd h
  of_lines NotARun bytes h = absurd h
  of_lines WorldFull bytes h = absurd h

  is_written : (status : Status) (bytes : List ℕ) → IsWritten (OfLines system order.seed order.events order.faults) status bytes → IsWritten (OfMake order) status bytes
  is_written WriteFault bytes h = record { status = h.status; whole = h.whole; output = of_lines h.status h.whole h.output; rest = h.rest; front = h.front }
  is_written Done bytes h = of_lines Done bytes h
  is_written NoMemory bytes h = of_lines NoMemory bytes h
  is_written Refused bytes h = absurd h
  is_written Usage bytes h = absurd h
  is_written BadSchedule bytes h = absurd h
  is_written ReadFault bytes h = absurd h
  is_written LinkFault bytes h = absurd h
  is_written NotARun bytes h = absurd h
  is_written WorldFull bytes h = absurd h

  pub made_writes : {before now : Option (List ℕ)} (r : Status) → Writes (OfLines system order.seed order.events order.faults) r before now → Writes (OfMake order) r before now
  made_writes r h = record { bytes = h.bytes; told = h.told; kind = is_written r h.bytes h.kind }
