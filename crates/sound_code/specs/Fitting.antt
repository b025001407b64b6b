-- The moments of a run that fit the code.
use Rattle.std.specs.Prelude.{◌≡◌, ◌≤◌, ℤ, pos, List, map, length, Option, Some, None}
use Rattle.tap_base.specs.Interval.{from_to}
use Rattle.tap_base.specs.Lists.{Each}
use Rattle.tap_base.specs.Ranges.{AreAllIn, values_of}
use Rattle.tap_exec.specs.declared.running.Outgoing.{Outgoing}
use Rattle.tap_exec.specs.Execution.{takes}
use Rattle.abstract_run.specs.Fits.{IsFitTimer}
use Rattle.byte_meaning.specs.Messages.{AreFields, IsFitSend}
use Rattle.register_code.specs.declared.code.CodeField.{CodeField}
use Rattle.register_code.specs.declared.instr.Instr.{Instr}
use Rattle.register_code.specs.declared.instr.Instr.TheVariants as instr
use Rattle.register_code.specs.CodeSemantics.{code_semantics}
use Rattle.register_code.specs.Fields.{code_field}
use Rattle.register_code.specs.Instructions.{Moment, ones, run_of}
use Rattle.register_code.specs.Sites.{Site}

-- the values received fit, where the action receives a message
abbrev pub ReceivedFit : Option (List CodeField) → List ℤ → Type 0
ReceivedFit None values = Unit {0}
ReceivedFit (Some fields) values = AreFields (map code_field fields) values

-- Another process receives the message of a send from the process of the site, and the values are those of it.
abbrev pub SendFits : Site → Outgoing → Type 0
SendFits s o = IsFitSend (code_semantics (record { messages = s.messages; processes = s.processes })) s.process o

-- Every register is within its range, and nothing is missing.
pub record FitsSite (s : Site) (m : Moment) : Type 0 where
  pub registers : AreAllIn s.ranges m.registers
  pub counters : length m.counters ≡ length s.instrs
  pub timers : length m.timers ≡ s.timers
  pub delays : Each IsFitTimer m.timers
  pub sends : Each (SendFits s) m.sends
  pub inside : m.next ≤ length s.instrs

-- The instruction takes a choice, and the next one is no option of it.
abbrev pub IsRefused : Instr → Moment → Type 0
IsRefused (instr.Choose r lo hi) m = takes (values_of (from_to lo hi)) m.choices ≡ None
IsRefused (instr.Select r first count) m = (xs : List ℤ) × (run_of first count m.registers ≡ Some xs) × (takes (map pos (ones 0 xs)) m.choices ≡ None)
IsRefused _ m = ⊥
