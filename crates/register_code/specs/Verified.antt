-- Verified code, and the first rule that other code breaks.
use Rattle.std.specs.Prelude.{◌≡◌, ℕ, ◌-◌, Bool, if◌then◌else◌, nat_le, List, [], ◌∷◌, ◌++◌, map, length, slice_get, Option, Some, Result, Ok, Err}
use Rattle.register_code.specs.declared.bad.BadCode.{BadCode}
use Rattle.register_code.specs.declared.bad.VerifyFault.{VerifyFault}
use Rattle.register_code.specs.declared.bad.VerifyFault.TheVariants as fault
use Rattle.register_code.specs.declared.bad.Part.{Part}
use Rattle.register_code.specs.declared.bad.Part.TheVariants as part
use Rattle.register_code.specs.declared.code.Code.{Code}
use Rattle.register_code.specs.declared.code.CodeAction.{CodeAction}
use Rattle.register_code.specs.declared.code.CodeField.{CodeField}
use Rattle.register_code.specs.declared.code.CodeMessage.{CodeMessage}
use Rattle.register_code.specs.declared.code.CodeProcess.{CodeProcess}
use Rattle.register_code.specs.declared.instr.Instr.{Instr}
use Rattle.std.specs.Option.{option_map}
use Rattle.register_code.specs.Declarations.{limits_kept, fields_fit, values_fit, temporaries_fit, guard_fits}
use Rattle.register_code.specs.Loops.{cost, sends}
use Rattle.register_code.specs.Registers.{cell_ranges, received_message, register_ranges}
use Rattle.tap_base.specs.ListWords.{by_number}
use Rattle.tap_base.specs.Option.{◌>>=◌}
use Rattle.register_code.specs.Rules.{broken, unless}
use Rattle.register_code.specs.Sites.{Site}

-- ---- one part

-- the fields of the message that an action receives
abbrev pub received_fields : Code → CodeAction → Option (List CodeField)
received_fields code a = received_message a >>= λ m. option_map (λ (d : CodeMessage). d.fields) (slice_get code.messages m)

abbrev pub instrs_of : Part → CodeAction → List Instr
instrs_of part.Guard a = a.guard
instrs_of part.Body a = a.body

abbrev pub site_of : Code → ℕ → CodeProcess → CodeAction → Part → Site
site_of code p process a which = record {
  messages = code.messages;
  processes = code.processes;
  process = p;
  cells = length (cell_ranges process);
  inputs = length process.inputs;
  timers = process.timers;
  ranges = register_ranges process a.temporaries;
  received = received_fields code a;
  part = which;
  instrs = instrs_of which a;
}

-- a rule at the beginning of an action's guard
abbrev pub at_guard : ℕ → ℕ → ℕ → BadCode
at_guard p a rule = record { process = p; action = a; part = part.Guard; instr = 0; rule = rule }

-- a rule, at this place, where it is broken
abbrev pub where_broken : Bool → ℕ → ℕ → Part → ℕ → ℕ → List BadCode
where_broken kept p a which i rule = if kept then [] else record { process = p; action = a; part = which; instr = i; rule = rule } ∷ []

abbrev pub instr_breaks : Site → ℕ → ℕ → Instr → List BadCode
instr_breaks s a i instr = map (λ rule. record { process = s.process; action = a; part = s.part; instr = i; rule = rule }) (broken s i instr)

-- the rules on a whole part: its cost and its sends
abbrev pub whole_rules : List Instr → List ℕ
whole_rules instrs = unless (nat_le (cost instrs) 16000000) 11 ++ unless (nat_le (sends instrs) 64) 12

abbrev pub whole_breaks : Site → ℕ → List BadCode
whole_breaks s a = map (λ rule. record { process = s.process; action = a; part = s.part; instr = length s.instrs - 1; rule = rule }) (whole_rules s.instrs)

-- By instruction and rule; the rules on the whole part stand at its last instruction, after all others.
abbrev pub part_breaks : Site → ℕ → List BadCode
part_breaks s a = by_number 0 (instr_breaks s a) s.instrs ++ whole_breaks s a

-- ---- all of it

abbrev pub action_breaks : Code → ℕ → CodeProcess → ℕ → CodeAction → List BadCode
action_breaks code p process a action =
    where_broken (temporaries_fit action) p a part.Guard 0 2
    ++ where_broken (guard_fits code p process action) p a part.Guard 0 3
    ++ part_breaks (site_of code p process action part.Guard) a
    ++ part_breaks (site_of code p process action part.Body) a

abbrev pub process_breaks : Code → ℕ → CodeProcess → List BadCode
process_breaks code p process = where_broken (values_fit process) p 0 part.Guard 0 2 ++ by_number 0 (action_breaks code p process) process.actions

-- All broken rules, by process, action, part, instruction and rule. What is not of one process stands first.
abbrev pub breaks : Code → List BadCode
breaks code =
    where_broken (limits_kept code) 0 0 part.Guard 0 1
    ++ where_broken (fields_fit code) 0 0 part.Guard 0 2
    ++ by_number 0 (process_breaks code) code.processes

-- No rule is broken.
abbrev pub IsVerified : Code → Type 0
IsVerified code = breaks code ≡ []

-- the first rule that is broken
abbrev pub first_break : Code → Option BadCode
first_break code = slice_get (breaks code) 0

-- The code as verified; or the code as it was, with the first rule that it breaks; or as it was, for want of memory.
abbrev pub Verifies : Code → Result Code (Code × VerifyFault) → Type 0
Verifies code (Ok verified) = (verified ≡ code) × IsVerified code
Verifies code (Err refused) = (refused.0 ≡ code) × Faults code refused.1 where
  Faults : Code → VerifyFault → Type 0
  Faults c (fault.Bad bad) = first_break c ≡ Some bad
  Faults c fault.NoMemory = Unit {0}
