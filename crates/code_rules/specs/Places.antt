-- What the record of a place says.
use Rattle.std.specs.Prelude.{◌≡◌, ℕ, ◌≤◌, List, ◌++◌, map, take, length, slice_get, Option}
use Rattle.std.specs.Option.{option_map}
use Rattle.tap_base.specs.Option.{◌>>=◌}
use Rattle.register_code.specs.declared.bad.Part.{Part}
use Rattle.register_code.specs.declared.code.Code.{Code}
use Rattle.register_code.specs.declared.code.CodeAction.{CodeAction}
use Rattle.register_code.specs.declared.code.CodeField.{CodeField}
use Rattle.register_code.specs.declared.code.CodeMessage.{CodeMessage}
use Rattle.register_code.specs.declared.code.CodeProcess.{CodeProcess}
use Rattle.register_code.specs.declared.code.CodeTemporary.{CodeTemporary}
use Rattle.register_code.specs.declared.instr.Instr.{Instr}
use Rattle.register_code.specs.Registers.{cell_ranges, input_ranges, register_ranges, received_message, temporary_range}
use Rattle.register_code.specs.Sites.{Site}
use Rattle.register_code.specs.Verified.{instrs_of}
use Rattle.code_rules.specs.declared.place.PartPlace.{PartPlace}
use Rattle.code_rules.specs.Nests.{AreNests}
use Rattle.code_rules.specs.Others.{AreOthers}

-- the fields of a message by number, where there is one
abbrev pub fields_at : Code → Option ℕ → Option (List CodeField)
fields_at code message = message >>= λ m. option_map (λ (d : CodeMessage). d.fields) (slice_get code.messages m)

-- the site of these instructions
abbrev pub seen : Code → List Instr → PartPlace → Site
seen code instrs s = record {
  messages = code.messages;
  processes = code.processes;
  process = s.process;
  cells = s.cells;
  inputs = s.inputs;
  timers = s.timers;
  ranges = s.ranges;
  received = fields_at code s.received;
  part = s.part;
  instrs = instrs;
}

-- The tables of a place are those of its registers and of these instructions.
pub record HasTables (instrs : List Instr) (s : PartPlace) : Type 0 where
  pub nests : AreNests instrs s.nests
  pub others : AreOthers s.ranges s.others

-- The first registers are those that the actions of the process share, and all are counted.
pub record HasShared (s : PartPlace) : Type 0 where
  pub within : s.shared ≤ length s.ranges
  pub others : AreOthers s.ranges s.others

-- Behind the registers that are shared stand those of these temporaries, and nothing else is another.
pub record SetsRegisters (temporaries : List CodeTemporary) (old new : PartPlace) : Type 0 where
  pub ranges : new.ranges ≡ take old.shared old.ranges ++ map temporary_range temporaries
  pub others : AreOthers new.ranges new.others
  pub process_stays : new.process ≡ old.process
  pub cells_stay : new.cells ≡ old.cells
  pub inputs_stay : new.inputs ≡ old.inputs
  pub shared_stay : new.shared ≡ old.shared
  pub timers_stay : new.timers ≡ old.timers

-- The place of any part of a process.
pub record IsInProcess (p : ℕ) (process : CodeProcess) (s : PartPlace) : Type 0 where
  pub process_is : s.process ≡ p
  pub cells_are : s.cells ≡ length (cell_ranges process)
  pub inputs_are : s.inputs ≡ length process.inputs
  pub shared_are : s.shared ≡ length (cell_ranges process ++ input_ranges process)
  pub timers_are : s.timers ≡ process.timers
  pub ranges_are : take s.shared s.ranges ≡ cell_ranges process ++ input_ranges process
  pub others : AreOthers s.ranges s.others

-- The place of a part of an action says what its site does.
pub record IsPlace (p : ℕ) (process : CodeProcess) (action : CodeAction) (which : Part) (s : PartPlace) : Type 0 where
  pub process_is : s.process ≡ p
  pub cells_are : s.cells ≡ length (cell_ranges process)
  pub inputs_are : s.inputs ≡ length process.inputs
  pub shared_are : s.shared ≡ length (cell_ranges process ++ input_ranges process)
  pub timers_are : s.timers ≡ process.timers
  pub ranges_are : s.ranges ≡ register_ranges process action.temporaries
  pub received_is : s.received ≡ received_message action
  pub part_is : s.part ≡ which
  pub tables : HasTables (instrs_of which action) s
