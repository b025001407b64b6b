-- The registers of a process, and the ranges that they keep.
use Rattle.std.specs.Prelude.{ℕ, ℤ, List, ◌++◌, map, Option, Some, None}
use Rattle.tap_base.specs.declared.place.Range.{Range}
use Rattle.tap_base.specs.declared.system.Var.{Var}
use Rattle.tap_base.specs.Interval.{from_to}
use Rattle.tap_base.specs.Ranges.{ranges_of}
use Rattle.register_code.specs.declared.code.CodeAction.{CodeAction}
use Rattle.register_code.specs.declared.code.CodeKind.{CodeKind}
use Rattle.register_code.specs.declared.code.CodeKind.TheVariants as kind
use Rattle.register_code.specs.declared.code.CodeInput.{CodeInput}
use Rattle.register_code.specs.declared.code.CodeVariable.{CodeVariable}
use Rattle.register_code.specs.declared.code.CodeTemporary.{CodeTemporary}
use Rattle.register_code.specs.declared.code.CodeProcess.{CodeProcess}

-- a variable, as a system has it
abbrev pub variable_of : CodeVariable → Var
variable_of v = record { name = v.name; range = from_to v.lo v.hi; cells = v.cells; initial = v.initial }

abbrev pub temporary_range : CodeTemporary → Range
temporary_range t = from_to t.lo t.hi

-- the ranges of the cells, and those of the inputs
abbrev pub variable_ranges : List CodeVariable → List Range
variable_ranges variables = ranges_of (map variable_of variables)

abbrev pub inputs_ranges : List CodeInput → List Range
inputs_ranges inputs = map (λ (i : CodeInput). from_to i.lo i.hi) inputs

abbrev pub cell_ranges : CodeProcess → List Range
cell_ranges process = variable_ranges process.variables

abbrev pub input_ranges : CodeProcess → List Range
input_ranges process = inputs_ranges process.inputs

-- Cells come first, then inputs, then the temporaries of the action that runs.
abbrev pub register_ranges : CodeProcess → List CodeTemporary → List Range
register_ranges process temporaries = cell_ranges process ++ input_ranges process ++ map temporary_range temporaries

-- the registers as a guard or a body begins: every temporary holds the least value of its range
abbrev pub opening_registers : List ℤ → List ℤ → List CodeTemporary → List ℤ
opening_registers cells inputs temporaries = cells ++ inputs ++ map (λ (t : CodeTemporary). t.lo) temporaries

-- the message that an action receives
abbrev pub received_message : CodeAction → Option ℕ
received_message a = by_kind a.kind where
  by_kind : CodeKind → Option ℕ
  by_kind kind.Receive = Some a.a
  by_kind _ = None
