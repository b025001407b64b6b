use Rattle.std.proofs.Common.{◌≡◌, ◌++◌, take}
use Rattle.register_code.specs.Registers.{variable_ranges}
use Rattle.code_rules.proofs.place.push_cells.Given as goal

abbrev pub invariant-loop-variable : goal.invariant-loop-variable
invariant-loop-variable l = l.all ≡ l.fn.all ++ variable_ranges (take l.variable-index l.variables)
