use Rattle.std.proofs.Common.{◌≡◌, map, take}
use Rattle.abstract_run.specs.Opening.{opening_cells}
use Rattle.register_code.specs.Registers.{variable_of}
use Rattle.action_machine.proofs.making.initial_cells.Given as goal

abbrev pub invariant-loop-variable : goal.invariant-loop-variable
invariant-loop-variable l = l.all ≡ opening_cells (map variable_of (take l.variable-index l.variables))
