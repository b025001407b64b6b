use Rattle.tap_names.proofs.Worked.{bounds_in_order, cells_pass_last, fixed_value_too_large, input_is_no_bound, length_before_twice, no_cells, reversed_range, twice_declared}
use Rattle.tap_names.proofs.laws.declarations_are_worked.Goals as goal

pub returns-clause-reversed : goal.returns-clause-reversed
returns-clause-reversed c = reversed_range

pub returns-clause-twice : goal.returns-clause-twice
returns-clause-twice c = twice_declared

pub returns-clause-bounds : goal.returns-clause-bounds
returns-clause-bounds c = bounds_in_order

pub returns-clause-cells : goal.returns-clause-cells
returns-clause-cells c = no_cells

pub returns-clause-long : goal.returns-clause-long
returns-clause-long c = length_before_twice

pub returns-clause-last : goal.returns-clause-last
returns-clause-last c = cells_pass_last

pub returns-clause-fixed : goal.returns-clause-fixed
returns-clause-fixed c = fixed_value_too_large

pub returns-clause-constant : goal.returns-clause-constant
returns-clause-constant c = input_is_no_bound
