use Rattle.tap_expr.proofs.ExprWorked.{groups_from_the_left, parentheses_leave_no_node}
use Rattle.tap_expr.proofs.laws.expressions_are_worked.Goals as goal

pub returns-clause-left : goal.returns-clause-left
returns-clause-left c = groups_from_the_left

pub returns-clause-parentheses : goal.returns-clause-parentheses
returns-clause-parentheses c = parentheses_leave_no_node
