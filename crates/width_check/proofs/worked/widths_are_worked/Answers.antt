use Rattle.std.proofs.Common.{rules}
use Rattle.tap_base.specs.declared.tree.Stmt.{the_lemmas as of_stmts}
use Rattle.tap_base.specs.declared.tree.ExprKind.{the_lemmas as of_exprs}
use Rattle.width_check.proofs.worked.widths_are_worked.Goals as goal

pub returns-clause-divisor : goal.returns-clause-divisor
returns-clause-divisor c = search (rules, of_stmts, of_exprs)

pub returns-clause-sum : goal.returns-clause-sum
returns-clause-sum c = search (rules, of_stmts, of_exprs)

pub returns-clause-remainder : goal.returns-clause-remainder
returns-clause-remainder c = search (rules, of_stmts, of_exprs)

pub returns-clause-loops : goal.returns-clause-loops
returns-clause-loops c = search (rules, of_stmts, of_exprs)

pub returns-clause-branches : goal.returns-clause-branches
returns-clause-branches c = search (rules, of_stmts, of_exprs)
