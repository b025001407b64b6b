use Rattle.std.proofs.Common.{rules}
use Rattle.tap_base.specs.declared.tree.Stmt.{the_lemmas as of_stmts}
use Rattle.tap_base.specs.declared.tree.ExprKind.{the_lemmas as of_exprs}
use Rattle.tap_base.specs.Ranges.{values_of}
use Rattle.tap_exec.proofs.worked.statements_are_worked.Goals as goal

pub returns-clause-swap : goal.returns-clause-swap
returns-clause-swap c = search (rules, of_stmts, of_exprs)

pub returns-clause-element : goal.returns-clause-element
returns-clause-element c = search (rules, of_stmts, of_exprs)

pub returns-clause-outside : goal.returns-clause-outside
returns-clause-outside c = search (rules, of_stmts, of_exprs)

pub returns-clause-taken : goal.returns-clause-taken
unfolding values_of
returns-clause-taken c = search (rules, of_stmts, of_exprs)

pub returns-clause-in_range : goal.returns-clause-in_range
unfolding values_of
returns-clause-in_range c = search (rules, of_stmts, of_exprs)

pub returns-clause-branches : goal.returns-clause-branches
returns-clause-branches c = search (rules, of_stmts, of_exprs)

pub returns-clause-filled : goal.returns-clause-filled
returns-clause-filled c = search (rules, of_stmts, of_exprs)

pub returns-clause-not_given : goal.returns-clause-not_given
returns-clause-not_given c = search (rules, of_stmts, of_exprs)
