use Rattle.std.proofs.Common.{rules}
use Rattle.tap_base.specs.declared.tree.Stmt.{the_lemmas as of_stmts}
use Rattle.tap_base.specs.declared.tree.ExprKind.{the_lemmas as of_exprs}
use Rattle.run_examples.proofs.worked.steps_are_worked.Goals as goal

pub returns-clause-arms : goal.returns-clause-arms
returns-clause-arms c = search (rules, of_stmts, of_exprs)

pub returns-clause-falls : goal.returns-clause-falls
returns-clause-falls c = search (rules, of_stmts, of_exprs)

pub returns-clause-nearer : goal.returns-clause-nearer
returns-clause-nearer c = search (rules, of_stmts, of_exprs)
