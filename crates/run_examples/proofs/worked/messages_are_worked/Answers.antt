use Rattle.std.proofs.Common.{rules}
use Rattle.tap_base.specs.declared.tree.Stmt.{the_lemmas as of_stmts}
use Rattle.tap_base.specs.declared.tree.ExprKind.{the_lemmas as of_exprs}
use Rattle.run_examples.proofs.worked.messages_are_worked.Goals as goal

pub returns-clause-sent : goal.returns-clause-sent
returns-clause-sent c = search (rules, of_stmts, of_exprs)

pub returns-clause-received : goal.returns-clause-received
returns-clause-received c = search (rules, of_stmts, of_exprs)

pub returns-clause-travels : goal.returns-clause-travels
returns-clause-travels c = search (rules, of_stmts, of_exprs)
