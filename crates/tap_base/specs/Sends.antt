-- How many sends statements and actions make at most.
use Rattle.std.specs.Prelude.{ℕ, ◌*◌, sum, List, map}
use Rattle.tap_base.specs.declared.system.Action.{Action}
use Rattle.tap_base.specs.declared.tree.Branch.{Branch}
use Rattle.tap_base.specs.declared.tree.Stmt.{Stmt}
use Rattle.tap_base.specs.declared.tree.Stmt.TheFolds.{fold-Stmt, fold-Branch}
use Rattle.tap_base.specs.declared.tree.Stmt.TheOpen.{Stmt-F, Branch-F}

-- one statement, with the sends of its branches in their places
abbrev pub stmt_sends_step : Stmt-F ℕ ℕ → ℕ
stmt_sends_step (Stmt-F.Send message values to) = 1
stmt_sends_step (Stmt-F.If branches) = sum branches
stmt_sends_step (Stmt-F.Loop count branches) = count * sum branches
stmt_sends_step _ = 0

abbrev pub branch_sends_step : Branch-F ℕ ℕ → ℕ
branch_sends_step b = sum b.body

abbrev pub stmt_sends : Stmt → ℕ
stmt_sends = fold-Stmt ℕ ℕ stmt_sends_step branch_sends_step

abbrev pub branch_sends : Branch → ℕ
branch_sends = fold-Branch ℕ ℕ stmt_sends_step branch_sends_step

abbrev pub body_sends : List Stmt → ℕ
body_sends stmts = sum (map stmt_sends stmts)

abbrev pub action_sends : Action → ℕ
action_sends a = body_sends a.body
