-- What expressions, statements and actions cost: whole numbers without bound.
use Rattle.std.specs.Prelude.{ℕ, ◌+◌, ◌*◌, max, sum, List, [], ◌∷◌, map, Option, Some, None}
use Rattle.tap_base.specs.declared.system.Action.{Action}
use Rattle.tap_base.specs.declared.system.Guard.{Guard}
use Rattle.tap_base.specs.declared.system.Guard.TheVariants as guard
use Rattle.tap_base.specs.declared.system.Process.{Process}
use Rattle.tap_base.specs.declared.tree.Branch.{Branch}
use Rattle.tap_base.specs.declared.tree.Expr.{Expr}
use Rattle.tap_base.specs.declared.tree.ExprKind.TheFolds.{fold-Expr}
use Rattle.tap_base.specs.declared.tree.ExprKind.TheOpen.{ExprKind-F}
use Rattle.tap_base.specs.declared.tree.Stmt.{Stmt}
use Rattle.tap_base.specs.declared.tree.Stmt.TheFolds.{fold-Stmt, fold-Branch}
use Rattle.tap_base.specs.declared.tree.Stmt.TheOpen.{Stmt-F, Branch-F}
use Rattle.tap_base.specs.declared.tree.Target.{Target}

-- a node, and those of its parts
abbrev pub expr_cost_step : ExprKind-F ℕ ℕ → ℕ
expr_cost_step (ExprKind-F.Element first length index) = 1 + index
expr_cost_step (ExprKind-F.Not e) = 1 + e
expr_cost_step (ExprKind-F.Neg e) = 1 + e
expr_cost_step (ExprKind-F.Binary op left right) = 1 + (left + right)
expr_cost_step _ = 1

-- an expression costs its nodes
abbrev pub expr_cost : Expr → ℕ
expr_cost = fold-Expr ℕ ℕ expr_cost_step (λ e. e.kind)

abbrev pub exprs_cost : List Expr → ℕ
exprs_cost es = sum (map expr_cost es)

abbrev pub index_cost : Option Expr → ℕ
index_cost None = 0
index_cost (Some e) = expr_cost e

-- the index expressions of the targets
abbrev pub targets_cost : List Target → ℕ
targets_cost ts = sum (map (λ t. index_cost t.index) ts)

-- One statement, with the costs of its branches in their places: 1 and its expressions; a loop judges its guards and
-- runs its branches so many times.
abbrev pub stmt_cost_step : Stmt-F ℕ ℕ → ℕ
stmt_cost_step Stmt-F.Skip = 1
stmt_cost_step (Stmt-F.Assign targets values) = 1 + (targets_cost targets + exprs_cost values)
stmt_cost_step (Stmt-F.Choose target) = 1 + index_cost target.index
stmt_cost_step (Stmt-F.Send message values to) = 1 + exprs_cost values
stmt_cost_step (Stmt-F.Start timer delay) = 1 + expr_cost delay
stmt_cost_step (Stmt-F.Stop timer) = 1
stmt_cost_step (Stmt-F.If branches) = 1 + sum branches
stmt_cost_step (Stmt-F.Loop count branches) = 1 + count * (1 + sum branches)

-- a branch: its guard and its statements
abbrev pub branch_cost_step : Branch-F ℕ ℕ → ℕ
branch_cost_step b = expr_cost b.guard + sum b.body

abbrev pub stmt_cost : Stmt → ℕ
stmt_cost = fold-Stmt ℕ ℕ stmt_cost_step branch_cost_step

abbrev pub branch_cost : Branch → ℕ
branch_cost = fold-Branch ℕ ℕ stmt_cost_step branch_cost_step

abbrev pub body_cost : List Stmt → ℕ
body_cost stmts = sum (map stmt_cost stmts)

abbrev pub guard_cost : Guard → ℕ
guard_cost (guard.Local e) = expr_cost e
guard_cost _ = 0

-- its local guard and its statements
abbrev pub action_cost : Action → ℕ
action_cost a = guard_cost a.guard + body_cost a.body

abbrev pub greatest : List ℕ → ℕ
greatest [] = 0
greatest (n ∷ ns) = max n (greatest ns)

-- the greatest cost of its actions, or 0 where it has none
abbrev pub process_cost : Process → ℕ
process_cost p = greatest (map action_cost p.actions)
