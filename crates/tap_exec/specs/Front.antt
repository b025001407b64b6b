-- Statements take their choices from the front.
use Rattle.std.specs.Prelude.{◌≡◌, ℤ, List, ◌++◌, Option, Some}
use Rattle.tap_base.specs.declared.tree.Expr.{Expr}
use Rattle.tap_base.specs.declared.tree.Stmt.{Stmt}
use Rattle.tap_base.specs.declared.wire.WireField.{WireField}
use Rattle.tap_exec.specs.Running.{Running}
use Rattle.tap_exec.specs.Execution.{exec_all}

-- The body took these choices from the front: with any others behind them it does the same, and leaves those.
pub record TakesFromFront (body : Running → Option Running) (before after : Running) : Type 0 where
  pub taken : List ℤ
  pub front : before.choices ≡ taken ++ after.choices
  pub same : (rest : List ℤ) → body (record before { choices = taken ++ rest }) ≡ Some (record after { choices = rest })

-- Statements that come to their end took their choices from the front, whatever each expression is.
abbrev pub ChoicesAreFront : Type 0
ChoicesAreFront =
    (value : Expr → List ℤ → List ℤ → List ℤ → Option ℤ) (messages : List (List WireField)) (inputs received : List ℤ) (stmts : List Stmt) (before after : Running)
    → exec_all value messages inputs received stmts before ≡ Some after → TakesFromFront (exec_all value messages inputs received stmts) before after
