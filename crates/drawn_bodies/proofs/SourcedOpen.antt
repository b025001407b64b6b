-- What a statement does with a source of choices, one level down.
use Rattle.std.proofs.Common.{◌≡◌, ℕ, ℤ, List, map, Option, Some, rules}
use Rattle.tap_base.specs.declared.tree.Branch.{Branch}
use Rattle.tap_base.specs.declared.tree.Expr.{Expr}
use Rattle.tap_base.specs.declared.tree.Stmt.{Stmt, the_lemmas}
use Rattle.tap_base.specs.declared.tree.Stmt.TheVariants as stmt
use Rattle.tap_base.specs.declared.tree.Target.{Target}
use Rattle.tap_base.specs.declared.wire.WireField.{WireField}
use Rattle.tap_exec.specs.declared.running.Running.{Running}
use Rattle.tap_exec.specs.declared.running.TimerState.TheVariants as timer
use Rattle.tap_exec.specs.Sourced.{Source, alternative, assigned, chosen, exec, exec_all, holds_in, rounds, sent, started, with_timer}

module _ (value : Expr → List ℤ → List ℤ → List ℤ → Option ℤ) (messages : List (List WireField)) (inputs received : List ℤ) {C : Type 0} (source : Source C) (r : Running C) where
  pub exec_skip : exec value messages inputs received source stmt.Skip r ≡ Some r
  exec_skip = search (rules, the_lemmas)

  pub exec_assign : (targets : List Target) (values : List Expr) → exec value messages inputs received source (stmt.Assign targets values) r ≡ assigned value messages inputs received targets values r
  exec_assign targets values = search (rules, the_lemmas)

  pub exec_choose : (target : Target) → exec value messages inputs received source (stmt.Choose target) r ≡ chosen value messages inputs received source target r
  exec_choose target = search (rules, the_lemmas)

  pub exec_send : (m : ℕ) (values : List Expr) (q : ℕ) → exec value messages inputs received source (stmt.Send m values q) r ≡ sent value messages inputs received m values q r
  exec_send m values q = search (rules, the_lemmas)

  pub exec_start : (t : ℕ) (delay : Expr) → exec value messages inputs received source (stmt.Start t delay) r ≡ started value messages inputs received t delay r
  exec_start t delay = search (rules, the_lemmas)

  pub exec_stop : (t : ℕ) → exec value messages inputs received source (stmt.Stop t) r ≡ Some (with_timer t timer.Off r)
  exec_stop t = search (rules, the_lemmas)

  pub exec_if : (branches : List Branch) → exec value messages inputs received source (stmt.If branches) r ≡ rounds source 1 (map (alternative value messages inputs received source) branches) r
  exec_if branches = search (rules, the_lemmas)

  pub exec_loop : (n : ℕ) (branches : List Branch) → exec value messages inputs received source (stmt.Loop n branches) r ≡ rounds source n (map (alternative value messages inputs received source) branches) r
  exec_loop n branches = search (rules, the_lemmas)

  pub guard_branch : (guard : Expr) (body : List Stmt) → (alternative value messages inputs received source (record { guard = guard; body = body })).0 r ≡ holds_in value messages inputs received r guard
  guard_branch guard body = search (rules, the_lemmas)

  pub body_branch : (guard : Expr) (body : List Stmt) → (alternative value messages inputs received source (record { guard = guard; body = body })).1 r ≡ exec_all value messages inputs received source body r
  body_branch guard body = search (rules, the_lemmas)
