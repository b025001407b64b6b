-- The offences of expressions and statements, one level down.
use Rattle.std.proofs.Common.{◌≡◌, ℕ, ℤ, List, [], ◌++◌, map, slice_get, rules}
use Rattle.std.specs.Prelude.{option_and_then}
use Rattle.std.specs.Option.{option_map}
use Rattle.tap_base.specs.declared.place.Place.{Place}
use Rattle.tap_base.specs.declared.system.Message.{Message}
use Rattle.tap_base.specs.declared.tree.Branch.{Branch}
use Rattle.tap_base.specs.declared.tree.Expr.{Expr}
use Rattle.tap_base.specs.declared.tree.ExprKind.{the_lemmas}
use Rattle.tap_base.specs.declared.tree.ExprKind.TheVariants as kind
use Rattle.tap_base.specs.declared.tree.Op.{Op}
use Rattle.tap_base.specs.declared.tree.Stmt.{Stmt, the_lemmas as stmt_lemmas}
use Rattle.tap_base.specs.declared.tree.Stmt.TheVariants as stmt
use Rattle.tap_base.specs.declared.tree.Target.{Target}
use Rattle.tap_base.specs.Interval.{bounded, negation_range, truth_range}
use Rattle.tap_base.specs.ListWords.{joined}
use Rattle.tap_base.specs.Scope.{Scope}
use Rattle.tap_base.proofs.ExprInduction.{expr}
use Rattle.width_check.specs.ExprOffences.{expr_offences, index_offences, judged, negation_offences, operation_interval, operation_offences}
use Rattle.width_check.specs.StmtOffences.{assignment_offences, body_offences, branch_offences, delay_offences, field_offences, sent_fields, stmt_offences, target_offences}

module _ (p : Place) (s : Scope) where
  pub judged_number : (n : ℤ) → judged s (expr (kind.Number n) p) ≡ record { place = p; interval = bounded n n; offences = [] }
  judged_number n = search (rules, the_lemmas)

  pub judged_cell : (k : ℕ) → judged s (expr (kind.Cell k) p) ≡ record { place = p; interval = slice_get s.cells k; offences = [] }
  judged_cell k = search (rules, the_lemmas)

  pub judged_element : (first length : ℕ) (i : Expr) → judged s (expr (kind.Element first length i) p)
      ≡ record { place = p; interval = option_and_then (λ i. slice_get s.cells first) (judged s i).interval; offences = index_offences length (judged s i) }
  judged_element first length i = search (rules, the_lemmas)

  pub judged_input : (k : ℕ) → judged s (expr (kind.Input k) p) ≡ record { place = p; interval = slice_get s.inputs k; offences = [] }
  judged_input k = search (rules, the_lemmas)

  pub judged_part : (k : ℕ) → judged s (expr (kind.Part k) p) ≡ record { place = p; interval = slice_get s.fields k; offences = [] }
  judged_part k = search (rules, the_lemmas)

  pub judged_not : (a : Expr) → judged s (expr (kind.Not a) p) ≡ record { place = p; interval = option_map (λ a. truth_range) (judged s a).interval; offences = (judged s a).offences }
  judged_not a = search (rules, the_lemmas)

  pub judged_neg : (a : Expr) → judged s (expr (kind.Neg a) p)
      ≡ record { place = p; interval = option_and_then negation_range (judged s a).interval; offences = (judged s a).offences ++ negation_offences (judged s a).interval p }
  judged_neg a = search (rules, the_lemmas)

  pub judged_binary : (op : Op) (a b : Expr) → judged s (expr (kind.Binary op a b) p)
      ≡ record { place = p; interval = operation_interval op (judged s a).interval (judged s b).interval; offences = (judged s a).offences ++ (judged s b).offences ++ operation_offences op (judged s a).interval (judged s b).interval (judged s b).place p }
  judged_binary op a b = search (rules, the_lemmas)

module _ (messages : List Message) (s : Scope) where
  pub offences_assign : (targets : List Target) (values : List Expr) → stmt_offences messages s (stmt.Assign targets values) ≡ assignment_offences s targets values
  offences_assign targets values = search (rules, stmt_lemmas)

  pub offences_choose : (target : Target) → stmt_offences messages s (stmt.Choose target) ≡ target_offences s target
  offences_choose target = search (rules, stmt_lemmas)

  pub offences_send : (m : ℕ) (values : List Expr) (q : ℕ) → stmt_offences messages s (stmt.Send m values q) ≡ field_offences s (sent_fields messages m) values
  offences_send m values q = search (rules, stmt_lemmas)

  pub offences_start : (t : ℕ) (delay : Expr) → stmt_offences messages s (stmt.Start t delay) ≡ delay_offences (judged s delay)
  offences_start t delay = search (rules, stmt_lemmas)

  pub offences_if : (branches : List Branch) → stmt_offences messages s (stmt.If branches) ≡ joined (map (branch_offences messages s) branches)
  offences_if branches = search (rules, stmt_lemmas)

  pub offences_loop : (n : ℕ) (branches : List Branch) → stmt_offences messages s (stmt.Loop n branches) ≡ joined (map (branch_offences messages s) branches)
  offences_loop n branches = search (rules, stmt_lemmas)

  pub offences_branch : (guard : Expr) (body : List Stmt) → branch_offences messages s (record { guard = guard; body = body }) ≡ expr_offences s guard ++ body_offences messages s body
  offences_branch guard body = search (rules, stmt_lemmas)
