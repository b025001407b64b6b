-- What stands in statements, one level down.
use Rattle.std.proofs.Common.{◌≡◌, ℕ, List, [], ◌∷◌, map, rules}
use Rattle.tap_base.specs.declared.tree.Branch.{Branch}
use Rattle.tap_base.specs.declared.tree.Expr.{Expr}
use Rattle.tap_base.specs.declared.tree.Stmt.{Stmt, the_lemmas}
use Rattle.tap_base.specs.declared.tree.Stmt.TheVariants as stmt
use Rattle.tap_base.specs.declared.tree.Target.{Target}
use Rattle.tap_base.specs.Parts.{deeds, branch_deeds, assign, choose, send, start, stop, test, turns, joined}

pub deeds_skip : deeds stmt.Skip ≡ []
deeds_skip = search (rules, the_lemmas)

pub deeds_assign : (targets : List Target) (values : List Expr) → deeds (stmt.Assign targets values) ≡ (assign targets values ∷ [])
deeds_assign targets values = search (rules, the_lemmas)

pub deeds_choose : (target : Target) → deeds (stmt.Choose target) ≡ (choose target ∷ [])
deeds_choose target = search (rules, the_lemmas)

pub deeds_send : (m : ℕ) (values : List Expr) (q : ℕ) → deeds (stmt.Send m values q) ≡ (send m values q ∷ [])
deeds_send m values q = search (rules, the_lemmas)

pub deeds_start : (t : ℕ) (delay : Expr) → deeds (stmt.Start t delay) ≡ (start t delay ∷ [])
deeds_start t delay = search (rules, the_lemmas)

pub deeds_stop : (t : ℕ) → deeds (stmt.Stop t) ≡ (stop t ∷ [])
deeds_stop t = search (rules, the_lemmas)

pub deeds_if : (branches : List Branch) → deeds (stmt.If branches) ≡ joined (map branch_deeds branches)
deeds_if branches = search (rules, the_lemmas)

pub deeds_loop : (n : ℕ) (branches : List Branch) → deeds (stmt.Loop n branches) ≡ (turns n ∷ joined (map branch_deeds branches))
deeds_loop n branches = search (rules, the_lemmas)

pub deeds_branch : (guard : Expr) (body : List Stmt) → branch_deeds (record { guard = guard; body = body }) ≡ (test guard ∷ joined (map deeds body))
deeds_branch guard body = search (rules, the_lemmas)
