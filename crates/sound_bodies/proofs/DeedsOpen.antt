-- The deeds and the sends of a statement, one level down.
use Rattle.std.proofs.Common.{◌≡◌, ◌*◌, ℕ, List, [], ◌∷◌, map, sum, rules}
use Rattle.tap_base.specs.declared.tree.Branch.{Branch}
use Rattle.tap_base.specs.declared.tree.Expr.{Expr}
use Rattle.tap_base.specs.declared.tree.Stmt.{Stmt, the_lemmas}
use Rattle.tap_base.specs.declared.tree.Stmt.TheVariants as stmt
use Rattle.tap_base.specs.declared.tree.Target.{Target}
use Rattle.tap_base.specs.Parts.{deeds, branch_deeds, assign, choose, send, start, stop, test, joined as deeds_joined, turns as turns_}
use Rattle.tap_base.specs.Sends.{branch_sends, body_sends, stmt_sends}

pub deeds_skip : deeds (stmt.Skip) ≡ []
deeds_skip = search (rules, the_lemmas)

pub deeds_assign : (targets : List Target) (values : List Expr) → deeds (stmt.Assign targets values) ≡ (assign targets values ∷ [])
deeds_assign targets values = search (rules, the_lemmas)

pub deeds_choose : (target : Target) → deeds (stmt.Choose target) ≡ (choose target ∷ [])
deeds_choose target = search (rules, the_lemmas)

pub deeds_send : (m : ℕ) (values : List Expr) (q : ℕ) → deeds (stmt.Send m values q) ≡ (send m values q ∷ [])
deeds_send m values q = search (rules, the_lemmas)

pub deeds_start : (t : ℕ) (delay : Expr) → deeds (stmt.Start t delay) ≡ (start t delay ∷ [])
deeds_start t delay = search (rules, the_lemmas)

pub deeds_stop : (t : ℕ) → deeds (stmt.Stop t) ≡ (stop t ∷ [])
deeds_stop t = search (rules, the_lemmas)

pub deeds_if : (branches : List Branch) → deeds (stmt.If branches) ≡ (deeds_joined (map branch_deeds branches))
deeds_if branches = search (rules, the_lemmas)

pub deeds_loop : (n : ℕ) (branches : List Branch) → deeds (stmt.Loop n branches) ≡ (turns_ n ∷ deeds_joined (map branch_deeds branches))
deeds_loop n branches = search (rules, the_lemmas)

pub deeds_branch : (guard : Expr) (body : List Stmt) → branch_deeds (record { guard = guard; body = body }) ≡ (test guard ∷ deeds_joined (map deeds body))
deeds_branch guard body = search (rules, the_lemmas)

pub sends_skip : stmt_sends (stmt.Skip) ≡ 0
sends_skip = search (rules, the_lemmas)

pub sends_assign : (targets : List Target) (values : List Expr) → stmt_sends (stmt.Assign targets values) ≡ 0
sends_assign targets values = search (rules, the_lemmas)

pub sends_choose : (target : Target) → stmt_sends (stmt.Choose target) ≡ 0
sends_choose target = search (rules, the_lemmas)

pub sends_send : (m : ℕ) (values : List Expr) (q : ℕ) → stmt_sends (stmt.Send m values q) ≡ 1
sends_send m values q = search (rules, the_lemmas)

pub sends_start : (t : ℕ) (delay : Expr) → stmt_sends (stmt.Start t delay) ≡ 0
sends_start t delay = search (rules, the_lemmas)

pub sends_stop : (t : ℕ) → stmt_sends (stmt.Stop t) ≡ 0
sends_stop t = search (rules, the_lemmas)

pub sends_if : (branches : List Branch) → stmt_sends (stmt.If branches) ≡ sum (map branch_sends branches)
sends_if branches = search (rules, the_lemmas)

pub sends_loop : (n : ℕ) (branches : List Branch) → stmt_sends (stmt.Loop n branches) ≡ n * sum (map branch_sends branches)
sends_loop n branches = search (rules, the_lemmas)

pub sends_branch : (guard : Expr) (body : List Stmt) → branch_sends (record { guard = guard; body = body }) ≡ body_sends body
sends_branch guard body = search (rules, the_lemmas)
