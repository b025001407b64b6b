-- An induction over statements and branches.
use Rattle.std.proofs.Common.{ℕ, List, [], ◌∷◌, map, subst, sym}
use Rattle.tap_base.specs.declared.tree.Expr.{Expr}
use Rattle.tap_base.specs.declared.tree.Target.{Target}
use Rattle.tap_base.specs.declared.tree.Branch.{Branch}
use Rattle.tap_base.specs.declared.tree.Stmt.{Stmt, map-Stmt}
use Rattle.tap_base.specs.declared.tree.Stmt.TheVariants as stmt
use Rattle.tap_base.specs.declared.tree.Stmt.TheFolds.{ind-Stmt}
use Rattle.tap_base.specs.declared.tree.Stmt.TheOpen.{Stmt-F}
use Rattle.tap_base.specs.declared.tree.Stmt.TheViews.{roll-Stmt, roll-Branch}
use Rattle.tap_base.specs.declared.tree.Stmt.TheVariants.{rolls-Skip, rolls-Assign, rolls-Choose, rolls-Send, rolls-Start, rolls-Stop, rolls-If, rolls-Loop}
use Rattle.tap_base.specs.Lists.{Each}

module _ (P : Stmt → Type 0) (Q : Branch → Type 0)
    (skip : P stmt.Skip)
    (assign : (targets : List Target) (values : List Expr) → P (stmt.Assign targets values))
    (choose : (target : Target) → P (stmt.Choose target))
    (send : (message : ℕ) (values : List Expr) (to : ℕ) → P (stmt.Send message values to))
    (start : (timer : ℕ) (delay : Expr) → P (stmt.Start timer delay))
    (stop : (timer : ℕ) → P (stmt.Stop timer))
    (selection : (branches : List Branch) → Each Q branches → P (stmt.If branches))
    (loop : (count : ℕ) (branches : List Branch) → Each Q branches → P (stmt.Loop count branches))
    (branch : (guard : Expr) (body : List Stmt) → Each P body → Q (record { guard = guard; body = body })) where
  abbrev Stmts : Type 0
  Stmts = (s : Stmt) × P s

  abbrev Branches : Type 0
  Branches = (b : Branch) × Q b

  all_stmts : (ss : List Stmts) → Each P (map (λ s. s.0) ss)
  all_stmts [] = tt
  all_stmts (s ∷ ss) = (s.1, all_stmts ss)

  all_branches : (bs : List Branches) → Each Q (map (λ b. b.0) bs)
  all_branches [] = tt
  all_branches (b ∷ bs) = (b.1, all_branches bs)

  of_layer : (y : Stmt-F Stmts Branches) → P (roll-Stmt (map-Stmt Stmts Branches Stmt Branch (λ s. s.0) (λ b. b.0) y))
  of_layer Stmt-F.Skip = subst P (sym rolls-Skip) skip
  of_layer (Stmt-F.Assign targets values) = subst P (sym (rolls-Assign targets values)) (assign targets values)
  of_layer (Stmt-F.Choose target) = subst P (sym (rolls-Choose target)) (choose target)
  of_layer (Stmt-F.Send message values to) = subst P (sym (rolls-Send message values to)) (send message values to)
  of_layer (Stmt-F.Start timer delay) = subst P (sym (rolls-Start timer delay)) (start timer delay)
  of_layer (Stmt-F.Stop timer) = subst P (sym (rolls-Stop timer)) (stop timer)
  of_layer (Stmt-F.If branches) = subst P (sym (rolls-If (map (λ b. b.0) branches))) (selection (map (λ b. b.0) branches) (all_branches branches))
  of_layer (Stmt-F.Loop count branches) = subst P (sym (rolls-Loop count (map (λ b. b.0) branches))) (loop count (map (λ b. b.0) branches) (all_branches branches))

  pub of_stmt : (s : Stmt) → P s
  of_stmt = ind-Stmt P Q (λ x y is. subst (λ z. P (roll-Stmt z)) is (of_layer y)) (λ x y is. subst (λ z. Q (roll-Branch z)) is (branch y.guard (map (λ s. s.0) y.body) (all_stmts y.body)))
