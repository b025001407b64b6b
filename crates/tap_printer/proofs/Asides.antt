-- Expressions and statements with their places aside, one layer at a time.
use Rattle.std.proofs.Common.{◌≡◌, ℕ, ℤ, Bool, List, map, rules}
use Rattle.tap_base.specs.declared.ast.AstBranch.{AstBranch}
use Rattle.tap_base.specs.declared.ast.AstExpr.{AstExpr}
use Rattle.tap_base.specs.declared.ast.AstKind.{the_lemmas}
use Rattle.tap_base.specs.declared.ast.AstKind.TheVariants as kind
use Rattle.tap_base.specs.declared.ast.AstStmt.{the_lemmas as of_stmts}
use Rattle.tap_base.specs.declared.ast.AstStmt.TheVariants as stmt
use Rattle.tap_base.specs.declared.ast.AstTarget.{AstTarget}
use Rattle.tap_base.specs.declared.ast.Ident.{Ident}
use Rattle.tap_base.specs.declared.place.Place.{Place}
use Rattle.tap_base.specs.declared.tree.Op.{Op}
use Rattle.tap_lexer.specs.Bytes.{start}
use Rattle.tap_lexer.specs.Leaves.{node}
use Rattle.tap_printer.specs.PlacesAside.{expr_aside, stmt_aside, branch_aside, target_aside, ident_aside}

pub aside_number : (n : ℤ) (p : Place) → expr_aside (node (kind.Number n) p) ≡ node (kind.Number n) start
aside_number n p = search (rules, the_lemmas)

pub aside_truth : (b : Bool) (p : Place) → expr_aside (node (kind.Truth b) p) ≡ node (kind.Truth b) start
aside_truth b p = search (rules, the_lemmas)

pub aside_name : (t : List ℕ) (p : Place) → expr_aside (node (kind.Name t) p) ≡ node (kind.Name t) start
aside_name t p = search (rules, the_lemmas)

pub aside_index : (t : List ℕ) (i : AstExpr) (p : Place) → expr_aside (node (kind.Index t i) p) ≡ node (kind.Index t (expr_aside i)) start
aside_index t i p = search (rules, the_lemmas)

pub aside_part : (m f : List ℕ) (p : Place) → expr_aside (node (kind.Part m f) p) ≡ node (kind.Part m f) start
aside_part m f p = search (rules, the_lemmas)

pub aside_not : (e : AstExpr) (p : Place) → expr_aside (node (kind.Not e) p) ≡ node (kind.Not (expr_aside e)) start
aside_not e p = search (rules, the_lemmas)

pub aside_neg : (e : AstExpr) (p : Place) → expr_aside (node (kind.Neg e) p) ≡ node (kind.Neg (expr_aside e)) start
aside_neg e p = search (rules, the_lemmas)

pub aside_binary : (o : Op) (a b : AstExpr) (p : Place) → expr_aside (node (kind.Binary o a b) p) ≡ node (kind.Binary o (expr_aside a) (expr_aside b)) start
aside_binary o a b p = search (rules, the_lemmas)

-- ---- statements

pub aside_skip : stmt_aside stmt.Skip ≡ stmt.Skip
aside_skip = search (rules, of_stmts)

pub aside_assign : (targets : List AstTarget) (values : List AstExpr) → stmt_aside (stmt.Assign targets values) ≡ stmt.Assign (map target_aside targets) (map expr_aside values)
aside_assign targets values = search (rules, of_stmts)

pub aside_choose : (target : AstTarget) → stmt_aside (stmt.Choose target) ≡ stmt.Choose (target_aside target)
aside_choose target = search (rules, of_stmts)

pub aside_send : (message : Ident) (values : List AstExpr) (to : Ident) → stmt_aside (stmt.Send message values to) ≡ stmt.Send (ident_aside message) (map expr_aside values) (ident_aside to)
aside_send message values to = search (rules, of_stmts)

pub aside_start : (timer : Ident) (delay : AstExpr) → stmt_aside (stmt.Start timer delay) ≡ stmt.Start (ident_aside timer) (expr_aside delay)
aside_start timer delay = search (rules, of_stmts)

pub aside_stop : (timer : Ident) → stmt_aside (stmt.Stop timer) ≡ stmt.Stop (ident_aside timer)
aside_stop timer = search (rules, of_stmts)

pub aside_select : (branches : List AstBranch) → stmt_aside (stmt.If branches) ≡ stmt.If (map branch_aside branches)
aside_select branches = search (rules, of_stmts)

pub aside_loop : (count : ℤ) (place : Place) (branches : List AstBranch) → stmt_aside (stmt.Loop count place branches) ≡ stmt.Loop count start (map branch_aside branches)
aside_loop count place branches = search (rules, of_stmts)

pub aside_branch : (b : AstBranch) → branch_aside b ≡ record { guard = expr_aside b.guard; body = map stmt_aside b.body }
aside_branch b = search (rules, of_stmts)
