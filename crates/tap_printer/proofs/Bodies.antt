-- What statements are written as, one layer at a time.
use Rattle.std.proofs.Common.{◌≡◌, sym, ◌∙◌, ap, ℤ, List, [], ◌∷◌, ◌++◌, map, rules}
use Rattle.tap_base.specs.declared.ast.AstBranch.{AstBranch}
use Rattle.tap_base.specs.declared.ast.AstExpr.{AstExpr}
use Rattle.tap_base.specs.declared.ast.AstStmt.{AstStmt, the_lemmas}
use Rattle.tap_base.specs.declared.ast.AstStmt.TheVariants as stmt
use Rattle.tap_base.specs.declared.ast.AstTarget.{AstTarget}
use Rattle.tap_base.specs.declared.ast.Ident.{Ident}
use Rattle.tap_base.specs.declared.place.Place.{Place}
use Rattle.tap_base.specs.declared.token.Sign.TheVariants as sign
use Rattle.tap_printer.specs.Canonical.{separated, stmt_tokens, branch_tokens, target_tokens}
use Rattle.tap_printer.specs.CanonicalExprs.{expr_tokens}
use Rattle.tap_printer.specs.Printed.{Printed, mark, name, number, spelling}
use Rattle.tap_printer.specs.inner.Pages.{Page, put, after}
use Rattle.tap_printer.proofs.Appends.{after_append}

-- ---- tokens, by what a statement is

pub of_skip : stmt_tokens stmt.Skip ≡ mark sign.Skip ∷ []
of_skip = search (rules, the_lemmas)

pub of_assign : (targets : List AstTarget) (values : List AstExpr) → stmt_tokens (stmt.Assign targets values) ≡ separated sign.Comma (map target_tokens targets) ++ mark sign.Becomes ∷ separated sign.Comma (map expr_tokens values)
of_assign targets values = search (rules, the_lemmas)

pub of_choose : (target : AstTarget) → stmt_tokens (stmt.Choose target) ≡ mark sign.Choose ∷ target_tokens target
of_choose target = search (rules, the_lemmas)

pub of_send : (message : Ident) (values : List AstExpr) (to : Ident) → stmt_tokens (stmt.Send message values to) ≡ mark sign.Send ∷ name message.text ∷ mark sign.Open ∷ separated sign.Comma (map expr_tokens values) ++ mark sign.Close ∷ mark sign.To ∷ name to.text ∷ []
of_send message values to = search (rules, the_lemmas)

pub of_start : (timer : Ident) (delay : AstExpr) → stmt_tokens (stmt.Start timer delay) ≡ mark sign.Start ∷ name timer.text ∷ mark sign.After ∷ expr_tokens delay
of_start timer delay = search (rules, the_lemmas)

pub of_stop : (timer : Ident) → stmt_tokens (stmt.Stop timer) ≡ mark sign.Stop ∷ name timer.text ∷ []
of_stop timer = search (rules, the_lemmas)

pub of_select : (branches : List AstBranch) → stmt_tokens (stmt.If branches) ≡ mark sign.If ∷ separated sign.Box (map branch_tokens branches) ++ mark sign.Fi ∷ []
of_select branches = search (rules, the_lemmas)

pub of_loop : (count : ℤ) (place : Place) (branches : List AstBranch) → stmt_tokens (stmt.Loop count place branches) ≡ mark sign.Do ∷ number count ∷ mark sign.Times ∷ separated sign.Box (map branch_tokens branches) ++ mark sign.Od ∷ []
of_loop count place branches = search (rules, the_lemmas)

pub of_branch : (b : AstBranch) → branch_tokens b ≡ expr_tokens b.guard ++ mark sign.Arrow ∷ separated sign.Semicolon (map stmt_tokens b.body)
of_branch b = search (rules, the_lemmas)

-- ---- statements that are written

pub branch_written : (b : AstBranch) (p q r w : Page) → q ≡ after p (expr_tokens b.guard) → r ≡ put q sign.Arrow (spelling sign.Arrow) → w ≡ after r (separated sign.Semicolon (map stmt_tokens b.body)) → w ≡ after p (branch_tokens b)
branch_written b p q r w hq hr hw =
    let body : List Printed = separated sign.Semicolon (map stmt_tokens b.body) in
    hw ∙ ap (λ x. after x body) (hr ∙ ap (λ x. put x sign.Arrow (spelling sign.Arrow)) hq)
    ∙ sym (after_append p (expr_tokens b.guard) (mark sign.Arrow ∷ body))
    ∙ ap (after p) (sym (of_branch b))

pub assign_written : (s : AstStmt) (targets : List AstTarget) (values : List AstExpr) (p q r w : Page) → s ≡ stmt.Assign targets values
    → q ≡ after p (separated sign.Comma (map target_tokens targets)) → r ≡ put q sign.Becomes (spelling sign.Becomes) → w ≡ after r (separated sign.Comma (map expr_tokens values)) → w ≡ after p (stmt_tokens s)
assign_written s targets values p q r w is hq hr hw =
    let left : List Printed = separated sign.Comma (map target_tokens targets) in
    let right : List Printed = separated sign.Comma (map expr_tokens values) in
    hw ∙ ap (λ x. after x right) (hr ∙ ap (λ x. put x sign.Becomes (spelling sign.Becomes)) hq)
    ∙ sym (after_append p left (mark sign.Becomes ∷ right))
    ∙ ap (after p) (sym (ap stmt_tokens is ∙ of_assign targets values))

-- the message and the receiver of a send, and its values between them
pub send_written : (s : AstStmt) (message : Ident) (values : List AstExpr) (to : Ident) (p q w : Page) → s ≡ stmt.Send message values to
    → q ≡ after (after p (mark sign.Send ∷ name message.text ∷ mark sign.Open ∷ [])) (separated sign.Comma (map expr_tokens values)) → w ≡ after q (mark sign.Close ∷ mark sign.To ∷ name to.text ∷ []) → w ≡ after p (stmt_tokens s)
send_written s message values to p q w is hq hw =
    let inner : List Printed = separated sign.Comma (map expr_tokens values) in
    let last : List Printed = mark sign.Close ∷ mark sign.To ∷ name to.text ∷ [] in
    hw ∙ ap (λ x. after x last) hq
    ∙ sym (after_append (after p (mark sign.Send ∷ name message.text ∷ mark sign.Open ∷ [])) inner last)
    ∙ ap (after p) (sym (ap stmt_tokens is ∙ of_send message values to))

pub select_written : (s : AstStmt) (branches : List AstBranch) (p q r w : Page) → s ≡ stmt.If branches → q ≡ put p sign.If (spelling sign.If) → r ≡ after q (separated sign.Box (map branch_tokens branches)) → w ≡ put r sign.Fi (spelling sign.Fi) → w ≡ after p (stmt_tokens s)
select_written s branches p q r w is hq hr hw =
    let inner : List Printed = separated sign.Box (map branch_tokens branches) in
    hw ∙ ap (λ x. put x sign.Fi (spelling sign.Fi)) (hr ∙ ap (λ x. after x inner) hq)
    ∙ sym (after_append (put p sign.If (spelling sign.If)) inner (mark sign.Fi ∷ []))
    ∙ ap (after p) (sym (ap stmt_tokens is ∙ of_select branches))

pub loop_written : (s : AstStmt) (count : ℤ) (place : Place) (branches : List AstBranch) (p q r w : Page) → s ≡ stmt.Loop count place branches
    → q ≡ after p (mark sign.Do ∷ number count ∷ mark sign.Times ∷ []) → r ≡ after q (separated sign.Box (map branch_tokens branches)) → w ≡ put r sign.Od (spelling sign.Od) → w ≡ after p (stmt_tokens s)
loop_written s count place branches p q r w is hq hr hw =
    let inner : List Printed = separated sign.Box (map branch_tokens branches) in
    hw ∙ ap (λ x. put x sign.Od (spelling sign.Od)) (hr ∙ ap (λ x. after x inner) hq)
    ∙ sym (after_append (after p (mark sign.Do ∷ number count ∷ mark sign.Times ∷ [])) inner (mark sign.Od ∷ []))
    ∙ ap (after p) (sym (ap stmt_tokens is ∙ of_loop count place branches))
