-- What expressions are written as, one layer at a time.
use Rattle.std.proofs.Common.{◌≡◌, sym, ◌∙◌, ap, ℕ, ℤ, Bool, true, false, if◌then◌else◌, append_assoc, List, [], ◌∷◌, ◌++◌, rules}
use Rattle.tap_base.specs.declared.ast.AstExpr.{AstExpr}
use Rattle.tap_base.specs.declared.ast.AstKind.{AstKind, the_lemmas, fold-AstKind}
use Rattle.tap_base.specs.declared.ast.AstKind.TheVariants as kind
use Rattle.tap_base.specs.declared.token.Sign.{Sign}
use Rattle.tap_base.specs.declared.token.Sign.TheVariants as sign
use Rattle.tap_base.specs.declared.tree.Op.{Op}
use Rattle.tap_expr.specs.Grammar.{Level, atom, negation, relation, factor, expression}
use Rattle.tap_printer.specs.CanonicalExprs.{Phrase, phrase, phrase_step, phrase_of, level_of, left_of, right_of, is_choice, operation_tokens, infix_tokens, choice_tokens, operator, tokens_at, expr_tokens_at, truth_sign}
use Rattle.tap_printer.specs.Printed.{Printed, mark, name, number, spelling}
use Rattle.tap_printer.specs.inner.Pages.{Page, put, after}
use Rattle.tap_printer.proofs.Appends.{after_append}

abbrev pub phrase_of_kind : AstKind → Phrase
phrase_of_kind = fold-AstKind Phrase Phrase phrase_step (λ e. e.kind)

pub by_kind : (e : AstExpr) → phrase_of e ≡ phrase_of_kind e.kind
by_kind e = search (rules, the_lemmas)

pub of_number : (n : ℤ) → phrase_of_kind (kind.Number n) ≡ phrase atom (number n ∷ [])
of_number n = search (rules, the_lemmas)

pub of_truth : (b : Bool) → phrase_of_kind (kind.Truth b) ≡ phrase atom (mark (truth_sign b) ∷ [])
of_truth b = search (rules, the_lemmas)

pub of_name : (t : List ℕ) → phrase_of_kind (kind.Name t) ≡ phrase atom (name t ∷ [])
of_name t = search (rules, the_lemmas)

pub of_index : (t : List ℕ) (i : AstExpr) → phrase_of_kind (kind.Index t i) ≡ phrase atom (name t ∷ mark sign.OpenIndex ∷ tokens_at expression (phrase_of i) ++ mark sign.CloseIndex ∷ [])
of_index t i = search (rules, the_lemmas)

pub of_part : (m f : List ℕ) → phrase_of_kind (kind.Part m f) ≡ phrase atom (name m ∷ mark sign.Dot ∷ name f ∷ [])
of_part m f = search (rules, the_lemmas)

pub of_not : (e : AstExpr) → phrase_of_kind (kind.Not e) ≡ phrase negation (mark sign.Not ∷ tokens_at relation (phrase_of e))
of_not e = search (rules, the_lemmas)

pub of_neg : (e : AstExpr) → phrase_of_kind (kind.Neg e) ≡ phrase factor (mark sign.Minus ∷ tokens_at atom (phrase_of e))
of_neg e = search (rules, the_lemmas)

pub of_binary : (o : Op) (a b : AstExpr) → phrase_of_kind (kind.Binary o a b) ≡ phrase (level_of o) (operation_tokens o (phrase_of a) (phrase_of b))
of_binary o a b = search (rules, the_lemmas)

-- ---- operations that are written

operation_is : (e : AstExpr) (o : Op) (a b : AstExpr) → e.kind ≡ kind.Binary o a b → (phrase_of e).tokens ≡ operation_tokens o (phrase_of a) (phrase_of b)
operation_is e o a b k = ap (λ p. p.tokens) (by_kind e ∙ ap phrase_of_kind k ∙ of_binary o a b)

pub infix_is : (o : Op) (a b : Phrase) → is_choice o ≡ false → operation_tokens o a b ≡ infix_tokens o a b
infix_is o a b h = ap (λ c. if c then choice_tokens o a b else infix_tokens o a b) h

pub choice_is : (o : Op) (a b : Phrase) → is_choice o ≡ true → operation_tokens o a b ≡ choice_tokens o a b
choice_is o a b h = ap (λ c. if c then choice_tokens o a b else infix_tokens o a b) h

infix_after : (o : Op) (a b : Phrase) (p : Page) → is_choice o ≡ false
    → after (put (after p (tokens_at (left_of (level_of o)) a)) (operator o) (spelling (operator o))) (tokens_at (right_of (level_of o)) b) ≡ after p (operation_tokens o a b)
infix_after o a b p h = sym (after_append p (tokens_at (left_of (level_of o)) a) (mark (operator o) ∷ tokens_at (right_of (level_of o)) b)) ∙ ap (after p) (sym (infix_is o a b h))

choice_after : (o : Op) (a b : Phrase) (p : Page) → is_choice o ≡ true
    → put (after (put (after (put (put p (operator o) (spelling (operator o))) sign.Open (spelling sign.Open)) (tokens_at expression a)) sign.Comma (spelling sign.Comma)) (tokens_at expression b)) sign.Close (spelling sign.Close) ≡ after p (operation_tokens o a b)
choice_after o a b p h =
    let q : Page = put (put p (operator o) (spelling (operator o))) sign.Open (spelling sign.Open) in
    let x : List Printed = tokens_at expression a in
    let y : List Printed = tokens_at expression b in
    sym (after_append (put (after q x) sign.Comma (spelling sign.Comma)) y (mark sign.Close ∷ []))
    ∙ sym (after_append q x (mark sign.Comma ∷ (y ++ mark sign.Close ∷ [])))
    ∙ ap (after q) (sym (append_assoc x (mark sign.Comma ∷ y) (mark sign.Close ∷ [])))
    ∙ ap (after p) (sym (choice_is o a b h))

pub infix_written : (e : AstExpr) (o : Op) (a b : AstExpr) (l m : Level) (s : Sign) (p q r w : Page) → e.kind ≡ kind.Binary o a b → is_choice o ≡ false → l ≡ left_of (level_of o) → m ≡ right_of (level_of o) → s ≡ operator o
    → q ≡ after p (expr_tokens_at l a) → r ≡ put q s (spelling s) → w ≡ after r (expr_tokens_at m b) → w ≡ after p (phrase_of e).tokens
infix_written e o a b l m s p q r w k h hl hm hs hq hr hw =
    hw ∙ ap (λ x. after x (expr_tokens_at m b)) (hr ∙ ap (λ x. put x s (spelling s)) (hq ∙ ap (λ v. after p (expr_tokens_at v a)) hl) ∙ ap (λ v. put (after p (expr_tokens_at (left_of (level_of o)) a)) v (spelling v)) hs)
    ∙ ap (λ v. after (put (after p (expr_tokens_at (left_of (level_of o)) a)) (operator o) (spelling (operator o))) (expr_tokens_at v b)) hm
    ∙ infix_after o (phrase_of a) (phrase_of b) p h
    ∙ ap (after p) (sym (operation_is e o a b k))

pub choice_written : (e : AstExpr) (o : Op) (a b : AstExpr) (s : Sign) (p q r t u v w : Page) → e.kind ≡ kind.Binary o a b → is_choice o ≡ true → s ≡ operator o
    → q ≡ put p s (spelling s) → r ≡ put q sign.Open (spelling sign.Open) → t ≡ after r (expr_tokens_at expression a) → u ≡ put t sign.Comma (spelling sign.Comma) → v ≡ after u (expr_tokens_at expression b) → w ≡ put v sign.Close (spelling sign.Close)
    → w ≡ after p (phrase_of e).tokens
choice_written e o a b s p q r t u v w k h hs hq hr ht hu hv hw =
    let r_is : r ≡ put (put p (operator o) (spelling (operator o))) sign.Open (spelling sign.Open) = hr ∙ ap (λ x. put x sign.Open (spelling sign.Open)) (hq ∙ ap (λ x. put p x (spelling x)) hs) in
    hw ∙ ap (λ x. put x sign.Close (spelling sign.Close)) (hv ∙ ap (λ x. after x (expr_tokens_at expression b)) (hu ∙ ap (λ x. put x sign.Comma (spelling sign.Comma)) (ht ∙ ap (λ x. after x (expr_tokens_at expression a)) r_is)))
    ∙ choice_after o (phrase_of a) (phrase_of b) p h
    ∙ ap (after p) (sym (operation_is e o a b k))
