-- Offences of the tokens of an expression.
use Rattle.std.proofs.Common.{◌≡◌, ℕ, ◌+◌, ◌<◌, min, refl, sym, ◌∙◌, ap, subst, List, [], ◌++◌, take, drop, length, arith}
use Rattle.std.proofs.lemmas.List.{take-append-drop}
use Rattle.tap_base.specs.declared.place.Place.{Place}
use Rattle.tap_base.specs.declared.ast.AstExpr.{AstExpr}
use Rattle.tap_base.specs.declared.refusal.Refusal.{Refusal}
use Rattle.tap_base.specs.declared.refusal.RefusalCode.TheVariants as code
use Rattle.tap_base.specs.declared.token.Token.{Token}
use Rattle.tap_lexer.specs.Depth.{IsTooDeep, IsShallow}
use Rattle.tap_lexer.specs.Lexeme.{Lexeme, lexemes}
use Rattle.tap_lexer.specs.Places.{place_at}
use Rattle.tap_expr.specs.ExprText.{IsExpr, IsUnspelled, ExprOffence, deep, unspelled, large, refusal, OneFront}
use Rattle.tap_expr.specs.Grammar.{expression, Spells, OneTree}
use Rattle.tap_expr.specs.Nodes.{nodes, most_nodes}
use Rattle.tap_expr.proofs.ExprOne.{one_reading}
use Rattle.tap_expr.proofs.ExprStopped.{stopped_place}

module _ (text : List ℕ) (tokens : List Token) where
  pub deep_at : (k : ℕ) (p : Place) → p ≡ place_at tokens k → IsTooDeep (lexemes text tokens) k → ExprOffence text tokens (refusal code.S2 p)
  deep_at k p e d = let P : Place → Type 0 = λ q. ExprOffence text tokens (refusal code.S2 q) in subst P (sym e) (deep d)

  pub unspelled_at : (k : ℕ) (p : Place) → p ≡ place_at tokens k → IsShallow (lexemes text tokens) → IsUnspelled (lexemes text tokens) (min k (length (lexemes text tokens))) → ExprOffence text tokens (refusal code.S1 p)
  unspelled_at k p e s u = let P : Place → Type 0 = λ q. ExprOffence text tokens (refusal code.S1 q) in subst P (sym (e ∙ stopped_place text tokens k)) (unspelled s u)

  pub large_at : (d : AstExpr) (p : Place) → p ≡ place_at tokens 0 → IsShallow (lexemes text tokens) → Spells (lexemes text tokens) d → most_nodes < nodes d → ExprOffence text tokens (refusal code.S3 p)
  large_at d p e s r m = let P : Place → Type 0 = λ q. ExprOffence text tokens (refusal code.S3 q) in subst P (sym e) (large s r m)

-- ---- laws

pub one_tree : OneTree
one_tree ts d e p q = (one_reading expression ts [] e q tt d [] p tt).0

pub one_front : OneFront
one_front xs ys k u h same e r =
    let q : take (k + 1) xs ++ drop (k + 1) ys ≡ ys = ap (λ t. t ++ drop (k + 1) ys) same ∙ take-append-drop (k + 1) ys in
    let P : List Lexeme → Type 0 = λ t. Spells t e in
    u.front h (drop (k + 1) ys) e (subst P (sym q) r)

pub not_both : {text : List ℕ} {tokens : List Token} {r : Refusal} → ExprOffence text tokens r → (e : AstExpr) → IsExpr (lexemes text tokens) e → ⊥
not_both (deep {k} d) e i = i.shallow k d.opens
not_both (unspelled s u) e i = u.none e i.spelled
not_both {text} {tokens} (large {e = f} s p m) e i =
    let q = one_tree (lexemes text tokens) f e p i.spelled in
    let n : nodes f ≡ nodes e = ap nodes q in
    let h = i.small in
    omega (arith, n, h, m)

pub same_code : {text : List ℕ} {tokens : List Token} {r s : Refusal} → ExprOffence text tokens r → ExprOffence text tokens s → r.code ≡ s.code
same_code (deep d) (deep c) = refl
same_code (deep {k} d) (unspelled s u) = absurd (s k d.opens)
same_code (deep {k} d) (large s p m) = absurd (s k d.opens)
same_code (unspelled s u) (deep {k} d) = absurd (s k d.opens)
same_code (unspelled s u) (unspelled t v) = refl
same_code (unspelled s u) (large {e} t p m) = absurd (u.none e p)
same_code (large s p m) (deep {k} d) = absurd (s k d.opens)
same_code (large {e} s p m) (unspelled t u) = absurd (u.none e p)
same_code (large s p m) (large t q n) = refl
