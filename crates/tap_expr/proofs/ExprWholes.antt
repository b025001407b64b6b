-- All the tokens.
use Rattle.std.proofs.Common.{◌≡◌, ℕ, ◌+◌, ◌<◌, ◌≤◌, min, refl, sym, subst, List, [], ◌++◌, Result, Ok, Err, IsErrAnd, take, drop, length, arith}
use Rattle.std.proofs.Math.Nat.{min-le_right}
use Rattle.std.proofs.Math.Seq.{take-append_seam}
use Rattle.std.proofs.lemmas.List.{drop_all, length-map, length-take-le}
use Rattle.tap_base.specs.declared.ast.AstExpr.{AstExpr}
use Rattle.tap_base.specs.declared.token.Token.{Token}
use Rattle.tap_lexer.specs.Lexeme.{Lexeme, lexeme, lexemes}
use Rattle.tap_lexer.specs.declared.found.Found.{Found}
use Rattle.tap_expr.specs.Grammar.{expression, Reads, Spells}
use Rattle.tap_expr.specs.ExprText.{IsUnspelled}
use Rattle.tap_expr.specs.declared.found.Built.{Built}
use Rattle.tap_expr.specs.declared.found.Stuck.{Stuck}
use Rattle.tap_expr.specs.declared.found.Stuck.TheVariants as stuck
use Rattle.tap_expr.specs.inner.ExprReading.{IsBuilt, Alike, Answers}
use Rattle.tap_expr.specs.inner.Exprs.{WholeAnswers}
use Rattle.tap_expr.proofs.ExprAlike.{longer_as}
use Rattle.tap_expr.proofs.ExprStopped.{before_end}

-- a front with anything behind it agrees with the whole up to its end
pub front_alike : (xs us : List Lexeme) (k : ℕ) → k < length xs → Alike (k + 1) xs (take (k + 1) xs ++ us)
front_alike xs us k h =
    let l : length (take (k + 1) xs) ≡ k + 1 = length-take-le (k + 1) xs (omega arith) in
    let P : ℕ → Type 0 = λ n. take n (take (k + 1) xs ++ us) ≡ take (k + 1) xs in
    sym (subst P l (take-append_seam (take (k + 1) xs) us))

unspelled_at : (xs : List Lexeme) (k : ℕ) → ((ys : List Lexeme) → Alike (k + 1) xs ys → (e : AstExpr) → Spells ys e → ⊥) → IsUnspelled xs (min k (length xs))
unspelled_at xs k h = record {
  within = min-le_right k (length xs);
  none = λ e r. h xs refl e r;
  front = λ l us e r.
      let q = before_end k (length xs) l in
      let P : ℕ → Type 0 = λ m. Spells (take (m + 1) xs ++ us) e in
      h (take (k + 1) xs ++ us) (front_alike xs us k (omega (arith, l, q))) e (subst P q r);
}

pub whole_refused : (xs : List Lexeme) (r : Result Built Stuck) (s : Stuck) → IsErrAnd r (λ e. e ≡ s) → Answers expression xs 0 (Err s) → WholeAnswers xs r
whole_refused xs (Ok e) s p h = absurd p
whole_refused xs (Err (stuck.At k)) (stuck.At i) p h = let q : i ≡ k = cc in let P : ℕ → Type 0 = λ z. IsUnspelled xs (min z (length xs)) in subst P q (unspelled_at xs i (λ ys same e r. h.1 ys same e [] r tt))
whole_refused xs (Err (stuck.At k)) stuck.NoMemory p h = absurd cc
whole_refused xs (Err stuck.NoMemory) s p h = tt

pub whole_found : (text : List ℕ) (ts : List Token) (f : Found Built) → Answers expression (lexemes text ts) 0 (Ok f) → length ts ≤ f.next → (e : AstExpr) × Spells (lexemes text ts) e × IsBuilt e f.value
whole_found text ts f h l =
    let w = h (lexemes text ts) refl in
    let e : drop f.next (lexemes text ts) ≡ [] = drop_all f.next (lexemes text ts) (rw (length-map ts (lexeme text)) l) in
    let P : List Lexeme → Type 0 = λ k. Reads expression w.0 (lexemes text ts) k in
    (w.0, subst P e w.1.spelled, w.2)

pub whole_longer : (text : List ℕ) (ts : List Token) (f : Found Built) → Answers expression (lexemes text ts) 0 (Ok f) → f.next < length ts → IsUnspelled (lexemes text ts) (min f.next (length (lexemes text ts)))
whole_longer text ts f h l = unspelled_at (lexemes text ts) f.next (λ ys same e r.
    let w = h ys same in let o = w.1.only e [] r tt in
    longer_as (lexemes text ts) ys (f.next + 1) same f.next (omega arith) (rw (length-map ts (lexeme text)) l) (sym o.1))

shorter : (xs : List Lexeme) (k : ℕ) → take k xs ++ drop k xs ≡ xs → (e : AstExpr) → Spells xs e → Spells (take k xs ++ drop k xs) e
shorter xs k p e r = let P : List Lexeme → Type 0 = λ t. Spells t e in subst P (sym p) r
