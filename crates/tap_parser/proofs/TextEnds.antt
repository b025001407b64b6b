-- Offences of the tokens of a text.
use Rattle.std.proofs.Common.{◌≡◌, ℕ, ◌+◌, ◌-◌, ◌<◌, ◌≤◌, min, refl, sym, ◌∙◌, ap, subst, inl, inr, ◌⊎◌, List, ◌++◌, Some, take, drop, length, arith}
use Rattle.std.proofs.lemmas.List.{take-append-drop, length-drop}
use Rattle.tap_base.specs.declared.ast.Ast.{Ast}
use Rattle.tap_base.specs.declared.ast.AstExpr.{AstExpr}
use Rattle.tap_base.specs.declared.place.Place.{Place}
use Rattle.tap_base.specs.declared.refusal.RefusalCode.TheVariants as code
use Rattle.tap_base.specs.declared.token.Token.{Token}
use Rattle.tap_base.specs.declared.refusal.Refusal.{Refusal}
use Rattle.tap_lexer.specs.Depth.{IsTooDeep, IsShallow}
use Rattle.tap_lexer.specs.Lexeme.{Lexeme, lexemes}
use Rattle.tap_lexer.specs.Places.{place_at}
use Rattle.tap_expr.specs.ExprText.{refusal}
use Rattle.tap_expr.proofs.ExprStopped.{stopped_place}
use Rattle.tap_parser.specs.Systems.{IsTree, IsUntold, IsTooLarge, TextOffence, deep, unspelled, large, Sized, SpellsText, SpellsTo, OneTextFront, OneTextEnd}
use Rattle.tap_parser.proofs.Weaker.{weaker}

module _ (text : List ℕ) (tokens : List Token) where
  pub deep_at : (k : ℕ) (p : Place) → p ≡ place_at tokens k → IsTooDeep (lexemes text tokens) k → TextOffence text tokens (refusal code.S2 p)
  deep_at k p e d = let P : Place → Type 0 = λ q. TextOffence text tokens (refusal code.S2 q) in subst P (sym e) (deep d)

  pub untold_at : (k : ℕ) (p : Place) → p ≡ place_at tokens k → IsShallow (lexemes text tokens) → IsUntold (lexemes text tokens) (min k (length (lexemes text tokens))) → TextOffence text tokens (refusal code.S1 p)
  untold_at k p e s u = let P : Place → Type 0 = λ q. TextOffence text tokens (refusal code.S1 q) in subst P (sym (e ∙ stopped_place text tokens k)) (unspelled s u)

  pub large_at : (k : ℕ) (p : Place) → p ≡ place_at tokens k → IsShallow (lexemes text tokens) → IsTooLarge (lexemes text tokens) k → TextOffence text tokens (refusal code.S3 p)
  large_at k p e s l = let P : Place → Type 0 = λ q. TextOffence text tokens (refusal code.S3 q) in subst P (sym e) (large s l)

-- ---- laws

pub one_text_front : OneTextFront
one_text_front xs ys k u h same tree r =
    let q : take (k + 1) xs ++ drop (k + 1) ys ≡ ys = ap (λ t. t ++ drop (k + 1) ys) same ∙ take-append-drop (k + 1) ys in
    let P : List Lexeme → Type 0 = λ t. SpellsText t tree in
    u.front h (drop (k + 1) ys) tree (subst P (sym q) r)

sized_later : (n m : ℕ) → n ≤ m → (e : AstExpr) (ts us : List Lexeme) → Sized (Some n) e ts us → Sized (Some m) e ts us
sized_later n m h e ts us r = (r.0, λ l. r.1 (omega arith))

-- where more expressions keep the limit, fewer do
pub fewer : (xs : List Lexeme) (k j : ℕ) → k ≤ j → (tree : Ast) → SpellsTo j xs tree → SpellsTo k xs tree
fewer xs k j h tree r =
    let p : length (drop k xs) ≡ length xs - k = length-drop k xs in
    let q : length (drop j xs) ≡ length xs - j = length-drop j xs in
    weaker (Sized (Some (length (drop j xs)))) (Sized (Some (length (drop k xs)))) (sized_later (length (drop j xs)) (length (drop k xs)) (omega arith)) xs tree r

all_small : (xs : List Lexeme) (k : ℕ) (tree : Ast) → SpellsTo (length xs) xs tree → SpellsTo k xs tree
all_small xs k tree r =
    let q : length (drop (length xs) xs) ≡ length xs - length xs = length-drop (length xs) xs in
    weaker (Sized (Some (length (drop (length xs) xs)))) (Sized (Some (length (drop k xs)))) (sized_later (length (drop (length xs) xs)) (length (drop k xs)) (omega arith)) xs tree r

not_both : {text : List ℕ} {tokens : List Token} {r : Refusal} → TextOffence text tokens r → (tree : Ast) → IsTree (lexemes text tokens) tree → ⊥
not_both (deep {k} d) tree i = i.shallow k d.opens
not_both (unspelled s u) tree i = u.none tree i.spelled
not_both {text} {tokens} (large {k} s l) tree i = l.there tree (all_small (lexemes text tokens) (k + 1) tree i.small)

order : (i j : ℕ) → (i < j) ⊎ ((j < i) ⊎ (i ≡ j))
order i j = grind (arith)

one_deep : (xs : List Lexeme) (i j : ℕ) → IsTooDeep xs i → IsTooDeep xs j → i ≡ j
one_deep xs i j d c = go (order i j)
  where
    go : (i < j) ⊎ ((j < i) ⊎ (i ≡ j)) → i ≡ j
    go (inl h) = absurd (c.first i h d.opens)
    go (inr (inl h)) = absurd (d.first j h c.opens)
    go (inr (inr h)) = h

one_large : (xs : List Lexeme) (i j : ℕ) → IsTooLarge xs i → IsTooLarge xs j → i ≡ j
one_large xs i j d c = go (order i j)
  where
    go : (i < j) ⊎ ((j < i) ⊎ (i ≡ j)) → i ≡ j
    go (inl h) = absurd (d.there c.tree (fewer xs (i + 1) j (omega arith) c.tree c.before))
    go (inr (inl h)) = absurd (c.there d.tree (fewer xs (j + 1) i (omega arith) d.tree d.before))
    go (inr (inr h)) = h

same_offence : {text : List ℕ} {tokens : List Token} {r s : Refusal} → TextOffence text tokens r → TextOffence text tokens s → (r.code ≡ s.code) × ((r.code ≡ code.S1 → ⊥) → r ≡ s)
same_offence {text} {tokens} (deep {k} d) (deep {k = j} c) = (refl, λ n. ap (λ i. refusal code.S2 (place_at tokens i)) (one_deep (lexemes text tokens) k j d c))
same_offence (deep {k} d) (unspelled s u) = absurd (s k d.opens)
same_offence (deep {k} d) (large s l) = absurd (s k d.opens)
same_offence (unspelled s u) (deep {k} d) = absurd (s k d.opens)
same_offence (unspelled s u) (unspelled t v) = (refl, λ n. absurd (n refl))
same_offence (unspelled s u) (large t l) = absurd (u.none l.tree l.spelled)
same_offence (large s l) (deep {k} d) = absurd (s k d.opens)
same_offence (large s l) (unspelled t u) = absurd (u.none l.tree l.spelled)
same_offence {text} {tokens} (large {k} s l) (large {k = j} t m) = (refl, λ n. ap (λ i. refusal code.S3 (place_at tokens i)) (one_large (lexemes text tokens) k j l m))

pub one_text_end : OneTextEnd
one_text_end text tokens r o = (λ tree i. not_both o tree i, λ s p. same_offence o p)
