-- The same words draw one list of choices.
use Rattle.std.proofs.Common.{◌≡◌, ℕ, zero, suc, ◌+◌, ℤ, ◌<ℤ◌, List, [], ◌∷◌, ◌++◌, Some, length, ◌⊎◌, inl, inr, refl, sym, ap, subst, ◌∙◌, true, arith, append_assoc, append-nil}
use Rattle.std.specs.Prelude.{◌↔◌, Contains}
use Rattle.std.proofs.lemmas.Int.{ints}
use Rattle.tap_base.proofs.ListFacts.{each_index}
use Rattle.drawn_choices.specs.Draws.{AreDrawn, AreOptions, AreRising, IsDraw, Leading, OneIsDrawn, option_drawn}

-- ---- rising lists

in_first : {A : Type 0} (x : A) (xs : List A) → Contains (x ∷ xs) x
in_first x xs = (0, omega arith, refl)

in_later : {A : Type 0} (x y : A) (xs : List A) → Contains xs y → Contains (x ∷ xs) y
in_later x y xs h = (suc h.0, omega (arith, h.1), h.2)

first_or_later : {A : Type 0} (x y : A) (xs : List A) → Contains (x ∷ xs) y → (x ≡ y) ⊎ Contains xs y
first_or_later x y xs (zero, l, e) = inl e
first_or_later x y xs (suc k, l, e) = inr (k, omega (arith, l), e)

later_is_greater : (x y : ℤ) (xs : List ℤ) → AreRising (x ∷ xs) → Contains xs y → x <ℤ y
later_is_greater x y xs r h = subst (λ (z : ℤ). x <ℤ z) h.2 (each_index (λ (z : ℤ). x <ℤ z) xs h.0 y h.1 r.0)

-- lists with the same elements
abbrev Same : List ℤ → List ℤ → Type 0
Same xs ys = (z : ℤ) → Contains xs z ↔ Contains ys z

-- of two with the same elements the first ones are equal
same_first : (x y : ℤ) (xs ys : List ℤ) → AreRising (x ∷ xs) → AreRising (y ∷ ys) → Same (x ∷ xs) (y ∷ ys) → x ≡ y
same_first x y xs ys r s h = go (first_or_later y x ys ((h x).0 (in_first x xs))) (first_or_later x y xs ((h y).1 (in_first y ys))) where
  go : (y ≡ x) ⊎ Contains ys x → (x ≡ y) ⊎ Contains xs y → x ≡ y
  go (inl e) b = sym e
  go (inr a) (inl e) = e
  go (inr a) (inr b) = let up = later_is_greater y x ys s a in let down = later_is_greater x y xs r b in absurd (omega (arith, ints))

-- and the others have the same elements
within_rest : (x z : ℤ) (xs ys : List ℤ) → AreRising (x ∷ xs) → (Contains (x ∷ xs) z → Contains (x ∷ ys) z) → Contains xs z → Contains ys z
within_rest x z xs ys r h i = go (first_or_later x z ys (h (in_later x z xs i))) where
  go : (x ≡ z) ⊎ Contains ys z → Contains ys z
  go (inl e) = let up = later_is_greater x z xs r i in absurd (omega (arith, ints))
  go (inr a) = a

pub same_rising : (xs ys : List ℤ) → AreRising xs → AreRising ys → ((z : ℤ) → Contains xs z ↔ Contains ys z) → xs ≡ ys
same_rising [] [] r s h = refl
same_rising [] (y ∷ ys) r s h = let none = (h y).1 (in_first y ys) in absurd (omega (arith, none.1))
same_rising (x ∷ xs) [] r s h = let none = (h x).0 (in_first x xs) in absurd (omega (arith, none.1))
same_rising (x ∷ xs) (y ∷ ys) r s h =
    let first = same_first x y xs ys r s h in
    let s' : AreRising (x ∷ ys) = subst (λ (z : ℤ). AreRising (z ∷ ys)) (sym first) s in
    let h' : Same (x ∷ xs) (x ∷ ys) = subst (λ (z : ℤ). Same (x ∷ xs) (z ∷ ys)) (sym first) h in
    let rest = same_rising xs ys r.1 s.1 (λ z. (within_rest x z xs ys r (h' z).0, within_rest x z ys xs s' (h' z).1)) in
    ap (λ (z : ℤ). z ∷ xs) first ∙ ap (λ (zs : List ℤ). y ∷ zs) rest

-- a body has one list of options after some choices
pub one_list : (leads : Leading) (before xs ys : List ℤ) → AreOptions leads before xs → AreOptions leads before ys → xs ≡ ys
one_list leads before xs ys a b = same_rising xs ys a.rising b.rising (λ z. ((λ i. (b.all z).1 ((a.all z).0 i)), (λ i. (a.all z).1 ((b.all z).0 i))))

-- ---- draws

-- a word takes one option
pub one_draw : (leads : Leading) (word : ℕ) (before : List ℤ) (x y : ℤ) → IsDraw leads word before x → IsDraw leads word before y → x ≡ y
one_draw leads word before x y a b =
    let same = one_list leads before a.options b.options a.are b.are in
    let both : Some x ≡ Some y = sym a.takes ∙ ap (λ (o : List ℤ). option_drawn o word) same ∙ b.takes in
    cc

at_end : (leads : Leading) (before : List ℤ) → leads (before ++ []) ≡ true → leads before ≡ true
at_end leads before e = subst (λ (xs : List ℤ). leads xs ≡ true) (append-nil before) e

one_behind : (leads : Leading) (word : ℕ → ℕ) (k : ℕ) (before us ws : List ℤ)
    → leads (before ++ us) ≡ true → leads (before ++ ws) ≡ true → AreDrawn leads word k (before ++ us) → AreDrawn leads word k (before ++ ws) → us ≡ ws
one_behind leads word k before [] [] a b d e = refl
one_behind leads word k before [] (w ∷ ws) a b d e = let on = (e before ws w refl).goes_on in let ended = at_end leads before a in absurd cc
one_behind leads word k before (u ∷ us) [] a b d e = let on = (d before us u refl).goes_on in let ended = at_end leads before b in absurd cc
one_behind leads word k before (u ∷ us) (w ∷ ws) a b d e =
    let first : u ≡ w = one_draw leads (word (k + length before)) before u w (d before us u refl) (e before ws w refl) in
    let left : before ++ u ∷ us ≡ (before ++ u ∷ []) ++ us = sym (append_assoc before (u ∷ []) us) in
    let right : before ++ w ∷ ws ≡ (before ++ u ∷ []) ++ ws = ap (λ (z : ℤ). before ++ z ∷ ws) (sym first) ∙ sym (append_assoc before (u ∷ []) ws) in
    let rest : us ≡ ws =
    one_behind leads word k (before ++ u ∷ []) us ws
    (subst (λ (xs : List ℤ). leads xs ≡ true) left a)
    (subst (λ (xs : List ℤ). leads xs ≡ true) right b)
    (subst (AreDrawn leads word k) left d)
    (subst (AreDrawn leads word k) right e) in
    ap (λ (z : ℤ). z ∷ us) first ∙ ap (λ (zs : List ℤ). w ∷ zs) rest

pub one_drawn : OneIsDrawn
one_drawn leads word k xs ys a b d e = one_behind leads word k [] xs ys a b d e
