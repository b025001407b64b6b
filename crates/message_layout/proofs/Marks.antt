-- Patterns, one bit after another.
use Rattle.std.proofs.Common.{◌≡◌, ℕ, zero, suc, ◌+◌, ◌-◌, ◌/◌, ◌%◌, ◌^◌, ◌<◌, ◌≤◌, List, [], ◌∷◌, ◌++◌, length, map, flat_map, drop, replicate, refl, ap, sym, ◌∙◌, arith, Option, Some, None, false, inl, inr}
use Rattle.std.specs.Prelude.{slice_get}
use Rattle.std.specs.Bool.{Decides}
use Rattle.std.proofs.lemmas.List.{append-nil, append_assoc, drop_all}
use Rattle.std.proofs.lemmas.Option.{slice_get_past}
use Rattle.std.proofs.lemmas.Bool.{cases_lt}
use Rattle.tap_base.specs.declared.wire.WireField.{WireField}
use Rattle.byte_meaning.specs.Spelling.{digits}
use Rattle.byte_meaning.specs.Apart.{bit_length, fixed_bits, pattern, DifferAt}

-- one more digit of a number
pub next_digit : (w at n : ℕ) (old new all : List (Option ℕ)) → at < w → new ≡ old ++ (Some (n / 2 ^ (w - 1 - at) % 2) ∷ [])
    → old ++ map Some (digits (w - at) n) ≡ all → new ++ map Some (digits (w - (at + 1)) n) ≡ all
next_digit w at n old new all less e before =
    let k = w - (at + 1) in
    let left : w - at ≡ suc k = omega arith in
    let here : w - 1 - at ≡ k = omega arith in
    ap (λ xs. xs ++ map Some (digits k n)) (e ∙ ap (λ j. old ++ (Some (n / 2 ^ j % 2) ∷ [])) here)
    ∙ append_assoc old (Some (n / 2 ^ k % 2) ∷ []) (map Some (digits k n))
    ∙ ap (λ j. old ++ map Some (digits j n)) (sym left) ∙ before

-- one more place of a field without a fixed value
pub next_free : (w at : ℕ) (old new all : List (Option ℕ)) → at < w → new ≡ old ++ (None ∷ [])
    → old ++ replicate (w - at) None ≡ all → new ++ replicate (w - (at + 1)) None ≡ all
next_free w at old new all less e before =
    let k = w - (at + 1) in
    let left : w - at ≡ suc k = omega arith in
    ap (λ xs. xs ++ replicate k None) e ∙ append_assoc old (None ∷ []) (replicate k None)
    ∙ ap (λ j. old ++ replicate j None) (sym left) ∙ before

zeros_fixed : (w : ℕ) → map Some (digits w 0) ≡ replicate w (Some 0)
zeros_fixed zero = refl
zeros_fixed (suc w) = let z : 0 / 2 ^ w % 2 ≡ 0 = omega arith in ap (λ b. Some b ∷ map Some (digits w 0)) z ∙ ap (λ xs. Some 0 ∷ xs) (zeros_fixed w)

-- all fields are in, and the padding
pub padded_pattern : (fs : List WireField) (i c : ℕ) (old new : List (Option ℕ)) → length fs ≤ i → c ≡ bit_length fs
    → old ++ flat_map (λ f. fixed_bits f.width f.fixed) (drop i fs) ≡ flat_map (λ f. fixed_bits f.width f.fixed) fs
    → new ≡ old ++ map Some (digits ((8 - c % 8) % 8) 0) → new ≡ pattern fs
padded_pattern fs i c old new past count before e =
    let own : List (Option ℕ) = flat_map (λ f. fixed_bits f.width f.fixed) fs in
    let all : old ≡ own = sym (append-nil old) ∙ ap (λ xs. old ++ flat_map (λ f. fixed_bits f.width f.fixed) xs) (sym (drop_all i fs past)) ∙ before in
    e ∙ ap (λ xs. xs ++ map Some (digits ((8 - c % 8) % 8) 0)) all ∙ ap (λ k. own ++ map Some (digits ((8 - k % 8) % 8) 0)) count
    ∙ ap (λ xs. own ++ xs) (zeros_fixed ((8 - bit_length fs % 8) % 8))

-- behind the end of a pattern nothing differs
nowhere : (xs ys : List (Option ℕ)) (i : ℕ) → length xs ≤ i → ((j : ℕ) → j < i → DifferAt xs ys j → ⊥) → (k : ℕ) → DifferAt xs ys k → ⊥
nowhere xs ys i past none k d = elim (cases_lt k i) [
  | inl h ↦ none k h d
  | inr h ↦ (let e : slice_get xs k ≡ None = slice_get_past xs k (omega arith) in let f : slice_get xs k ≡ Some (Some d.bit) = d.there in absurd (cc))
]

pub differ_nowhere : (xs ys : List (Option ℕ)) (i : ℕ) → length xs ≤ i → ((j : ℕ) → j < i → DifferAt xs ys j → ⊥) → Decides false ((at : ℕ) × DifferAt xs ys at)
differ_nowhere xs ys i past none = (λ e. absurd (cc), λ d. absurd (nowhere xs ys i past none d.0 d.1))
