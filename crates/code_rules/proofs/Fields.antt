-- The fields of a message, one more at a time.
use Rattle.std.proofs.Common.{◌≡◌, ◌+◌, ◌<◌, ◌≤◌, ◌&&◌, ℕ, zero, suc, false, List, [], ◌∷◌, length, drop, get_or, ◌⊎◌, inl, inr, refl, ap, sym, ◌∙◌, Some, None, arith}
use Rattle.std.specs.Prelude.{nat_eq}
use Rattle.std.proofs.lemmas.Bool.{cases_eq, eq-eqb, ne_eqb}
use Rattle.std.proofs.lemmas.List.{drop_more, drop_all}
use Rattle.tap_base.specs.declared.place.Range.{Range}
use Rattle.tap_base.specs.Interval.{field_range}
use Rattle.register_code.specs.declared.code.CodeField.{CodeField}
use Rattle.register_code.specs.Fields.{code_field}
use Rattle.register_code.specs.Sending.{fit_fields, free_fields}
use Rattle.register_code.specs.Sites.{lies_in}

-- A fixed field takes no range.
pub fixed_next : (fs : List CodeField) (us : List Range) (i : ℕ) (f : CodeField) (v : ℕ) → i < length fs → f ≡ get_or fs i f → f.fixed ≡ Some v
    → fit_fields (free_fields (drop (i + 1) fs)) us ≡ fit_fields (free_fields (drop i fs)) us
fixed_next fs us i f v l e h = let next : drop i fs ≡ f ∷ drop (i + 1) fs = drop_more fs i f l ∙ ap (λ g. g ∷ drop (i + 1) fs) (sym e) in rw (next, h) refl

-- A free field takes the next one.
pub free_next : (fs : List CodeField) (us : List Range) (i k : ℕ) (f : CodeField) (u : Range) → i < length fs → f ≡ get_or fs i f → f.fixed ≡ None → k < length us → u ≡ get_or us k u
    → (lies_in u (field_range (code_field f)) && fit_fields (free_fields (drop (i + 1) fs)) (drop (k + 1) us)) ≡ fit_fields (free_fields (drop i fs)) (drop k us)
free_next fs us i k f u l e h m d =
    let next : drop i fs ≡ f ∷ drop (i + 1) fs = drop_more fs i f l ∙ ap (λ g. g ∷ drop (i + 1) fs) (sym e) in
    let range : drop k us ≡ u ∷ drop (k + 1) us = drop_more us k u m ∙ ap (λ v. v ∷ drop (k + 1) us) (sym d) in rw (next, range, h) refl

pub free_short : (fs : List CodeField) (us : List Range) (i k : ℕ) (f : CodeField) → i < length fs → f ≡ get_or fs i f → f.fixed ≡ None → length us ≤ k → fit_fields (free_fields (drop i fs)) (drop k us) ≡ false
free_short fs us i k f l e h m =
    let next : drop i fs ≡ f ∷ drop (i + 1) fs = drop_more fs i f l ∙ ap (λ g. g ∷ drop (i + 1) fs) (sym e) in
    let none : drop k us ≡ [] = drop_all k us m in rw (next, none, h) refl

pub ruleset fields_ruled = (fixed_next, free_next, free_short)

same_next : (k n : ℕ) → (k ≡ n) ⊎ (k ≡ n → ⊥) → nat_eq (suc k) (suc n) ≡ nat_eq k n
same_next k n (inl e) = eq-eqb (suc k) (suc n) (ap suc e) ∙ sym (eq-eqb k n e)
same_next k n (inr ne) = ne_eqb (suc k) (suc n) (λ e. ne (omega (arith, e))) ∙ sym (ne_eqb k n ne)

-- With no field left there is no range left.
pub none_left : (us : List Range) (k : ℕ) → k ≤ length us → nat_eq k (length us) ≡ fit_fields [] (drop k us)
none_left [] zero l = refl
none_left [] (suc k) l = absurd (omega arith)
none_left (u ∷ us) zero l = ne_eqb 0 (length (u ∷ us)) (λ e. omega (arith, e))
none_left (u ∷ us) (suc k) l = same_next k (length us) (cases_eq k (length us)) ∙ none_left us k (omega arith)
