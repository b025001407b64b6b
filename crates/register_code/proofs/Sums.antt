-- Sums and products over the numbers below a bound, compared term by term.
use Rattle.std.proofs.Common.{◌≡◌, ◌+◌, ◌*◌, ◌<◌, ◌≤◌, ℕ, zero, suc, ◌⊎◌, inl, inr, sym, subst, arith}
use Rattle.std.proofs.lemmas.Bool.{cases_eq}
use Rattle.std.proofs.lemmas.Nat.{mul-le}
use Rattle.register_code.specs.Sums.{sum_below, product_below}

pub sum_le : (n : ℕ) (f h : ℕ → ℕ) → ((k : ℕ) → k < n → f k ≤ h k) → sum_below n f ≤ sum_below n h
sum_le zero f h le = omega arith
sum_le (suc n) f h le =
    let rest = sum_le n f h (λ k l. le k (omega arith)) in
    let here = le n (omega arith) in omega arith

-- Term by term, but for one place, where the first has x less and y more.
pub sum_but : (n p x y : ℕ) (f h : ℕ → ℕ) → p < n → ((k : ℕ) → (k ≡ p → ⊥) → f k ≤ h k) → f p + x ≤ h p + y
    → sum_below n f + x ≤ sum_below n h + y
sum_but zero p x y f h l le at = absurd (omega arith)
sum_but (suc n) p x y f h l le at = by_place (λ m. sum_but n p x y f h m le at) (cases_eq n p) where
  by_place : (p < n → sum_below n f + x ≤ sum_below n h + y) → (n ≡ p) ⊎ (n ≡ p → ⊥) → sum_below (suc n) f + x ≤ sum_below (suc n) h + y
  by_place others (inl e) =
      let rest = sum_le n f h (λ k m. le k (λ d. omega arith)) in
      let here : f n + x ≤ h n + y = subst (λ m. f m + x ≤ h m + y) (sym e) at in omega arith
  by_place others (inr ne) =
      let rest = others (omega arith) in
      let here = le n ne in omega arith

pub product_le : (n : ℕ) (f h : ℕ → ℕ) → ((k : ℕ) → k < n → f k ≤ h k) → product_below n f ≤ product_below n h
product_le zero f h le = omega arith
product_le (suc n) f h le = mul-le _ _ _ _ (product_le n f h (λ k l. le k (omega arith))) (le n (omega arith))

pub product_pos : (n : ℕ) (f : ℕ → ℕ) → ((k : ℕ) → k < n → 1 ≤ f k) → 1 ≤ product_below n f
product_pos zero f le = omega arith
product_pos (suc n) f le = mul-le 1 1 _ _ (product_pos n f (λ k l. le k (omega arith))) (le n (omega arith))

-- Factor by factor, but for one place, where the first has x times less.
pub product_but : (n p x : ℕ) (f h : ℕ → ℕ) → p < n → ((k : ℕ) → (k ≡ p → ⊥) → f k ≤ h k) → x * f p ≤ h p
    → x * product_below n f ≤ product_below n h
product_but zero p x f h l le at = absurd (omega arith)
product_but (suc n) p x f h l le at = by_place (λ m. product_but n p x f h m le at) (cases_eq n p) where
  by_place : (p < n → x * product_below n f ≤ product_below n h) → (n ≡ p) ⊎ (n ≡ p → ⊥) → x * product_below (suc n) f ≤ product_below (suc n) h
  by_place others (inl e) =
      let rest = product_le n f h (λ k m. le k (λ d. omega arith)) in
      let here : x * f n ≤ h n = subst (λ m. x * f m ≤ h m) (sym e) at in
      let both = mul-le _ _ _ _ rest here in omega (arith, both)
  by_place others (inr ne) =
      let rest = others (omega arith) in
      let here = le n ne in
      let both = mul-le _ _ _ _ rest here in omega (arith, both)
