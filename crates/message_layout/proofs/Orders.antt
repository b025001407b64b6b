-- Arrivals in order.
use Rattle.std.proofs.Common.{◌≡◌, ℕ, zero, suc, ◌<◌, List, [], ◌∷◌, map, get_or, refl, ap, sym, ◌∙◌, subst, arith, inl, inr, ◌⊎◌, Bool, true, Some, Ordering, Less, Equal, Greater}
use Rattle.std.specs.Prelude.{slice_get, nat_lt, ◌==◌, ◌&&◌}
use Rattle.std.specs.Cmp.{IsTotalOrder, IsEquivalence}
use Rattle.std.specs.List.{Contains, dedup}
use Rattle.std.specs.List.Sorted.{IsPermutation, IsSorted}
use Rattle.std.specs.Ordering.{MatchOrdering, nat_cmp, ordering_then, eq_by_cmp, is_eq}
use Rattle.std.proofs.lemmas.Bool.Decides.{nat_tests, Decides-and, Decides-eqb}
use Rattle.std.proofs.lemmas.Cmp.{then_total, on_total, nat_cmp_total, ranked, eq_by_cmp_equiv}
use Rattle.std.proofs.lemmas.List.Kept.{IsStrictlySortedBy-dedup, Contains-dedup, Contains-from_dedup}
use Rattle.std.proofs.lemmas.List.Sorted.{Contains-permutation, IsPermutation-sym}
use Rattle.std.proofs.lemmas.Map.Keys.{Less-from_sorted}
use Rattle.std.proofs.lemmas.Option.{slice_get-get_or, get_or_from_slice_get, slice_get_within}
use Rattle.tap_base.specs.declared.wire.Receive.{Receive}
use Rattle.message_layout.specs.declared.arrivals.Arrival.{Arrival}
use Rattle.message_layout.specs.inner.Arrivals.{AreArrivals, AreInOrder, IsEarlier, arrival, arrival_of}

-- ---- the order that `derive` gives

abbrev pub arrival_cmp : Arrival → Arrival → Ordering
arrival_cmp a b = ordering_then (nat_cmp a.to b.to) (ordering_then (nat_cmp a.from b.from) (nat_cmp a.message b.message))

abbrev pub same_arrival : Arrival → Arrival → Bool
same_arrival a b = a.to == b.to && (a.from == b.from && a.message == b.message)

pub arrivals_total : IsTotalOrder arrival_cmp
arrivals_total = then_total (on_total (λ (a : Arrival). a.to) nat_cmp_total) (then_total (on_total (λ (a : Arrival). a.from) nat_cmp_total) (on_total (λ (a : Arrival). a.message) nat_cmp_total))

less_then : (o p : Ordering) (A B C : Type 0) → MatchOrdering o A B C → ordering_then o p ≡ Less → A ⊎ (B × (p ≡ Less))
less_then Less p A B C m e = inl m
less_then Equal p A B C m e = inr (m, e)
less_then Greater p A B C m e = absurd (cc)

less_first : (x y : ℕ) (p : Ordering) → ordering_then (nat_cmp x y) p ≡ Less → (x < y) ⊎ ((x ≡ y) × (p ≡ Less))
less_first x y p e = less_then (nat_cmp x y) p (x < y) (x ≡ y) (y < x) (ranked x y (nat_cmp x y) refl) e

less_last : (o : Ordering) (A B C : Type 0) → MatchOrdering o A B C → o ≡ Less → A
less_last Less A B C m e = m
less_last Equal A B C m e = absurd (cc)
less_last Greater A B C m e = absurd (cc)

pub earlier : (a b : Arrival) → arrival_cmp a b ≡ Less → IsEarlier a b
earlier a b e = elim (less_first a.to b.to _ e) [
  | inl h ↦ inl h
  | inr h ↦ inr (
    h.0,
    elim (less_first a.from b.from _ h.1) [
      | inl g ↦ inl g
      | inr g ↦ inr (g.0, inl (less_last (nat_cmp a.message b.message) (a.message < b.message) (a.message ≡ b.message) (b.message < a.message) (ranked a.message b.message (nat_cmp a.message b.message) refl) g.1))
    ],
  )
]

tie_then : (o p : Ordering) → is_eq (ordering_then o p) ≡ (is_eq o && is_eq p)
tie_then Less p = refl
tie_then Equal p = refl
tie_then Greater p = refl

tie_nat : (x y : ℕ) → is_eq (nat_cmp x y) ≡ (x == y)
tie_nat x y = by_cases (nat_lt x y) (x == y) refl refl where
  by_cases : (a b : Bool) → nat_lt x y ≡ a → (x == y) ≡ b → is_eq (nat_cmp x y) ≡ (x == y)
  by_cases a b e f = grind (arith, nat_tests)

ties : (a b : Arrival) → same_arrival a b ≡ eq_by_cmp arrival_cmp a b
ties a b =
    sym (tie_then (nat_cmp a.to b.to) (ordering_then (nat_cmp a.from b.from) (nat_cmp a.message b.message))
    ∙ ap (λ t. t && is_eq (ordering_then (nat_cmp a.from b.from) (nat_cmp a.message b.message))) (tie_nat a.to b.to)
    ∙ ap (λ t. a.to == b.to && t) (tie_then (nat_cmp a.from b.from) (nat_cmp a.message b.message)
    ∙ ap (λ t. t && is_eq (nat_cmp a.message b.message)) (tie_nat a.from b.from)
    ∙ ap (λ t. a.from == b.from && t) (tie_nat a.message b.message)))

same_equiv : IsEquivalence same_arrival
same_equiv =
    let e : IsEquivalence (eq_by_cmp arrival_cmp) = eq_by_cmp_equiv arrivals_total in
    record {
      refl = λ x. ties x x ∙ e.refl x;
      symm = λ x y. ties x y ∙ e.symm x y ∙ sym (ties y x);
      congr = λ x y z h. ties x z ∙ e.congr x y z (sym (ties x y) ∙ h) ∙ sym (ties y z);
    }

same_is : (a b : Arrival) → same_arrival a b ≡ true → a ≡ b
same_is a b e =
    let d = (Decides-and (a.to == b.to) (a.from == b.from && a.message == b.message) (Decides-eqb a.to b.to)
    (Decides-and (a.from == b.from) (a.message == b.message) (Decides-eqb a.from b.from) (Decides-eqb a.message b.message))).0 e in
    ap (λ p. arrival p a.from a.message) d.0 ∙ ap (λ q. arrival b.to q a.message) d.1.0 ∙ ap (λ m. arrival b.to b.from m) d.1.1

-- ---- elements and places

pub place_of : {A : Type 0} (xs : List A) (x : A) (h : Contains xs x) → slice_get xs h.0 ≡ Some x
place_of xs x h = slice_get-get_or xs h.0 x h.1 ∙ ap Some h.2

pub contains_at : {A : Type 0} (xs : List A) (x : A) (k : ℕ) → slice_get xs k ≡ Some x → Contains xs x
contains_at xs x k e = (k, slice_get_within xs k x e, get_or_from_slice_get xs k x x e)

-- of two arrivals at different places the one in front is the earlier
pub in_order : (arrivals : List Arrival) (i j : ℕ) (a b : Arrival) → AreInOrder arrivals → i < j → slice_get arrivals i ≡ Some a → slice_get arrivals j ≡ Some b → IsEarlier a b
in_order arrivals i j a b order less e f =
    let P : Arrival → Arrival → Type 0 = IsEarlier in
    subst (λ y. P a y) (get_or_from_slice_get arrivals j b a f) (subst (λ x. P x (get_or arrivals j a)) (get_or_from_slice_get arrivals i a a e) (order i j a less (slice_get_within arrivals j b f)))

-- ---- the arrivals of receives

contains_arrival : (rs : List Receive) (r : Receive) → Contains rs r → Contains (map arrival_of rs) (arrival_of r)
contains_arrival rs r h = contains_at (map arrival_of rs) (arrival_of r) h.0 (at_place rs h.0 (place_of rs r h)) where
  at_place : (xs : List Receive) (k : ℕ) → slice_get xs k ≡ Some r → slice_get (map arrival_of xs) k ≡ Some (arrival_of r)
  at_place [] k e = absurd (cc)
  at_place (x ∷ xs) zero e = let same : x ≡ r = cc in ap (λ y. Some (arrival_of y)) same
  at_place (x ∷ xs) (suc k) e = at_place xs k e

arrival_from : (rs : List Receive) (k p q m : ℕ) → slice_get (map arrival_of rs) k ≡ Some (arrival p q m) → Contains rs (record { by = p; from = q; message = m })
arrival_from rs k p q m h = contains_at rs (record { by = p; from = q; message = m }) k (at_place rs k h) where
  at_place : (xs : List Receive) (i : ℕ) → slice_get (map arrival_of xs) i ≡ Some (arrival p q m) → slice_get xs i ≡ Some (record { by = p; from = q; message = m })
  at_place [] i e = absurd (cc)
  at_place (x ∷ xs) zero e =
      let same : arrival_of x ≡ arrival p q m = cc in
      let back : x ≡ record { by = p; from = q; message = m } = ap (λ (a : Arrival). (let r : Receive = record { by = a.to; from = a.from; message = a.message } in r)) same in
      ap Some back
  at_place (x ∷ xs) (suc i) e = at_place xs i e

pub arrivals_found : (rs : List Receive) (found sorted kept : List Arrival) → found ≡ map arrival_of rs → IsPermutation found sorted → IsSorted arrival_cmp sorted
    → kept ≡ dedup same_arrival sorted → AreArrivals rs kept
arrivals_found rs found sorted kept made moved rises is = subst (AreArrivals rs) (sym is) (record {
  order = λ i j d less within. earlier (get_or (dedup same_arrival sorted) i d) (get_or (dedup same_arrival sorted) j d)
      (Less-from_sorted arrival_cmp (dedup same_arrival sorted) i j d (IsStrictlySortedBy-dedup arrivals_total ties sorted rises) less within);
  some = λ p q m h.
      let back = Contains-permutation sorted found (arrival p q m) (IsPermutation-sym found sorted moved) (Contains-from_dedup same_arrival sorted (arrival p q m) h) in
      arrival_from rs back.0 p q m (ap (λ xs. slice_get xs back.0) (sym made) ∙ place_of found (arrival p q m) back);
  all = λ p q m h.
      Contains-dedup same_equiv same_is sorted (arrival p q m) (Contains-permutation found sorted (arrival p q m) moved
      (subst (λ xs. Contains xs (arrival p q m)) (sym made) (contains_arrival rs (record { by = p; from = q; message = m }) h)));
})
