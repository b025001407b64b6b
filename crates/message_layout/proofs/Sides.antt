-- The arrivals of one receiver and one peer stand side by side.
use Rattle.std.proofs.Common.{◌≡◌, ℕ, ◌+◌, ◌-◌, ◌<◌, ◌≤◌, List, length, get_or, take, drop, refl, ap, sym, ◌∙◌, subst, arith, inl, inr, ◌⊎◌, Bool, true, false, Some}
use Rattle.std.specs.Prelude.{nat_lt, ◌==◌, ◌&&◌, not}
use Rattle.std.specs.Bool.{Decides}
use Rattle.std.specs.List.{Contains}
use Rattle.std.specs.List.Sorted.{IsPartitionedBy, IsPartitionPoint}
use Rattle.std.proofs.lemmas.Bool.{cases_order, cases_lt}
use Rattle.std.proofs.lemmas.Bool.Decides.{Decides-and, Decides-or, Decides-eqb, Decides-ltb}
use Rattle.std.proofs.lemmas.List.{get_or-take, get_or-drop, length-take-le, length-drop}
use Rattle.std.proofs.lemmas.Option.{slice_get-get_or}
use Rattle.message_layout.specs.declared.arrivals.Arrival.{Arrival}
use Rattle.message_layout.specs.inner.Arrivals.{AreBetween, AreInOrder, IsEarlier, arrival, stands_before, stands_behind}
use Rattle.message_layout.proofs.Orders.{contains_at}

before_says : (a : Arrival) (p q : ℕ) → Decides (stands_before a p q) ((a.to < p) ⊎ ((a.to ≡ p) × (a.from < q)))
before_says a p q = Decides-or (nat_lt a.to p) (a.to == p && nat_lt a.from q) (Decides-ltb a.to p) (Decides-and (a.to == p) (nat_lt a.from q) (Decides-eqb a.to p) (Decides-ltb a.from q))

behind_says : (a : Arrival) (p q : ℕ) → Decides (stands_behind a p q) ((p < a.to) ⊎ ((a.to ≡ p) × (q < a.from)))
behind_says a p q = Decides-or (nat_lt p a.to) (a.to == p && nat_lt q a.from) (Decides-ltb p a.to) (Decides-and (a.to == p) (nat_lt q a.from) (Decides-eqb a.to p) (Decides-ltb q a.from))

no_true : (b : Bool) (P : Type 0) → Decides b P → b ≡ false → P → ⊥
no_true b P d e h = let t : b ≡ true = d.1 h in absurd (cc)

not_true : (b : Bool) → not b ≡ true → b ≡ false
not_true true e = absurd (cc)
not_true false e = refl

not_false : (b : Bool) → not b ≡ false → b ≡ true
not_false true e = refl
not_false false e = absurd (cc)

earlier_before : (a b : Arrival) (p q : ℕ) → IsEarlier a b → stands_before b p q ≡ true → stands_before a p q ≡ true
earlier_before a b p q h e = (before_says a p q).1 (both h ((before_says b p q).0 e)) where
  both : IsEarlier a b → (b.to < p) ⊎ ((b.to ≡ p) × (b.from < q)) → (a.to < p) ⊎ ((a.to ≡ p) × (a.from < q))
  both (inl x) (inl y) = inl (omega arith)
  both (inl x) (inr y) = let z = y.0 in inl (omega arith)
  both (inr x) (inl y) = let z = x.0 in inl (omega arith)
  both (inr (t, inl x)) (inr y) = let z = y.0 in let w = y.1 in inr (omega arith, omega arith)
  both (inr (t, inr x)) (inr y) = let z = y.0 in let w = y.1 in let v = x.0 in inr (omega arith, omega arith)

behind_later : (a b : Arrival) (p q : ℕ) → IsEarlier a b → stands_behind a p q ≡ true → stands_behind b p q ≡ true
behind_later a b p q h e = (behind_says b p q).1 (both h ((behind_says a p q).0 e)) where
  both : IsEarlier a b → (p < a.to) ⊎ ((a.to ≡ p) × (q < a.from)) → (p < b.to) ⊎ ((b.to ≡ p) × (q < b.from))
  both (inl x) (inl y) = inl (omega arith)
  both (inl x) (inr y) = let z = y.0 in inl (omega arith)
  both (inr x) (inl y) = let z = x.0 in inl (omega arith)
  both (inr (t, inl x)) (inr y) = let z = y.0 in let w = y.1 in inr (omega arith, omega arith)
  both (inr (t, inr x)) (inr y) = let z = y.0 in let w = y.1 in let v = x.0 in inr (omega arith, omega arith)

pub before_parted : (arrivals : List Arrival) (p q : ℕ) → AreInOrder arrivals → IsPartitionedBy (λ a. stands_before a p q) arrivals
before_parted arrivals p q order i j d upto within e = elim (cases_lt i j) [
  | inl less ↦ earlier_before (get_or arrivals i d) (get_or arrivals j d) p q (order i j d less within) e
  | inr more ↦ (let same : j ≡ i = omega arith in subst (λ k. stands_before (get_or arrivals k d) p q ≡ true) same e)
]

pub behind_parted : (arrivals : List Arrival) (p q : ℕ) → AreInOrder arrivals → IsPartitionedBy (λ a. not (stands_behind a p q)) arrivals
behind_parted arrivals p q order i j d upto within e = elim (cases_lt i j) [
  | inl less ↦ by_test (stands_behind (get_or arrivals i d) p q) refl less
  | inr more ↦ (let same : j ≡ i = omega arith in subst (λ k. not (stands_behind (get_or arrivals k d) p q) ≡ true) same e)
] where
  by_test : (b : Bool) → stands_behind (get_or arrivals i d) p q ≡ b → i < j → not b ≡ true
  by_test false f less = refl
  by_test true f less =
      let g : stands_behind (get_or arrivals j d) p q ≡ true = behind_later (get_or arrivals i d) (get_or arrivals j d) p q (order i j d less within) f in
      let h : stands_behind (get_or arrivals j d) p q ≡ false = not_true (stands_behind (get_or arrivals j d) p q) e in
      absurd (cc)

not_both : (a : Arrival) (p q : ℕ) → stands_before a p q ≡ true → stands_behind a p q ≡ true → ⊥
not_both a p q e f = both ((before_says a p q).0 e) ((behind_says a p q).0 f) where
  both : (a.to < p) ⊎ ((a.to ≡ p) × (a.from < q)) → (p < a.to) ⊎ ((a.to ≡ p) × (q < a.from)) → ⊥
  both (inl x) (inl y) = absurd (omega arith)
  both (inl x) (inr y) = let z = y.0 in absurd (omega arith)
  both (inr x) (inl y) = let z = x.0 in absurd (omega arith)
  both (inr x) (inr y) = let z = x.1 in let w = y.1 in absurd (omega arith)

neither : (a : Arrival) (p q : ℕ) → stands_before a p q ≡ false → stands_behind a p q ≡ false → (a.to ≡ p) × (a.from ≡ q)
neither a p q e f = by_to (cases_order a.to p) where
  no_before : (a.to < p) ⊎ ((a.to ≡ p) × (a.from < q)) → ⊥
  no_before h = no_true (stands_before a p q) _ (before_says a p q) e h

  no_behind : (p < a.to) ⊎ ((a.to ≡ p) × (q < a.from)) → ⊥
  no_behind h = no_true (stands_behind a p q) _ (behind_says a p q) f h

  by_from : a.to ≡ p → (a.from ≡ q) ⊎ ((a.from < q) ⊎ (q < a.from)) → (a.to ≡ p) × (a.from ≡ q)
  by_from t (inl same) = (t, same)
  by_from t (inr (inl less)) = absurd (no_before (inr (t, less)))
  by_from t (inr (inr more)) = absurd (no_behind (inr (t, more)))

  by_to : (a.to ≡ p) ⊎ ((a.to < p) ⊎ (p < a.to)) → (a.to ≡ p) × (a.from ≡ q)
  by_to (inl same) = by_from same (cases_order a.from q)
  by_to (inr (inl less)) = absurd (no_before (inl less))
  by_to (inr (inr more)) = absurd (no_behind (inl more))

own_place : (p q m : ℕ) → (stands_before (arrival p q m) p q ≡ true → ⊥) × (stands_behind (arrival p q m) p q ≡ true → ⊥)
own_place p q m = (λ e. one ((before_says (arrival p q m) p q).0 e), λ e. other ((behind_says (arrival p q m) p q).0 e)) where
  one : (p < p) ⊎ ((p ≡ p) × (q < q)) → ⊥
  one (inl x) = absurd (omega arith)
  one (inr x) = let y = x.1 in absurd (omega arith)

  other : (p < p) ⊎ ((p ≡ p) × (q < q)) → ⊥
  other (inl x) = absurd (omega arith)
  other (inr x) = let y = x.1 in absurd (omega arith)

abbrev pub Begins : List Arrival → ℕ → ℕ → ℕ → Type 0
Begins arrivals p q first = IsPartitionPoint (λ a. stands_before a p q ≡ true) (λ a. stands_before a p q ≡ false) arrivals first

abbrev pub Ends : List Arrival → ℕ → ℕ → ℕ → Type 0
Ends arrivals p q end = IsPartitionPoint (λ a. not (stands_behind a p q) ≡ true) (λ a. not (stands_behind a p q) ≡ false) arrivals end

pub begins_first : (arrivals : List Arrival) (p q first end : ℕ) → first ≤ length arrivals → Begins arrivals p q first → Ends arrivals p q end → first ≤ end
begins_first arrivals p q first end within begins ends = elim (cases_lt end first) [
  | inl less ↦ absurd (not_both (get_or arrivals end (arrival 0 0 0)) p q (begins.0 end (arrival 0 0 0) (omega arith) less)
      (not_false _ (ends.1 end (arrival 0 0 0) (omega arith) (omega arith))))
  | inr upto ↦ omega arith
]

part_length : (arrivals : List Arrival) (first end : ℕ) → end ≤ length arrivals → first ≤ end → length (take (end - first) (drop first arrivals)) ≡ end - first
part_length arrivals first end within upto = let l = length-drop first arrivals in length-take-le (end - first) (drop first arrivals) (omega arith)

part_at : (arrivals : List Arrival) (first end k : ℕ) (d : Arrival) → k < end - first → get_or (take (end - first) (drop first arrivals)) k d ≡ get_or arrivals (first + k) d
part_at arrivals first end k d less = get_or-take (end - first) (drop first arrivals) k d less ∙ get_or-drop first arrivals k d

pub found_between : (arrivals : List Arrival) (p q first end : ℕ) → end ≤ length arrivals → first ≤ end → Begins arrivals p q first → Ends arrivals p q end
    → AreBetween arrivals p q (take (end - first) (drop first arrivals))
found_between arrivals p q first end within upto begins ends = record { some = some_; all = all_ } where
  part : List Arrival
  part = take (end - first) (drop first arrivals)

  some_ : (k : ℕ) (d : Arrival) → k < length part → Contains arrivals (arrival p q (get_or part k d).message)
  some_ k d less =
      let l : length part ≡ end - first = part_length arrivals first end within upto in
      let a : Arrival = get_or arrivals (first + k) d in
      let here : get_or part k d ≡ a = part_at arrivals first end k d (omega arith) in
      let way = neither a p q (begins.1 (first + k) d (omega arith) (omega arith)) (not_true _ (ends.0 (first + k) d (omega arith) (omega arith))) in
      let is : a ≡ arrival p q a.message = ap (λ t. arrival t a.from a.message) way.0 ∙ ap (λ f. arrival p f a.message) way.1 in
      subst (λ (b : Arrival). Contains arrivals (arrival p q b.message)) (sym here)
      (contains_at arrivals (arrival p q a.message) (first + k) (slice_get-get_or arrivals (first + k) d (omega arith) ∙ ap Some is))

  all_ : (m : ℕ) → Contains arrivals (arrival p q m) → Contains part (arrival p q m)
  all_ m h =
      let k : ℕ = h.0 in
      let less : h.0 < length arrivals = h.1 in
      let own = own_place p q m in
      let l : length part ≡ end - first = part_length arrivals first end within upto in
      let from : first ≤ h.0 = elim (cases_lt h.0 first) [
        | inl in_front ↦ absurd (own.0 (subst (λ a. stands_before a p q ≡ true) h.2 (begins.0 h.0 (arrival p q m) (omega arith) in_front)))
        | inr past ↦ omega arith
      ] in
      let to : h.0 < end = elim (cases_lt h.0 end) [
        | inl inside ↦ inside
        | inr past ↦ absurd (own.1 (subst (λ a. stands_behind a p q ≡ true) h.2 (not_false _ (ends.1 h.0 (arrival p q m) (omega arith) less))))
      ] in
      let place : first + (h.0 - first) ≡ h.0 = omega arith in
      (h.0 - first, omega arith, part_at arrivals first end (h.0 - first) (arrival p q m) (omega arith) ∙ ap (λ i. get_or arrivals i (arrival p q m)) place ∙ h.2)
