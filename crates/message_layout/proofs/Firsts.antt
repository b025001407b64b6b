-- The first message that is marked, and the first two that clash.
use Rattle.std.proofs.Common.{◌≡◌, ◌⊎◌, ℕ, suc, ◌+◌, ◌<◌, ◌≤◌, List, [], ◌∷◌, length, map, get_or, refl, ap, sym, ◌∙◌, subst, arith, inl, inr, Bool, true, false, Some}
use Rattle.std.specs.Prelude.{slice_get, MatchBool}
use Rattle.std.specs.List.{Contains}
use Rattle.std.proofs.lemmas.Bool.{cases_order, cases_lt}
use Rattle.std.proofs.lemmas.List.{get_or_default}
use Rattle.std.proofs.lemmas.Option.{slice_get-get_or, get_or_from_slice_get, slice_get_within, slice_get-map}
use Rattle.tap_base.specs.declared.wire.Receive.{Receive}
use Rattle.tap_base.specs.declared.wire.Wire.{Wire}
use Rattle.tap_base.specs.declared.wire.WireField.{WireField}
use Rattle.tap_base.specs.Lists.{Each}
use Rattle.tap_base.proofs.ListFacts.{each_at}
use Rattle.byte_meaning.specs.Apart.{Apart, TellsApart}
use Rattle.byte_meaning.specs.Meaning.{HasReceive}
use Rattle.message_layout.specs.declared.arrivals.Arrival.{Arrival}
use Rattle.message_layout.specs.Clashes.{Clash, IsFirstClash, StandBefore}
use Rattle.message_layout.specs.inner.Arrivals.{AreArrivals, AreInOrder, IsEarlier, arrival}
use Rattle.message_layout.specs.inner.Rivals.{AreAllRivals, ComesLater, IsFirstRival, NoRival, is_rival, shape_of}
use Rattle.message_layout.proofs.Orders.{contains_at, in_order, place_of}

-- ---- two arrivals that come the same way

later_message : (a b : Arrival) → IsEarlier a b → a.to ≡ b.to → a.from ≡ b.from → a.message < b.message
later_message a b (inl x) t f = absurd (omega arith)
later_message a b (inr (x, inl y)) t f = absurd (omega arith)
later_message a b (inr (x, inr (y, inl z))) t f = z
later_message a b (inr (x, inr (y, inr (z, w)))) t f = absurd w

same_between : (a b c : Arrival) → IsEarlier a b → IsEarlier b c → c.to ≡ a.to → c.from ≡ a.from → (b.to ≡ a.to) × (b.from ≡ a.from)
same_between a b c (inl x) (inl y) t f = absurd (omega arith)
same_between a b c (inl x) (inr y) t f = let z = y.0 in absurd (omega arith)
same_between a b c (inr x) (inl y) t f = let z = x.0 in absurd (omega arith)
same_between a b c (inr (x, inl u)) (inr (y, inl v)) t f = absurd (omega arith)
same_between a b c (inr (x, inl u)) (inr (y, inr v)) t f = let w = v.0 in absurd (omega arith)
same_between a b c (inr (x, inr u)) (inr y) t f = (sym x, sym u.0)

-- what comes later the same way stands behind
behind_at : (arrivals : List Arrival) (at : ℕ) (a : Arrival) (n : ℕ) → AreInOrder arrivals → slice_get arrivals at ≡ Some a → ComesLater arrivals a n
    → (j : ℕ) × (at < j) × (slice_get arrivals j ≡ Some (arrival a.to a.from n))
behind_at arrivals at a n order here h = by_order (cases_order at h.there.0) where
  there : slice_get arrivals h.there.0 ≡ Some (arrival a.to a.from n)
  there = place_of arrivals (arrival a.to a.from n) h.there

  by_order : (at ≡ h.there.0) ⊎ ((at < h.there.0) ⊎ (h.there.0 < at)) → (j : ℕ) × (at < j) × (slice_get arrivals j ≡ Some (arrival a.to a.from n))
  by_order (inl same) =
      let one : a ≡ arrival a.to a.from n = (let e : slice_get arrivals at ≡ Some (arrival a.to a.from n) = ap (slice_get arrivals) same ∙ there in cc) in
      let number : a.message ≡ n = ap (λ (b : Arrival). b.message) one in
      let later = h.later in absurd (omega arith)
  by_order (inr (inl less)) = (h.there.0, less, there)
  by_order (inr (inr more)) =
      let back = later_message (arrival a.to a.from n) a (in_order arrivals h.there.0 at (arrival a.to a.from n) a order more there here) refl refl in
      let later = h.later in absurd (omega arith)

abbrev NoneSeen : List Arrival → ℕ → ℕ → List Bool → Type 0
NoneSeen arrivals at k row = (j : ℕ) (d : Arrival) → at < j → j < k → is_rival row (get_or arrivals j d).message ≡ false

seen_at : (arrivals : List Arrival) (at k : ℕ) (row : List Bool) (j p q n : ℕ) → NoneSeen arrivals at k row → at < j → j < k → slice_get arrivals j ≡ Some (arrival p q n) → is_rival row n ≡ false
seen_at arrivals at k row j p q n seen from to there =
    let e : get_or arrivals j (arrival p q n) ≡ arrival p q n = get_or_from_slice_get arrivals j (arrival p q n) (arrival p q n) there in
    subst (λ (b : Arrival). is_rival row b.message ≡ false) e (seen j (arrival p q n) from to)

-- all behind were looked at
pub none_left : (arrivals : List Arrival) (at k : ℕ) (row : List Bool) → AreInOrder arrivals → at < length arrivals → length arrivals ≤ k → NoneSeen arrivals at k row → NoRival arrivals at row
none_left arrivals at k row order within past seen d n h =
    let j = behind_at arrivals at (get_or arrivals at d) n order (slice_get-get_or arrivals at d within) h in
    let inside = slice_get_within arrivals j.0 _ j.2 in
    seen_at arrivals at k row j.0 (get_or arrivals at d).to (get_or arrivals at d).from n seen j.1 (omega arith) j.2

-- the one at k comes another way, and so do all behind it
pub none_this_way : (arrivals : List Arrival) (at k : ℕ) (row : List Bool) (e : Arrival) → AreInOrder arrivals → at < k → k < length arrivals
    → (((get_or arrivals k e).to ≡ (get_or arrivals at e).to) × ((get_or arrivals k e).from ≡ (get_or arrivals at e).from) → ⊥) → NoneSeen arrivals at k row → NoRival arrivals at row
none_this_way arrivals at k row e order behind within other seen d n h =
    let d_is : get_or arrivals at d ≡ get_or arrivals at e = get_or_default arrivals at d e (omega arith) in
    by_place (subst (λ a. ComesLater arrivals a n) d_is h) where
      a : Arrival
      a = get_or arrivals at e

      b : Arrival
      b = get_or arrivals k e

      by_place : ComesLater arrivals a n → is_rival row n ≡ false
      by_place g =
          let j = behind_at arrivals at a n order (slice_get-get_or arrivals at e (omega arith)) g in
          elim (cases_order j.0 k) [
            | inl same ↦ (
                let one : b ≡ arrival a.to a.from n = get_or_from_slice_get arrivals k (arrival a.to a.from n) e (ap (slice_get arrivals) (sym same) ∙ j.2) in
                absurd (other (ap (λ (x : Arrival). x.to) one, ap (λ (x : Arrival). x.from) one))
                )
            | inr way ↦ elim way [
              | inl less ↦ seen_at arrivals at k row j.0 a.to a.from n seen j.1 less j.2
              | inr more ↦ absurd (other (same_between a b (arrival a.to a.from n)
                  (in_order arrivals at k a b order behind (slice_get-get_or arrivals at e (omega arith)) (slice_get-get_or arrivals k e within))
                  (in_order arrivals k j.0 b (arrival a.to a.from n) order more (slice_get-get_or arrivals k e within) j.2) refl refl))
            ]
          ]

-- the one at k is marked
pub first_marked : (arrivals : List Arrival) (at k : ℕ) (row : List Bool) (e : Arrival) → AreInOrder arrivals → at < k → k < length arrivals
    → (get_or arrivals k e).to ≡ (get_or arrivals at e).to → (get_or arrivals k e).from ≡ (get_or arrivals at e).from
    → is_rival row (get_or arrivals k e).message ≡ true → NoneSeen arrivals at k row → IsFirstRival arrivals at row (get_or arrivals k e).message
first_marked arrivals at k row e order behind within to from marked seen = record { comes = comes_; marked = marked; first = first_ } where
  a : Arrival
  a = get_or arrivals at e

  b : Arrival
  b = get_or arrivals k e

  a_there : slice_get arrivals at ≡ Some a
  a_there = slice_get-get_or arrivals at e (omega arith)

  b_there : slice_get arrivals k ≡ Some b
  b_there = slice_get-get_or arrivals k e within

  b_is : b ≡ arrival a.to a.from b.message
  b_is = ap (λ t. arrival t b.from b.message) to ∙ ap (λ f. arrival a.to f b.message) from

  d_is : (d : Arrival) → get_or arrivals at e ≡ get_or arrivals at d
  d_is d = get_or_default arrivals at e d (omega arith)

  comes_ : (d : Arrival) → ComesLater arrivals (get_or arrivals at d) b.message
  comes_ d = subst (λ x. ComesLater arrivals x b.message) (d_is d) (record {
    there = contains_at arrivals (arrival a.to a.from b.message) k (b_there ∙ ap Some b_is);
    later = later_message a b (in_order arrivals at k a b order behind a_there b_there) (sym to) (sym from);
  })

  first_ : (d : Arrival) (n : ℕ) → ComesLater arrivals (get_or arrivals at d) n → n < b.message → is_rival row n ≡ false
  first_ d n h less =
      let j = behind_at arrivals at a n order a_there (subst (λ x. ComesLater arrivals x n) (sym (d_is d)) h) in
      elim (cases_order j.0 k) [
        | inl same ↦ (
            let one : b ≡ arrival a.to a.from n = get_or_from_slice_get arrivals k (arrival a.to a.from n) e (ap (slice_get arrivals) (sym same) ∙ j.2) in
            let number : b.message ≡ n = ap (λ (x : Arrival). x.message) one in
            absurd (omega arith)
            )
        | inr way ↦ elim way [
          | inl front ↦ seen_at arrivals at k row j.0 a.to a.from n seen j.1 front j.2
          | inr back ↦ (
              let more = later_message b (arrival a.to a.from n) (in_order arrivals k j.0 b (arrival a.to a.from n) order back b_there j.2) to from in
              absurd (omega arith)
              )
        ]
      ]

-- ---- marks and messages

shape_there : (messages : List (List WireField)) (m : ℕ) (fields : List WireField) → slice_get messages m ≡ Some fields → slice_get (map shape_of messages) m ≡ Some (shape_of fields)
shape_there messages m fields e = slice_get-map shape_of messages m ∙ (cc)

not_marked : (messages : List (List WireField)) (rivals : List (List Bool)) (m n : ℕ) (row : List Bool) (one other : List WireField) → AreAllRivals (map shape_of messages) rivals
    → slice_get rivals m ≡ Some row → m < n → slice_get messages m ≡ Some one → slice_get messages n ≡ Some other → is_rival row n ≡ false → Apart one other
not_marked messages rivals m n row one other all there less e f free =
    subst (λ b. MatchBool b (Apart one other → ⊥) (Apart one other)) free
    (all.marked m row there n (shape_of one) (shape_of other) less (shape_there messages m one e) (shape_there messages n other f))

is_marked_clash : (messages : List (List WireField)) (rivals : List (List Bool)) (m n : ℕ) (row : List Bool) (one other : List WireField) → AreAllRivals (map shape_of messages) rivals
    → slice_get rivals m ≡ Some row → m < n → slice_get messages m ≡ Some one → slice_get messages n ≡ Some other → is_rival row n ≡ true → Apart one other → ⊥
is_marked_clash messages rivals m n row one other all there less e f marked =
    subst (λ b. MatchBool b (Apart one other → ⊥) (Apart one other)) marked
    (all.marked m row there n (shape_of one) (shape_of other) less (shape_there messages m one e) (shape_there messages n other f))

-- what is received is there
pub received_there : (messages : List (List WireField)) (receives : List Receive) (p q m : ℕ) → Each (λ r. r.message < length messages) receives
    → Contains receives (record { by = p; from = q; message = m }) → m < length messages
received_there messages receives p q m all h = each_at (λ r. r.message < length messages) receives h.0 _ all (place_of receives _ h)

pub counted_rivals : (messages : List (List WireField)) (rivals : List (List Bool)) → AreAllRivals (map shape_of messages) rivals → length rivals ≡ length messages
counted_rivals messages rivals all = all.counted ∙ length_shapes messages where
  length_shapes : (xs : List (List WireField)) → length (map shape_of xs) ≡ length xs
  length_shapes [] = refl
  length_shapes (x ∷ xs) = ap suc (length_shapes xs)

pub arriving_there : (messages : List (List WireField)) (receives : List Receive) (arrivals : List Arrival) (at : ℕ) (d : Arrival) → Each (λ r. r.message < length messages) receives
    → AreArrivals receives arrivals → at < length arrivals → (get_or arrivals at d).message < length messages
arriving_there messages receives arrivals at d all are within =
    let a : Arrival = get_or arrivals at d in
    received_there messages receives a.to a.from a.message all (are.some a.to a.from a.message (contains_at arrivals a at (slice_get-get_or arrivals at d within)))

-- ---- clashes

abbrev pub NoneBefore : List Arrival → List (List Bool) → ℕ → Type 0
NoneBefore arrivals rivals at = (j : ℕ) (d : Arrival) (row : List Bool) → j < at → slice_get rivals (get_or arrivals j d).message ≡ Some row → NoRival arrivals j row

-- two messages that one process receives from one other, the first of them by an arrival that was looked at
apart_before : (wire : Wire) (arrivals : List Arrival) (rivals : List (List Bool)) (at p q m n : ℕ) (one other : List WireField) (h : Contains arrivals (arrival p q m))
    → AreAllRivals (map shape_of wire.messages) rivals → NoneBefore arrivals rivals at → h.0 < at → Contains arrivals (arrival p q n) → m < n
    → slice_get wire.messages m ≡ Some one → slice_get wire.messages n ≡ Some other → Apart one other
apart_before wire arrivals rivals at p q m n one other h all none less also later e f =
    let inside : m < length wire.messages = slice_get_within wire.messages m one e in
    let counted = counted_rivals wire.messages rivals all in
    let row_there : slice_get rivals m ≡ Some (get_or rivals m []) = slice_get-get_or rivals m [] (omega arith) in
    let row_here : slice_get rivals (get_or arrivals h.0 (arrival p q m)).message ≡ Some (get_or rivals m []) = ap (λ (a : Arrival). slice_get rivals a.message) h.2 ∙ row_there in
    let comes : ComesLater arrivals (get_or arrivals h.0 (arrival p q m)) n = subst (λ a. ComesLater arrivals a n) (sym h.2) (record { there = also; later = later }) in
    not_marked wire.messages rivals m n (get_or rivals m []) one other all row_there later e f (none h.0 (arrival p q m) (get_or rivals m []) less row_here (arrival p q m) n comes)

-- all arrivals were looked at
pub tells_apart : (wire : Wire) (arrivals : List Arrival) (rivals : List (List Bool)) (at : ℕ) → AreArrivals wire.receives arrivals → AreAllRivals (map shape_of wire.messages) rivals
    → length arrivals ≤ at → NoneBefore arrivals rivals at → TellsApart wire.messages (HasReceive wire)
tells_apart wire arrivals rivals at are all past none p q m n one other h g less e f =
    let place = are.all p q m h in
    let inside : place.0 < length arrivals = place.1 in
    apart_before wire arrivals rivals at p q m n one other place all none (omega arith) (are.all p q n g) less e f

not_before : (p q j k r s m n : ℕ) → StandBefore (r ∷ s ∷ m ∷ []) (p ∷ q ∷ j ∷ []) → StandBefore (p ∷ q ∷ j ∷ k ∷ []) (r ∷ s ∷ m ∷ n ∷ []) → ⊥
not_before p q j k r s m n (inl x) (inl y) = absurd (omega arith)
not_before p q j k r s m n (inl x) (inr y) = let z = y.0 in absurd (omega arith)
not_before p q j k r s m n (inr x) (inl y) = let z = x.0 in absurd (omega arith)
not_before p q j k r s m n (inr (x, inl u)) (inr (y, inl v)) = absurd (omega arith)
not_before p q j k r s m n (inr (x, inl u)) (inr (y, inr v)) = let z = v.0 in absurd (omega arith)
not_before p q j k r s m n (inr (x, inr u)) (inr (y, inl v)) = let z = u.0 in absurd (omega arith)
not_before p q j k r s m n (inr (x, inr (u, inl w))) (inr (y, inr (v, inl z))) = absurd (omega arith)
not_before p q j k r s m n (inr (x, inr (u, inl w))) (inr (y, inr (v, inr z))) = let t = z.0 in absurd (omega arith)
not_before p q j k r s m n (inr (x, inr (u, inr w))) (inr y) = absurd w.1

last_less : (p q j k n : ℕ) → StandBefore (p ∷ q ∷ j ∷ k ∷ []) (p ∷ q ∷ j ∷ n ∷ []) → k < n
last_less p q j k n (inl x) = absurd (omega arith)
last_less p q j k n (inr (x, inl y)) = absurd (omega arith)
last_less p q j k n (inr (x, inr (y, inl z))) = absurd (omega arith)
last_less p q j k n (inr (x, inr (y, inr (z, inl w)))) = w
last_less p q j k n (inr (x, inr (y, inr (z, inr w)))) = absurd w.1

-- the arrival at a place has a rival, and none before it has one
pub first_clash : (wire : Wire) (arrivals : List Arrival) (rivals : List (List Bool)) (at n : ℕ) (d : Arrival) (row : List Bool) → AreArrivals wire.receives arrivals
    → AreAllRivals (map shape_of wire.messages) rivals → Each (λ r. r.message < length wire.messages) wire.receives → at < length arrivals
    → slice_get rivals (get_or arrivals at d).message ≡ Some row → NoneBefore arrivals rivals at → IsFirstRival arrivals at row n
    → IsFirstClash wire (get_or arrivals at d).message n
first_clash wire arrivals rivals at n d row are all received within row_there none found = record { receiver = a.to; peer = a.from; clash = clash_; first = first_ } where
  a : Arrival
  a = get_or arrivals at d

  a_there : slice_get arrivals at ≡ Some a
  a_there = slice_get-get_or arrivals at d within

  comes_ : ComesLater arrivals a n
  comes_ = found.comes d

  one_there : slice_get wire.messages a.message ≡ Some (get_or wire.messages a.message [])
  one_there = slice_get-get_or wire.messages a.message [] (arriving_there wire.messages wire.receives arrivals at d received are within)

  other_received_ : HasReceive wire a.to n a.from
  other_received_ = are.some a.to a.from n comes_.there

  other_there : slice_get wire.messages n ≡ Some (get_or wire.messages n [])
  other_there = slice_get-get_or wire.messages n [] (received_there wire.messages wire.receives a.to a.from n received other_received_)

  clash_ : Clash wire a.to a.from a.message n
  clash_ = record {
    one = get_or wire.messages a.message [];
    other = get_or wire.messages n [];
    one_there = one_there;
    other_there = other_there;
    one_received = are.some a.to a.from a.message (contains_at arrivals a at a_there);
    other_received = other_received_;
    later = comes_.later;
    alike = is_marked_clash wire.messages rivals a.message n row (get_or wire.messages a.message []) (get_or wire.messages n []) all row_there comes_.later one_there other_there found.marked;
  }

  first_ : (p q j k : ℕ) → Clash wire p q j k → StandBefore (p ∷ q ∷ j ∷ k ∷ []) (a.to ∷ a.from ∷ a.message ∷ n ∷ []) → ⊥
  first_ p q j k clash before =
      let place = are.all p q j clash.one_received in
      let there : slice_get arrivals place.0 ≡ Some (arrival p q j) = place_of arrivals (arrival p q j) place in
      elim (cases_order place.0 at) [
        | inl same ↦ (
            let is : a ≡ arrival p q j = get_or_from_slice_get arrivals at (arrival p q j) d (ap (slice_get arrivals) (sym same) ∙ there) in
            let comes : ComesLater arrivals a k = subst (λ b. ComesLater arrivals b k) (sym is) (record { there = are.all p q k clash.other_received; later = clash.later }) in
            let less : k < n = last_less p q j k n (subst (λ (b : Arrival). StandBefore (p ∷ q ∷ j ∷ k ∷ []) (b.to ∷ b.from ∷ b.message ∷ n ∷ [])) is before) in
            let row_is : slice_get rivals j ≡ Some row = ap (λ (b : Arrival). slice_get rivals b.message) (sym is) ∙ row_there in
            clash.alike (not_marked wire.messages rivals j k row clash.one clash.other all row_is clash.later clash.one_there clash.other_there (found.first d k comes less))
            )
        | inr way ↦ elim way [
          | inl less ↦ clash.alike (apart_before wire arrivals rivals at p q j k clash.one clash.other place all none less (are.all p q k clash.other_received) clash.later clash.one_there clash.other_there)
          | inr more ↦ not_before p q j k a.to a.from a.message n (in_order arrivals at place.0 a (arrival p q j) are.order more a_there there) before
        ]
      ]

-- one arrival more was looked at
pub looked_at : (arrivals : List Arrival) (rivals : List (List Bool)) (at : ℕ) (e : Arrival) (found : List Bool) → at < length arrivals
    → slice_get rivals (get_or arrivals at e).message ≡ Some found → NoRival arrivals at found → NoneBefore arrivals rivals at → NoneBefore arrivals rivals (at + 1)
looked_at arrivals rivals at e found within there free none j d row less is = elim (cases_lt j at) [
  | inl front ↦ none j d row front is
  | inr upto ↦ (
      let same : j ≡ at = omega arith in
      let one : get_or arrivals j d ≡ get_or arrivals at e = ap (λ k. get_or arrivals k d) same ∙ get_or_default arrivals at d e within in
      let rows : found ≡ row = (let f : slice_get rivals (get_or arrivals at e).message ≡ Some row = ap (λ (a : Arrival). slice_get rivals a.message) (sym one) ∙ is in cc) in
      subst (λ k. NoRival arrivals k row) (sym same) (subst (NoRival arrivals at) rows free)
      )
]
