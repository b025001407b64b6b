-- Messages can be laid out or have an offence against that, and never both; and the first offence is one.
use Rattle.std.proofs.Common.{◌≡◌, inl, inr, ℕ, ◌<◌, ◌≤◌, List, [], ◌∷◌, sym, ap, subst, ◌∙◌, slice_get, Some, arith}
use Rattle.std.proofs.lemmas.Bool.{cases_order}
use Rattle.std.proofs.lemmas.Option.{same_Some}
use Rattle.tap_base.specs.declared.system.Message.{Message}
use Rattle.tap_base.specs.declared.system.System.{System}
use Rattle.tap_base.specs.declared.wire.Wire.{Wire}
use Rattle.tap_base.specs.declared.wire.WireField.{WireField}
use Rattle.tap_base.specs.Wires.{wire_of}
use Rattle.tap_base.proofs.ListFacts.{each_at}
use Rattle.byte_meaning.specs.Apart.{TellsApart}
use Rattle.byte_meaning.specs.Meaning.{HasReceive}
use Rattle.message_layout.specs.Clashes.{Clash, IsFirstClash, StandBefore}
use Rattle.message_layout.specs.Wires.{AreShort, IsFirstLong, most_bits}
use Rattle.byte_meaning.specs.Apart.{bit_length}
use Rattle.tap_expr.specs.ExprText.{refusal}
use Rattle.tap_base.specs.declared.refusal.RefusalCode.TheVariants as code
use Rattle.tap_front.specs.Layouts.{IsLaidOut, Mislays, alike, long}
use Rattle.tap_front.specs.declared.offence.Offence.{Offence}
use Rattle.tap_front.specs.declared.offence.Offence.TheVariants.{Alike, Coded}

-- ---- never both

not_short : (messages : List (List WireField)) (m : ℕ) → AreShort messages → IsFirstLong messages m → ⊥
not_short messages m h l =
    let few = each_at (λ fields. bit_length fields ≤ most_bits) messages m l.fields h l.there in
    let many = l.long in
    omega (arith, few, many)

no_clash : (wire : Wire) (p q m n : ℕ) → TellsApart wire.messages (HasReceive wire) → Clash wire p q m n → ⊥
no_clash wire p q m n h c = c.alike (h p q m n c.one c.other c.one_received c.other_received c.later c.one_there c.other_there)

pub never_mislaid : (s t : System) (o : Offence) → s ≡ t → IsLaidOut (wire_of s) → Mislays t o → ⊥
never_mislaid s t o e h k = by_offence o (subst (λ x. IsLaidOut (wire_of x)) e h) k where
  by_offence : (o : Offence) → IsLaidOut (wire_of t) → Mislays t o → ⊥
  by_offence o h (long {m} l is) = not_short (wire_of t).messages m h.short l
  by_offence o h (alike {m} {n} short c one_is other_is) = no_clash (wire_of t) c.receiver c.peer m n h.apart c.clash

-- ---- one message is the first that is too long

not_earlier : (messages : List (List WireField)) (m n : ℕ) → IsFirstLong messages m → IsFirstLong messages n → m < n → ⊥
not_earlier messages m n l k less =
    let few = k.first m l.fields less l.there in
    let many = l.long in
    omega (arith, few, many)

one_long : (messages : List (List WireField)) (m n : ℕ) → IsFirstLong messages m → IsFirstLong messages n → m ≡ n
one_long messages m n l k = elim (cases_order m n) [
  | inl same ↦ same
  | inr way ↦ elim way [
    | inl less ↦ absurd (not_earlier messages m n l k less)
    | inr more ↦ absurd (not_earlier messages n m k l more)
  ]
]

-- ---- two messages are the first that clash

-- numbers of which neither stand before the others are the same
same_place : (x y : ℕ) (xs ys : List ℕ) → (StandBefore (x ∷ xs) (y ∷ ys) → ⊥) → (StandBefore (y ∷ ys) (x ∷ xs) → ⊥) → (x ≡ y) × (StandBefore xs ys → ⊥) × (StandBefore ys xs → ⊥)
same_place x y xs ys a b = elim (cases_order x y) [
  | inl same ↦ (same, λ h. a (inr (same, h)), λ h. b (inr (sym same, h)))
  | inr way ↦ elim way [
    | inl less ↦ absurd (a (inl less))
    | inr more ↦ absurd (b (inl more))
  ]
]

one_clash : (wire : Wire) (m n j k : ℕ) → IsFirstClash wire m n → IsFirstClash wire j k → (m ≡ j) × (n ≡ k)
one_clash wire m n j k c d =
    let by = same_place c.receiver d.receiver (c.peer ∷ m ∷ n ∷ []) (d.peer ∷ j ∷ k ∷ []) (d.first c.receiver c.peer m n c.clash) (c.first d.receiver d.peer j k d.clash) in
    let from = same_place c.peer d.peer (m ∷ n ∷ []) (j ∷ k ∷ []) by.1 by.2 in
    let one = same_place m j (n ∷ []) (k ∷ []) from.1 from.2 in
    let other = same_place n k [] [] one.1 one.2 in
    (one.0, other.0)

-- ---- one offence

same_message : (messages : List Message) (m n : ℕ) (one other : Message) → m ≡ n → slice_get messages m ≡ Some one → slice_get messages n ≡ Some other → one ≡ other
same_message messages m n one other e h k = same_Some one other (sym h ∙ ap (slice_get messages) e ∙ k)

of_one : (s : System) (o p : Offence) → Mislays s o → Mislays s p → o ≡ p
of_one s o p (long {m} {message = one} l is) (long {m = n} {message = other} k there) =
    ap (λ (x : Message). Coded (refusal code.M1 x.place)) (same_message s.messages m n one other (one_long (wire_of s).messages m n l k) is there)
of_one s o p (long {m} l is) (alike short c one_is other_is) = absurd (not_short (wire_of s).messages m short l)
of_one s o p (alike short c one_is other_is) (long {m} l is) = absurd (not_short (wire_of s).messages m short l)
of_one s o p (alike {m} {n} {one} {other} short c one_is other_is) (alike {m = j} {n = k} {one = a} {other = b} low d a_is b_is) =
    let same = one_clash (wire_of s) m n j k c d in
    let first = same_message s.messages m j one a same.0 one_is a_is in
    let second = same_message s.messages n k other b same.1 other_is b_is in
    ap (λ (x : Message). Alike other.place x.name other.name) first ∙ ap (λ (x : Message). Alike x.place a.name x.name) second

pub one_mislaid : (s t : System) (o p : Offence) → s ≡ t → Mislays s o → Mislays t p → o ≡ p
one_mislaid s t o p e h k = of_one s o p h (subst (λ x. Mislays x p) (sym e) k)
