-- Messages that are told apart have no spelling in common.
use Rattle.std.proofs.Common.{◌≡◌, ℕ, zero, suc, ◌<◌, ℤ, List, [], ◌∷◌, ◌++◌, length, map, replicate, refl, ap, sym, ◌∙◌, subst, inl, inr, ◌⊎◌, arith, Option, Some, None}
use Rattle.std.specs.Prelude.{slice_get, unsigned_abs, flat_map, ◌≤ℤ◌}
use Rattle.std.proofs.lemmas.Bool.{cases_order}
use Rattle.tap_base.specs.declared.wire.WireField.{WireField}
use Rattle.tap_base.specs.Interval.{IsIn, field_range}
use Rattle.tap_base.specs.Ranges.{AreIn}
use Rattle.byte_meaning.specs.declared.cell.Cell.{Cell}
use Rattle.byte_meaning.specs.declared.cell.Cell.TheVariants as cell
use Rattle.byte_meaning.specs.Messages.{AreFields, Receives}
use Rattle.byte_meaning.specs.Spelling.{digits, all_digits, spelling}
use Rattle.byte_meaning.specs.Apart.{bit_length, fixed_bits, pattern, Apart, TellsApart}
use Rattle.byte_meaning.specs.Laws.{SpellingsMean, OneMeaning, SpellingsAreRead, SystemsMean, WiresMean}
use Rattle.byte_meaning.specs.Meaning.{HasReceive, Means, Spells}
use Rattle.byte_meaning.specs.Reading.{bits_of, meaning}
use Rattle.byte_meaning.proofs.Meant.{meaning_is_meant}
use Rattle.byte_meaning.proofs.Spelled.{bits_of_spelling, counted_as, length_all_digits, length_spelling, same_values, zeros_behind}

-- ---- bits that agree with a pattern

-- each bit that is fixed there is the one that is fixed
abbrev Agree : List (Option ℕ) → List ℕ → Type 0
Agree [] [] = Unit {0}
Agree (None ∷ xs) (b ∷ bs) = Agree xs bs
Agree (Some a ∷ xs) (b ∷ bs) = (a ≡ b) × Agree xs bs
Agree _ _ = ⊥

agree_append : (xs : List (Option ℕ)) (bs : List ℕ) (ys : List (Option ℕ)) (cs : List ℕ) → Agree xs bs → Agree ys cs → Agree (xs ++ ys) (bs ++ cs)
agree_append [] [] ys cs g h = h
agree_append (None ∷ xs) (b ∷ bs) ys cs g h = agree_append xs bs ys cs g h
agree_append (Some a ∷ xs) (b ∷ bs) ys cs g h = (g.0, agree_append xs bs ys cs g.1 h)
agree_append [] (b ∷ bs) ys cs g h = absurd g
agree_append (None ∷ xs) [] ys cs g h = absurd g
agree_append (Some a ∷ xs) [] ys cs g h = absurd g

agree_with_itself : (bs : List ℕ) → Agree (map Some bs) bs
agree_with_itself [] = tt
agree_with_itself (b ∷ bs) = (refl, agree_with_itself bs)

agree_free : (w n : ℕ) → Agree (replicate w None) (digits w n)
agree_free zero n = tt
agree_free (suc w) n = agree_free w n

agree_zeros : (n : ℕ) → Agree (replicate n (Some 0)) (replicate n 0)
agree_zeros zero = tt
agree_zeros (suc n) = (refl, agree_zeros n)

only_value : (v c : ℤ) → c ≤ℤ v → v ≤ℤ c → v ≡ c
only_value v c g h = grind arith

agree_field : (w : ℕ) (fixed : Option ℤ) (v : ℤ) → IsIn v (field_range (record { width = w; fixed = fixed })) → Agree (fixed_bits w fixed) (digits w (unsigned_abs v))
agree_field w None v h = agree_free w (unsigned_abs v)
agree_field w (Some c) v h =
    subst (λ x. Agree (map Some (digits w (unsigned_abs x))) (digits w (unsigned_abs v))) (only_value v c h.0 h.1) (agree_with_itself (digits w (unsigned_abs v)))

agree_fields : (fs : List WireField) (vs : List ℤ) → length vs ≡ length fs → AreIn (map field_range fs) vs → Agree (flat_map (λ f. fixed_bits f.width f.fixed) fs) (all_digits fs vs)
agree_fields [] [] c h = tt
agree_fields (f ∷ fs) (v ∷ vs) c h =
    agree_append (fixed_bits f.width f.fixed) (digits f.width (unsigned_abs v)) (flat_map (λ g. fixed_bits g.width g.fixed) fs) (all_digits fs vs)
    (agree_field f.width f.fixed v h.0) (agree_fields fs vs (omega arith) h.1)
agree_fields [] (v ∷ vs) c h = absurd (omega arith)
agree_fields (f ∷ fs) [] c h = absurd (omega arith)

-- a spelling has the bits of its message's pattern
pub agree_pattern : (fs : List WireField) (vs : List ℤ) → AreFields fs vs → Agree (pattern fs) (bits_of (spelling fs vs))
agree_pattern fs vs h =
    let counted = counted_as fs vs h in
    let zeros : ℕ = zeros_behind (bit_length fs) in
    let e : bits_of (spelling fs vs) ≡ all_digits fs vs ++ replicate zeros 0 =
    bits_of_spelling fs vs ∙ ap (λ n. all_digits fs vs ++ replicate (zeros_behind n) 0) (length_all_digits fs vs counted) in
    subst (Agree (pattern fs)) (sym e)
    (agree_append (flat_map (λ f. fixed_bits f.width f.fixed) fs) (all_digits fs vs) (replicate zeros (Some 0)) (replicate zeros 0)
    (agree_fields fs vs counted h.within) (agree_zeros zeros))

agree_at : (xs : List (Option ℕ)) (bs : List ℕ) (k a : ℕ) → Agree xs bs → slice_get xs k ≡ Some (Some a) → slice_get bs k ≡ Some a
agree_at [] bs k a g h = absurd (cc)
agree_at (None ∷ xs) (b ∷ bs) zero a g h = absurd (cc)
agree_at (None ∷ xs) (b ∷ bs) (suc k) a g h = agree_at xs bs k a g h
agree_at (Some c ∷ xs) (b ∷ bs) zero a g h = let e : c ≡ b = g.0 in cc
agree_at (Some c ∷ xs) (b ∷ bs) (suc k) a g h = agree_at xs bs k a g.1 h
agree_at (None ∷ xs) [] k a g h = absurd g
agree_at (Some c ∷ xs) [] k a g h = absurd g

-- ---- no spelling in common

pub no_shared_spelling : (fs gs : List WireField) (vs ws : List ℤ) → Apart fs gs → AreFields fs vs → AreFields gs ws → spelling fs vs ≡ spelling gs ws → ⊥
no_shared_spelling fs gs vs ws (inl lengths) f g e = lengths (sym (length_spelling fs vs (counted_as fs vs f)) ∙ ap length e ∙ length_spelling gs ws (counted_as gs ws g))
no_shared_spelling fs gs vs ws (inr (k, d)) f g e =
    let one : slice_get (bits_of (spelling fs vs)) k ≡ Some d.bit = agree_at (pattern fs) (bits_of (spelling fs vs)) k d.bit (agree_pattern fs vs f) d.there in
    let other : slice_get (bits_of (spelling gs ws)) k ≡ Some d.other_bit = agree_at (pattern gs) (bits_of (spelling gs ws)) k d.other_bit (agree_pattern gs ws g) d.other_there in
    let same : slice_get (bits_of (spelling fs vs)) k ≡ slice_get (bits_of (spelling gs ws)) k = ap (λ bytes. slice_get (bits_of bytes) k) e in
    d.differ (cc)

module _ (messages : List (List WireField)) (receives : ℕ → ℕ → ℕ → Type 0) (apart : TellsApart messages receives) where
  two_messages : (p q m n : ℕ) (bytes : List ℕ) (vs ws : List ℤ) → receives p m q → receives p n q → Spells messages m vs bytes → Spells messages n ws bytes → m < n → ⊥
  two_messages p q m n bytes vs ws one other s t d =
      no_shared_spelling s.fields t.fields vs ws (apart p q m n s.fields t.fields one other d s.declared t.declared) s.fitting t.fitting (s.spelled ∙ sym t.spelled)

  one_message : (p q m n : ℕ) (bytes : List ℕ) (vs ws : List ℤ) → receives p m q → receives p n q → Spells messages m vs bytes → Spells messages n ws bytes
      → (m ≡ n) ⊎ ((m < n) ⊎ (n < m)) → cell.Msg n ws ≡ cell.Msg m vs
  one_message p q m n bytes vs ws one other s t (inl e) =
      let fields : t.fields ≡ s.fields = let a = s.declared in let b = t.declared in cc in
      let fit : AreFields s.fields ws = subst (λ fs. AreFields fs ws) fields t.fitting in
      let spelled : spelling s.fields ws ≡ bytes = ap (λ fs. spelling fs ws) (sym fields) ∙ t.spelled in
      let values : ws ≡ vs = same_values s.fields ws vs fit s.fitting (spelled ∙ sym s.spelled) in
      cc
  one_message p q m n bytes vs ws one other s t (inr (inl d)) = absurd (two_messages p q m n bytes vs ws one other s t d)
  one_message p q m n bytes vs ws one other s t (inr (inr d)) = absurd (two_messages p q n m bytes ws vs other one t s d)

  -- bytes that spell a message mean it alone
  pub spelled_means : (p q m : ℕ) (bytes : List ℕ) (vs : List ℤ) (c : Cell) → receives p m q → Spells messages m vs bytes → Means messages receives q p bytes c → c ≡ cell.Msg m vs
  spelled_means p q m bytes vs (cell.Msg n ws) one s t = one_message p q m n bytes vs ws one t.0 s t.1 (cases_order m n)
  spelled_means p q m bytes vs cell.Error one s none = absurd (none m vs one s)

  pub spellings_mean : SpellingsMean messages receives
  spellings_mean p q m fields values one declared fitting c means =
      spelled_means p q m (spelling fields values) values c one (record { fields = fields; declared = declared; fitting = fitting; spelled = refl }) means

  pub one_meaning : OneMeaning messages receives
  one_meaning p q bytes (cell.Msg m vs) other s t = sym (spelled_means p q m bytes vs other s.0 s.1 t)
  one_meaning p q bytes cell.Error (cell.Msg n ws) s t = spelled_means p q n bytes ws cell.Error t.0 t.1 s
  one_meaning p q bytes cell.Error cell.Error s t = refl

pub systems_mean : SystemsMean
systems_mean semantics apart = (spellings_mean semantics.messages (Receives semantics) apart, one_meaning semantics.messages (Receives semantics) apart)

pub wires_mean : WiresMean
wires_mean wire apart = (spellings_mean wire.messages (HasReceive wire) apart, one_meaning wire.messages (HasReceive wire) apart)

pub spellings_are_read : SpellingsAreRead
spellings_are_read semantics p q m fields values apart receives declared fitting =
    spellings_mean semantics.messages (Receives semantics) apart p q m fields values receives declared fitting (meaning semantics q p (spelling fields values)) (meaning_is_meant semantics q p (spelling fields values))
