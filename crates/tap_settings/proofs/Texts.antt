-- Words that are cut at a mark.
use Rattle.std.proofs.Common.{◌≡◌, ◌≢◌, ◌<◌, ℕ, suc, true, false, List, [], ◌∷◌, ◌++◌, length, get_or, Option, Some, None, MatchOption, refl, ap, sym, subst, ◌∙◌, append_assoc, arith, Bor}
use Rattle.std.specs.Char.{is_ascii_alphabetic}
use Rattle.std.specs.List.{list_all}
use Rattle.std.specs.Prelude.{FitsSigned}
use Rattle.std.specs.Fmt.{signed_decimal}
use Rattle.std.specs.Int.{w64}
use Rattle.std.proofs.lemmas.Fmt.{signed_decimal_injective}
use Rattle.std.proofs.lemmas.Str.Pattern.{IsSplitOnceResult, split_parts}
use Rattle.tap_settings.specs.SettingText.{Assignment, IsNoSetting, SpellsSetting, in_name, is_name}
use Rattle.tap_settings.specs.inner.Reading.{Lacks}
use Rattle.tap_base.proofs.OffenceFacts.{both_true}
use Rattle.tap_base.proofs.ListFacts.{same_parts}

-- ---- a mark

lacks : (b : ℕ) (xs : List ℕ) → ((i : ℕ) → i < length xs → get_or xs i 0 ≢ b) → Lacks b xs
lacks b [] h = tt
lacks b (x ∷ xs) h = (h 0 (omega arith), lacks b xs (λ i l. h (suc i) (omega (arith, l))))

pub split_parted : (b : ℕ) (text : List ℕ) (r : Option (Bor (List ℕ) × Bor (List ℕ))) → IsSplitOnceResult b text r → b < 128
    → MatchOption r (Lacks b text) (λ x. (text ≡ x.0.now ++ b ∷ x.1.now) × Lacks b x.0.now)
split_parted b text None h low = lacks b text (split_parts b text None h low)
split_parted b text (Some x) h low = let k = split_parts b text (Some x) h low in (k.0, lacks b x.0.now k.1)

has_mark : (b : ℕ) (xs ys : List ℕ) → Lacks b (xs ++ b ∷ ys) → ⊥
has_mark b [] ys h = h.0 refl
has_mark b (x ∷ xs) ys h = has_mark b xs ys h.1

-- what stands before the first mark, and what stands behind it
cut_same : (b : ℕ) (w v r t : List ℕ) → Lacks b w → Lacks b v → w ++ b ∷ r ≡ v ++ b ∷ t → (w ≡ v) × (r ≡ t)
cut_same b [] [] r t h k e = (refl, (same_parts _ _ _ _ e).1)
cut_same b [] (y ∷ v) r t h k e = absurd (k.0 (sym (same_parts _ _ _ _ e).0))
cut_same b (x ∷ w) [] r t h k e = absurd (h.0 (same_parts _ _ _ _ e).0)
cut_same b (x ∷ w) (y ∷ v) r t h k e =
    let both = same_parts x y (w ++ b ∷ r) (v ++ b ∷ t) e in
    let rest = cut_same b w v r t h.1 k.1 both.1 in
    (ap (λ z. z ∷ w) both.0 ∙ ap (λ z. y ∷ z) rest.0, rest.1)

-- ---- names

lacks_in : (m : ℕ) → in_name m ≡ false → (bs : List ℕ) → list_all in_name bs ≡ true → Lacks m bs
lacks_in m n [] h = tt
lacks_in m n (b ∷ bs) h = let k = both_true (in_name b) (list_all in_name bs) h in ((λ e. let same = ap in_name e in cc), lacks_in m n bs k.1)

letter_in : (b : ℕ) → is_ascii_alphabetic b ≡ true → in_name b ≡ true
letter_in b e = rw e refl

-- a name has no byte that names don't have
pub name_lacks : (m : ℕ) → in_name m ≡ false → (w : List ℕ) → is_name w ≡ true → Lacks m w
name_lacks m n [] h = absurd cc
name_lacks m n (b ∷ bs) h =
    let k = both_true (is_ascii_alphabetic b) (list_all in_name bs) h in
    let first : in_name b ≡ true = letter_in b k.0 in
    ((λ e. let same = ap in_name e in cc), lacks_in m n bs k.1)

-- ---- settings

-- the dot and the equals sign of a setting
pub dotted : (a : Assignment) (word : List ℕ) → SpellsSetting word a → word ≡ a.process ++ 46 ∷ (a.input ++ 61 ∷ signed_decimal a.value)
dotted a word s =
    let v = signed_decimal a.value in
    s.is ∙ append_assoc (a.process ++ 46 ∷ [] ++ a.input) (61 ∷ []) v ∙ append_assoc (a.process ++ 46 ∷ []) a.input (61 ∷ v) ∙ append_assoc a.process (46 ∷ []) (a.input ++ 61 ∷ v)

pub undotted : (a : Assignment) → a.process ++ 46 ∷ (a.input ++ 61 ∷ signed_decimal a.value) ≡ a.process ++ 46 ∷ [] ++ a.input ++ 61 ∷ [] ++ signed_decimal a.value
undotted a =
    let v = signed_decimal a.value in
    sym (append_assoc (a.process ++ 46 ∷ [] ++ a.input) (61 ∷ []) v ∙ append_assoc (a.process ++ 46 ∷ []) a.input (61 ∷ v) ∙ append_assoc a.process (46 ∷ []) (a.input ++ 61 ∷ v))

pub without_dot : (word : List ℕ) → Lacks 46 word → IsNoSetting word
without_dot word h a s = has_mark 46 a.process (a.input ++ 61 ∷ signed_decimal a.value) (subst (Lacks 46) (dotted a word s) h)

-- what stands before and behind the first dot of a setting
pub at_dot : (word process behind : List ℕ) (a : Assignment) → word ≡ process ++ 46 ∷ behind → Lacks 46 process → SpellsSetting word a → (process ≡ a.process) × (behind ≡ a.input ++ 61 ∷ signed_decimal a.value)
at_dot word process behind a e h s = cut_same 46 process a.process behind _ h (name_lacks 46 refl a.process s.process) (sym e ∙ dotted a word s)

pub without_equals : (word process behind : List ℕ) → word ≡ process ++ 46 ∷ behind → Lacks 46 process → Lacks 61 behind → IsNoSetting word
without_equals word process behind e h k a s = has_mark 61 a.input (signed_decimal a.value) (subst (Lacks 61) (at_dot word process behind a e h s).1 k)

-- The parts of a word, cut at its first dot and at the first equals sign behind it.
pub record IsCut (word process input number : List ℕ) : Type 0 where
  pub behind : List ℕ
  pub dot : word ≡ process ++ 46 ∷ behind
  pub before_dot : Lacks 46 process
  pub equals : behind ≡ input ++ 61 ∷ number
  pub before_equals : Lacks 61 input

-- these are the parts of the setting that the word is
pub cut_parts : (word process input number : List ℕ) (a : Assignment) → IsCut word process input number → SpellsSetting word a → (process ≡ a.process) × (input ≡ a.input) × (number ≡ signed_decimal a.value)
cut_parts word process input number a c s =
    let one = at_dot word process c.behind a c.dot c.before_dot s in
    let two = cut_same 61 input a.input number _ c.before_equals (name_lacks 61 refl a.input s.input) (sym c.equals ∙ one.1) in
    (one.0, two.0, two.1)

pub without_name : (word process input number : List ℕ) → IsCut word process input number → ((is_name process ≡ true) → (is_name input ≡ true) → ⊥) → IsNoSetting word
without_name word process input number c h a s =
    let k = cut_parts word process input number a c s in h (ap is_name k.0 ∙ s.process) (ap is_name k.1 ∙ s.input)

pub without_number : (word process input number : List ℕ) → IsCut word process input number → ((z : _) → FitsSigned w64 z → number ≡ signed_decimal z → ⊥) → IsNoSetting word
without_number word process input number c h a s = h a.value s.value (cut_parts word process input number a c s).2

pub spells : (word process input number : List ℕ) (a : Assignment) → IsCut word process input number → is_name process ≡ true → is_name input ≡ true → FitsSigned w64 a.value → number ≡ signed_decimal a.value
    → a.process ≡ process → a.input ≡ input → SpellsSetting word a
spells word process input number a c p x v n e f = record {
  process = ap is_name e ∙ p;
  input = ap is_name f ∙ x;
  value = v;
  is = c.dot ∙ ap (λ z. process ++ 46 ∷ z) (c.equals ∙ ap (λ z. input ++ 61 ∷ z) n ∙ ap (λ z. z ++ 61 ∷ signed_decimal a.value) (sym f)) ∙ ap (λ z. z ++ 46 ∷ (a.input ++ 61 ∷ signed_decimal a.value)) (sym e) ∙ undotted a;
}

-- a word is at most one setting
pub one_setting : (word : List ℕ) (a b : Assignment) → SpellsSetting word a → SpellsSetting word b → a ≡ b
one_setting word a b s t =
    let cut : IsCut word a.process a.input (signed_decimal a.value) =
    record { behind = a.input ++ 61 ∷ signed_decimal a.value; dot = dotted a word s; before_dot = name_lacks 46 refl a.process s.process; equals = refl; before_equals = name_lacks 61 refl a.input s.input } in
    let k = cut_parts word a.process a.input (signed_decimal a.value) b cut t in
    let v = signed_decimal_injective a.value b.value s.value.sfits t.value.sfits k.2 in
    λ i. record { process = k.0 i; input = k.1 i; value = v i }
