-- A word is the setting that it spells, and is none where it spells none.
use Rattle.std.proofs.Common.{◌≡◌, ◌<◌, ◌≤◌, ◌^◌, ◌==◌, ◌&&◌, ℕ, zero, suc, ℤ, pos, negsuc, Bool, true, false, List, [], ◌∷◌, ◌++◌, Option, Some, None, MatchOption, get_or, cond, refl, ap, sym, subst, ◌∙◌, arith, ne_eqb}
use Rattle.std.specs.Prelude.{FitsSigned}
use Rattle.std.specs.Fmt.{decimal, signed_decimal}
use Rattle.std.specs.Int.{w64}
use Rattle.std.specs.Option.{option_map}
use Rattle.std.specs.Str.{bytes_eq}
use Rattle.std.specs.Str.Parse.{digits_value, signed_digits_value}
use Rattle.std.proofs.lemmas.Bool.Decides.{Decides-eqb}
use Rattle.std.proofs.lemmas.Fmt.{decimal_digit, decimal_is_IsNumeral, first_decimal}
use Rattle.std.proofs.lemmas.Int.{ints}
use Rattle.std.proofs.lemmas.Option.{cond_some, none-some, same_Some}
use Rattle.std.proofs.lemmas.Slice.Eq.{bytes_eq-Decides}
use Rattle.tap_base.specs.Interval.{fits}
use Rattle.tap_base.specs.Option.{◌>>=◌, provided}
use Rattle.tap_base.proofs.OptionFacts.{bound, mapped}
use Rattle.tap_settings.specs.SettingText.{Assignment, IsNoSetting, SpellsSetting, is_name}
use Rattle.tap_settings.specs.inner.Reading.{Lacks}
use Rattle.tap_base.proofs.OffenceFacts.{both_true}
use Rattle.tap_settings.proofs.Texts.{dotted, name_lacks, undotted}
use Rattle.tapc_core.specs.Laws.{SettingIsSpelled}
use Rattle.tapc_core.specs.SettingWords.{cut_at, number_in, setting_in}

-- ---- cuts

-- what stands before the first mark, and what stands behind it
pub cut_joined : (mark : ℕ) (xs ys : List ℕ) → Lacks mark xs → cut_at mark (xs ++ mark ∷ ys) ≡ Some (xs, ys)
cut_joined mark [] ys h = let here : (mark == mark) ≡ true = (Decides-eqb mark mark).1 refl in rw here refl
cut_joined mark (x ∷ xs) ys h = let rest = cut_joined mark xs ys h.1 in rw (ne_eqb x mark h.0, rest) refl

cut_by : (mark b : ℕ) (bs : List ℕ) (here : Bool) (x : List ℕ × List ℕ) → (b == mark) ≡ here
    → cond here (Some ([], bs)) (option_map (λ (y : List ℕ × List ℕ). (b ∷ y.0, y.1)) (cut_at mark bs)) ≡ Some x → ((y : List ℕ × List ℕ) → cut_at mark bs ≡ Some y → bs ≡ y.0 ++ mark ∷ y.1)
    → b ∷ bs ≡ x.0 ++ mark ∷ x.1
cut_by mark b bs true x is e rest =
    let P : List ℕ × List ℕ → Type 0 = λ y. b ∷ bs ≡ y.0 ++ mark ∷ y.1 in
    subst P (same_Some _ x e) (ap (λ z. z ∷ bs) ((Decides-eqb b mark).0 is))
cut_by mark b bs false x is e rest =
    let P : List ℕ × List ℕ → Type 0 = λ y. b ∷ bs ≡ y.0 ++ mark ∷ y.1 in
    let m = mapped (λ (y : List ℕ × List ℕ). (b ∷ y.0, y.1)) (cut_at mark bs) x e in
    subst P m.2 (ap (λ z. b ∷ z) (rest m.0 m.1))

-- the parts of a cut, with the mark between them, are the whole
cut_parts : (mark : ℕ) (word : List ℕ) (x : List ℕ × List ℕ) → cut_at mark word ≡ Some x → word ≡ x.0 ++ mark ∷ x.1
cut_parts mark [] x e = absurd (none-some x e)
cut_parts mark (b ∷ bs) x e = cut_by mark b bs (b == mark) x refl e (λ y h. cut_parts mark bs y h)

-- ---- numbers

fits_signed : (z : ℤ) → fits z ≡ true → FitsSigned w64 z
fits_signed (pos n) e = record { sfits = grind (arith, ints) }
fits_signed (negsuc n) e = record { sfits = grind (arith, ints) }

signed_fits : (z : ℤ) → FitsSigned w64 z → fits z ≡ true
signed_fits (pos n) h = let k = h.sfits in grind (arith, ints)
signed_fits (negsuc n) h = let k = h.sfits in grind (arith, ints)

first_digit : (n : ℕ) → n < 2 ^ 64 → 48 ≤ get_or (decimal n) 0 0
first_digit zero h = let first = ap (λ ds. get_or ds 0 0) (decimal_digit 0 (omega arith)) in omega (arith, first)
first_digit (suc n) h = omega (arith, first_decimal (suc n) (omega arith) h)

plain_read : (ds : List ℕ) (n : ℕ) → 48 ≤ get_or ds 0 0 → digits_value 10 ds ≡ n → signed_digits_value 10 ds ≡ pos n
plain_read ds n digit is =
    let minus : (get_or ds 0 0 == 45) ≡ false = ne_eqb (get_or ds 0 0) 45 (λ e. omega (arith, e, digit)) in
    let plus : (get_or ds 0 0 == 43) ≡ false = ne_eqb (get_or ds 0 0) 43 (λ e. omega (arith, e, digit)) in
    rw (minus, plus, is) refl

minus_read : (ds : List ℕ) (n : ℕ) → digits_value 10 ds ≡ suc n → signed_digits_value 10 (45 ∷ ds) ≡ negsuc n
minus_read ds n is = rw is refl

-- the number that a decimal is read as
decimal_read : (z : ℤ) → FitsSigned w64 z → signed_digits_value 10 (signed_decimal z) ≡ z
decimal_read (pos n) h = let small : n < 2 ^ 64 = omega (arith, h.sfits) in plain_read (decimal n) n (first_digit n small) (decimal_is_IsNumeral n small).1
decimal_read (negsuc n) h = minus_read (decimal (suc n)) n (decimal_is_IsNumeral (suc n) (omega (arith, h.sfits))).1

pub number_here : (word : List ℕ) (z : ℤ) → FitsSigned w64 z → word ≡ signed_decimal z → number_in word ≡ Some z
number_here word z h e =
    let read : signed_digits_value 10 word ≡ z = ap (signed_digits_value 10) e ∙ decimal_read z h in
    let same : bytes_eq word (signed_decimal z) ≡ true = (bytes_eq-Decides word (signed_decimal z)).1 e in
    rw (read, signed_fits z h, same) refl

number_is : (word : List ℕ) (z : ℤ) → number_in word ≡ Some z → FitsSigned w64 z × (word ≡ signed_decimal z)
number_is word z e =
    let y = signed_digits_value 10 word in
    let k = cond_some (fits y && bytes_eq word (signed_decimal y)) y z e in
    let b = both_true (fits y) (bytes_eq word (signed_decimal y)) k.0 in
    let P : ℤ → Type 0 = λ x. FitsSigned w64 x × (word ≡ signed_decimal x) in
    subst P k.1 (fits_signed y b.0, (bytes_eq-Decides word (signed_decimal y)).0 b.1)

-- ---- settings

-- a word is the setting that it spells
pub setting_spelled : (word : List ℕ) (a : Assignment) → SpellsSetting word a → setting_in word ≡ Some a
setting_spelled word a s =
    let v = signed_decimal a.value in
    let first : cut_at 46 word ≡ Some (a.process, a.input ++ 61 ∷ v) = ap (cut_at 46) (dotted a word s) ∙ cut_joined 46 a.process (a.input ++ 61 ∷ v) (name_lacks 46 refl a.process s.process) in
    let second : cut_at 61 (a.input ++ 61 ∷ v) ≡ Some (a.input, v) = cut_joined 61 a.input v (name_lacks 61 refl a.input s.input) in
    let third : number_in v ≡ Some a.value = number_here v a.value s.value refl in
    let p : is_name a.process ≡ true = s.process in
    let x : is_name a.input ≡ true = s.input in
    rw (first, second, third, p, x) refl

-- and spells the setting that it is
pub setting_spells : (word : List ℕ) (a : Assignment) → setting_in word ≡ Some a → SpellsSetting word a
setting_spells word a e =
    let first = bound (λ (p : List ℕ × List ℕ). cut_at 61 p.1 >>= λ x. number_in x.1 >>= λ z. provided (is_name p.0 && is_name x.0) (record { process = p.0; input = x.0; value = z })) (cut_at 46 word) a e in
    let p = first.0 in
    let second = bound (λ (x : List ℕ × List ℕ). number_in x.1 >>= λ z. provided (is_name p.0 && is_name x.0) (record { process = p.0; input = x.0; value = z })) (cut_at 61 p.1) a first.2 in
    let x = second.0 in
    let third = bound (λ z. provided (is_name p.0 && is_name x.0) (record { process = p.0; input = x.0; value = z })) (number_in x.1) a second.2 in
    let z = third.0 in
    let made : Assignment = record { process = p.0; input = x.0; value = z } in
    let k = cond_some (is_name p.0 && is_name x.0) made a third.2 in
    let names = both_true (is_name p.0) (is_name x.0) k.0 in
    let number = number_is x.1 z third.1 in
    let behind : p.1 ≡ x.0 ++ 61 ∷ signed_decimal z = cut_parts 61 p.1 x second.1 ∙ ap (λ y. x.0 ++ 61 ∷ y) number.1 in
    let spelled : SpellsSetting word made =
    record { process = names.0; input = names.1; value = number.0; is = cut_parts 46 word p first.1 ∙ ap (λ y. p.0 ++ 46 ∷ y) behind ∙ undotted made } in
    subst (SpellsSetting word) k.1 spelled

pub setting_is_spelled : SettingIsSpelled
setting_is_spelled word a = (setting_spells word a, setting_spelled word a)

-- what is found of a word is the setting that it is
pub setting_found : (word : List ℕ) (o : Option Assignment) → MatchOption o (IsNoSetting word) (SpellsSetting word) → o ≡ setting_in word
setting_found word (Some a) s = sym (setting_spelled word a s)
setting_found word None none = sym (nothing (setting_in word) refl) where
  nothing : (o : Option Assignment) → setting_in word ≡ o → o ≡ None
  nothing None e = refl
  nothing (Some a) e = absurd (none a (setting_spells word a e))
