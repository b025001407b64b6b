-- The label of a line is found again.
use Rattle.std.proofs.Common.{◌≡◌, ◌≢◌, ◌<◌, ◌≤◌, ◌+◌, ◌-◌, ◌*◌, ◌/◌, ◌%◌, ◌^◌, ◌==◌, ℕ, zero, suc, ℤ, pos, negsuc, Bool, true, false, List, [], ◌∷◌, map, length, drop, get_or, refl, ap, sym, subst, ◌∙◌, arith, if◌then◌else◌, codes, ne_eqb}
use Rattle.std.specs.Prelude.{flat_map, nat_lt, FitsSigned}
use Rattle.std.specs.Fmt.{decimal, signed_decimal, digit_glyph}
use Rattle.std.specs.Int.{w64}
use Rattle.std.specs.Str.Parse.{AllDigits, digits_value}
use Rattle.std.specs.Str.{bytes_eq}
use Rattle.std.proofs.lemmas.Fmt.{decimal_is_IsNumeral}
use Rattle.std.proofs.lemmas.Slice.Eq.{bytes_eq-Decides}
use Rattle.std.specs.Bool.{Decides}
use Rattle.std.proofs.lemmas.Bool.Decides.{Decides-eqb, Decides-ltb, not_from_Decides}
use Rattle.std.proofs.lemmas.Str.Parse.{digit_at, digit_from_value}
use Rattle.tap_base.specs.LineWords.{IsWord}
use Rattle.tap_base.specs.Lists.{Each, IsNoneOf, AreDistinct}
use Rattle.tap_base.proofs.ListFacts.{each_append}
use Rattle.abstract_run.specs.declared.label.Label.{Label}
use Rattle.abstract_run.specs.declared.label.Label.TheVariants as label
use Rattle.run_text.specs.OneTrace.{OneLine}
use Rattle.run_text.specs.ScheduleText.{Lacks}
use Rattle.run_text.specs.Sized.{AreBytes, IsSized}
use Rattle.run_text.specs.TraceText.{hex_digits, hex_word, label_line, line_of, name_at}
use Rattle.run_text.proofs.LineWords.{behind, spaced_same}

-- ---- numbers

abbrev pub number : List ℕ → ℕ
number ds = digits_value 10 ds

pub counted : (n : ℕ) → n < 2 ^ 64 → number (decimal n) ≡ n
counted n h = (decimal_is_IsNumeral n h).1

abbrev minus : ℕ → ℤ
minus zero = pos 0
minus (suc n) = negsuc n

abbrev pub integer : List ℕ → ℤ
integer [] = pos 0
integer (x ∷ xs) = if x == 45 then minus (number xs) else pos (number (x ∷ xs))

first_digit : (x : ℕ) (xs : List ℕ) → AllDigits 10 (x ∷ xs) → 48 ≤ x
first_digit x xs h = (digit_at (x ∷ xs) 0 h (omega arith)).0

plain : (ds : List ℕ) → AllDigits 10 ds → 0 < length ds → integer ds ≡ pos (number ds)
plain [] h k = absurd (omega (arith, k))
plain (x ∷ xs) h k = let e = ne_eqb x 45 (let f = first_digit x xs h in omega (arith, f)) in rw e refl

valued : (z : ℤ) → FitsSigned w64 z → integer (signed_decimal z) ≡ z
valued (pos n) h = let d = decimal_is_IsNumeral n (omega (arith, h)) in plain (decimal n) d.0.1 d.0.0 ∙ ap pos d.1
valued (negsuc n) h = ap minus (counted (suc n) (omega (arith, h)))

-- ---- bytes

not_from : (b : Bool) (P : Type 0) → Decides b P → (P → ⊥) → b ≡ false
not_from true P d f = absurd (f (d.0 refl))
not_from false P d f = refl

abbrev glyph_value : ℕ → ℕ
glyph_value g = if nat_lt g 58 then g - 48 else g - 87

glyph_when : (d : ℕ) (b : Bool) → nat_lt d 10 ≡ b → d < 16 → (glyph_value (digit_glyph false d) ≡ d) × (48 ≤ digit_glyph false d)
glyph_when d true e h =
    let low = (Decides-ltb d 10).0 e in let k = (Decides-ltb (48 + d) 58).1 (omega (arith, low)) in rw (e, k) (omega arith, omega arith)
glyph_when d false e h =
    let high = not_from_Decides (nat_lt d 10) (Decides-ltb d 10) e in
    let k = not_from (nat_lt (87 + d) 58) (87 + d < 58) (Decides-ltb (87 + d) 58) (λ l. omega (arith, l)) in
    rw (e, k) (omega arith, omega (arith, high))

glyph_back : (d : ℕ) → d < 16 → glyph_value (digit_glyph false d) ≡ d
glyph_back d h = (glyph_when d (nat_lt d 10) refl h).0

glyph_high : (d : ℕ) → d < 16 → 48 ≤ digit_glyph false d
glyph_high d h = (glyph_when d (nat_lt d 10) refl h).1

abbrev pub unhex : List ℕ → List ℕ
unhex (a ∷ b ∷ gs) = (16 * glyph_value a + glyph_value b) ∷ unhex gs
unhex gs = []

byte_back : (b : ℕ) → b < 256 → 16 * glyph_value (digit_glyph false (b / 16)) + glyph_value (digit_glyph false (b % 16)) ≡ b
byte_back b h =
    let high = glyph_back (b / 16) (omega (arith, h)) in
    let low = glyph_back (b % 16) (omega (arith, h)) in
    omega (arith, high, low)

digits_back : (bytes : List ℕ) → AreBytes bytes → unhex (flat_map hex_digits bytes) ≡ bytes
digits_back [] h = refl
digits_back (b ∷ bs) h = let here = byte_back b h.0 in let rest = digits_back bs h.1 in rw (here, rest) refl

pub hex_back : (bytes : List ℕ) → AreBytes bytes → unhex (hex_word bytes) ≡ bytes
hex_back [] h = refl
hex_back (b ∷ bs) h = digits_back (b ∷ bs) h

-- ---- names

abbrev pub place_from : ℕ → List ℕ → List (List ℕ) → ℕ
place_from i name [] = i
place_from i name (n ∷ ns) = if bytes_eq n name then i else place_from (suc i) name ns

abbrev pub place : List (List ℕ) → List ℕ → ℕ
place names name = place_from 0 name names

-- ---- labels

abbrev kind_of : Label → ℕ
kind_of (label.Tick p c) = 0
kind_of (label.Reject q p i) = 1
kind_of (label.Act p a choices) = 2
kind_of (label.Idle p) = 3
kind_of (label.Flood p) = 4
kind_of (label.Arrive q p) = 5
kind_of (label.Lose q p i) = 6
kind_of (label.Copy q p i) = 7
kind_of (label.Move q p i j) = 8
kind_of (label.Damage q p i bytes) = 9
kind_of (label.Forge q p bytes) = 10
kind_of (label.Cut p n) = 11
kind_of (label.Stop p receivers) = 12
kind_of (label.Down p) = 13
kind_of label.Void = 14

abbrev tags : List (List ℕ)
tags =
    codes "tick" ∷ codes "reject" ∷ codes "act" ∷ codes "idle" ∷ codes "flood" ∷ codes "arrive" ∷ codes "lose" ∷ codes "copy" ∷ codes "move" ∷ codes "damage" ∷ codes "forge" ∷ codes "cut"
    ∷ codes "stop" ∷ codes "down" ∷ codes "void" ∷ []

abbrev tag_of : Label → List ℕ
tag_of l = get_or tags (kind_of l) []

abbrev words_of : List (List ℕ) → Label → List (List ℕ)
words_of names (label.Tick p c) = name_at names p ∷ decimal c ∷ []
words_of names (label.Reject q p i) = name_at names q ∷ name_at names p ∷ decimal i ∷ []
words_of names (label.Act p a choices) = name_at names p ∷ decimal a ∷ map signed_decimal choices
words_of names (label.Idle p) = name_at names p ∷ []
words_of names (label.Flood p) = name_at names p ∷ []
words_of names (label.Arrive q p) = name_at names q ∷ name_at names p ∷ []
words_of names (label.Lose q p i) = name_at names q ∷ name_at names p ∷ decimal i ∷ []
words_of names (label.Copy q p i) = name_at names q ∷ name_at names p ∷ decimal i ∷ []
words_of names (label.Move q p i j) = name_at names q ∷ name_at names p ∷ decimal i ∷ decimal j ∷ []
words_of names (label.Damage q p i bytes) = name_at names q ∷ name_at names p ∷ decimal i ∷ hex_word bytes ∷ []
words_of names (label.Forge q p bytes) = name_at names q ∷ name_at names p ∷ hex_word bytes ∷ []
words_of names (label.Cut p n) = name_at names p ∷ decimal n ∷ []
words_of names (label.Stop p receivers) = name_at names p ∷ map (name_at names) receivers
words_of names (label.Down p) = name_at names p ∷ []
words_of names label.Void = []

line_is : (names : List (List ℕ)) (l : Label) → label_line names l ≡ line_of (tag_of l ∷ words_of names l)
line_is names (label.Tick p c) = refl
line_is names (label.Reject q p i) = refl
line_is names (label.Act p a choices) = refl
line_is names (label.Idle p) = refl
line_is names (label.Flood p) = refl
line_is names (label.Arrive q p) = refl
line_is names (label.Lose q p i) = refl
line_is names (label.Copy q p i) = refl
line_is names (label.Move q p i j) = refl
line_is names (label.Damage q p i bytes) = refl
line_is names (label.Forge q p bytes) = refl
line_is names (label.Cut p n) = refl
line_is names (label.Stop p receivers) = refl
line_is names (label.Down p) = refl
line_is names label.Void = refl

tag_back : (l : Label) → place tags (tag_of l) ≡ kind_of l
tag_back (label.Tick p c) = refl
tag_back (label.Reject q p i) = refl
tag_back (label.Act p a choices) = refl
tag_back (label.Idle p) = refl
tag_back (label.Flood p) = refl
tag_back (label.Arrive q p) = refl
tag_back (label.Lose q p i) = refl
tag_back (label.Copy q p i) = refl
tag_back (label.Move q p i j) = refl
tag_back (label.Damage q p i bytes) = refl
tag_back (label.Forge q p bytes) = refl
tag_back (label.Cut p n) = refl
tag_back (label.Stop p receivers) = refl
tag_back (label.Down p) = refl
tag_back label.Void = refl

-- how each kind of label is read from its words
abbrev readers : List (List ℕ) → List (List (List ℕ) → Label)
readers names =
    (λ ws. label.Tick (place names (get_or ws 0 [])) (number (get_or ws 1 [])))
    ∷ (λ ws. label.Reject (place names (get_or ws 0 [])) (place names (get_or ws 1 [])) (number (get_or ws 2 [])))
    ∷ (λ ws. label.Act (place names (get_or ws 0 [])) (number (get_or ws 1 [])) (map integer (drop 2 ws)))
    ∷ (λ ws. label.Idle (place names (get_or ws 0 [])))
    ∷ (λ ws. label.Flood (place names (get_or ws 0 [])))
    ∷ (λ ws. label.Arrive (place names (get_or ws 0 [])) (place names (get_or ws 1 [])))
    ∷ (λ ws. label.Lose (place names (get_or ws 0 [])) (place names (get_or ws 1 [])) (number (get_or ws 2 [])))
    ∷ (λ ws. label.Copy (place names (get_or ws 0 [])) (place names (get_or ws 1 [])) (number (get_or ws 2 [])))
    ∷ (λ ws. label.Move (place names (get_or ws 0 [])) (place names (get_or ws 1 [])) (number (get_or ws 2 [])) (number (get_or ws 3 [])))
    ∷ (λ ws. label.Damage (place names (get_or ws 0 [])) (place names (get_or ws 1 [])) (number (get_or ws 2 [])) (unhex (get_or ws 3 [])))
    ∷ (λ ws. label.Forge (place names (get_or ws 0 [])) (place names (get_or ws 1 [])) (unhex (get_or ws 2 [])))
    ∷ (λ ws. label.Cut (place names (get_or ws 0 [])) (number (get_or ws 1 [])))
    ∷ (λ ws. label.Stop (place names (get_or ws 0 [])) (map (place names) (drop 1 ws)))
    ∷ (λ ws. label.Down (place names (get_or ws 0 [])))
    ∷ (λ ws. label.Void)
    ∷ []

abbrev label_from : List (List ℕ) → ℕ → List (List ℕ) → Label
label_from names k ws = get_or (readers names) k (λ ws. label.Void) ws

-- ---- names are found again

same_bytes : (w : List ℕ) → bytes_eq w w ≡ true
same_bytes w = (bytes_eq-Decides w w).1 refl

other_bytes : (w v : List ℕ) → (w ≡ v → ⊥) → bytes_eq w v ≡ false
other_bytes w v h = not_from (bytes_eq w v) (w ≡ v) (bytes_eq-Decides w v) h

none_at : (n : List ℕ) (ns : List (List ℕ)) (p : ℕ) → IsNoneOf n ns → p < length ns → n ≡ name_at ns p → ⊥
none_at n [] p h k e = omega (arith, k)
none_at n (m ∷ ns) zero h k e = h.0 e
none_at n (m ∷ ns) (suc p) h k e = none_at n ns p h.1 (omega (arith, k)) e

found_from : (names : List (List ℕ)) (i p : ℕ) → AreDistinct names → p < length names → place_from i (name_at names p) names ≡ i + p
found_from [] i p h k = absurd (omega (arith, k))
found_from (n ∷ ns) i zero h k = let e = same_bytes n in rw e (omega arith)
found_from (n ∷ ns) i (suc p) h k =
    let e = other_bytes n (name_at ns p) (λ same. none_at n ns p h.0 (omega (arith, k)) same) in
    let rest = found_from ns (suc i) p h.1 (omega (arith, k)) in
    rw e (omega (arith, rest))

pub found : (names : List (List ℕ)) (p : ℕ) → AreDistinct names → p < length names → place names (name_at names p) ≡ p
found names p h k = found_from names 0 p h k ∙ omega arith

pub all_found : (names : List (List ℕ)) (ps : List ℕ) → AreDistinct names → Each (λ p. p < length names) ps → map (place names) (map (name_at names) ps) ≡ ps
all_found names [] h k = refl
all_found names (p ∷ ps) h k = let here = found names p h k.0 in let rest = all_found names ps h k.1 in rw (here, rest) refl

pub all_valued : (zs : List ℤ) → Each (FitsSigned w64) zs → map integer (map signed_decimal zs) ≡ zs
all_valued [] h = refl
all_valued (z ∷ zs) h = let here = valued z h.0 in let rest = all_valued zs h.1 in rw (here, rest) refl

pub short : (n : ℕ) → n < 2 ^ 32 → number (decimal n) ≡ n
short n h = counted n (omega (arith, h))

-- ---- the label is found again

back : (names : List (List ℕ)) (l : Label) → AreDistinct names → IsSized (length names) l → label_from names (kind_of l) (words_of names l) ≡ l
back names (label.Tick p c) d h = let a = found names p d h.0 in let b = counted c h.1 in rw (a, b) refl
back names (label.Reject q p i) d h = let a = found names q d h.0 in let b = found names p d h.1 in let c = short i h.2 in rw (a, b, c) refl
back names (label.Act p i choices) d h = let a = found names p d h.0 in let b = short i h.1 in let c = all_valued choices h.2 in rw (a, b, c) refl
back names (label.Idle p) d h = let a = found names p d h in rw a refl
back names (label.Flood p) d h = let a = found names p d h in rw a refl
back names (label.Arrive q p) d h = let a = found names q d h.0 in let b = found names p d h.1 in rw (a, b) refl
back names (label.Lose q p i) d h = let a = found names q d h.0 in let b = found names p d h.1 in let c = short i h.2 in rw (a, b, c) refl
back names (label.Copy q p i) d h = let a = found names q d h.0 in let b = found names p d h.1 in let c = short i h.2 in rw (a, b, c) refl
back names (label.Move q p i j) d h = let a = found names q d h.0 in let b = found names p d h.1 in let c = short i h.2 in let e = short j h.3 in rw (a, b, c, e) refl
back names (label.Damage q p i bytes) d h = let a = found names q d h.0 in let b = found names p d h.1 in let c = short i h.2 in let e = hex_back bytes h.3.1 in rw (a, b, c, e) refl
back names (label.Forge q p bytes) d h = let a = found names q d h.0 in let b = found names p d h.1 in let e = hex_back bytes h.2.1 in rw (a, b, e) refl
back names (label.Cut p n) d h = let a = found names p d h.0 in let b = short n h.1 in rw (a, b) refl
back names (label.Stop p receivers) d h = let a = found names p d h.0 in let b = all_found names receivers d h.1 in rw (a, b) refl
back names (label.Down p) d h = let a = found names p d h in rw a refl
back names label.Void d h = refl

-- ---- no word has a space or a line feed

abbrev pub is_free : List ℕ → Bool
is_free [] = true
is_free (x ∷ xs) = if x == 32 then false else (if x == 10 then false else is_free xs)

free_step : (b d r : Bool) → (if b then false else (if d then false else r)) ≡ true → (b ≡ false) × (d ≡ false) × (r ≡ true)
free_step true d r h = cc
free_step false true r h = cc
free_step false false r h = (refl, refl, h)

differs : (x y : ℕ) → (x == y) ≡ false → x ≢ y
differs x y h same = let e = (Decides-eqb x y).1 same in cc

pub free_word : (w : List ℕ) → is_free w ≡ true → IsWord w
free_word [] h = tt
free_word (x ∷ xs) h =
    let e = free_step (x == 32) (x == 10) (is_free xs) h in
    ((differs x 32 e.0, differs x 10 e.1), free_word xs e.2)

digits_word : (ds : List ℕ) → AllDigits 10 ds → IsWord ds
digits_word [] h = tt
digits_word (x ∷ xs) h = let r = digit_from_value x h.0 in ((λ e. omega (arith, e, r.0), λ e. omega (arith, e, r.0)), digits_word xs h.1)

pub decimal_word : (n : ℕ) → n < 2 ^ 64 → IsWord (decimal n)
decimal_word n h = digits_word (decimal n) (decimal_is_IsNumeral n h).0.1

pub short_word : (n : ℕ) → n < 2 ^ 32 → IsWord (decimal n)
short_word n h = decimal_word n (omega (arith, h))

signed_word : (z : ℤ) → FitsSigned w64 z → IsWord (signed_decimal z)
signed_word (pos n) h = decimal_word n (omega (arith, h))
signed_word (negsuc n) h = ((λ e. omega (arith, e), λ e. omega (arith, e)), decimal_word (suc n) (omega (arith, h)))

pub signed_words : (zs : List ℤ) → Each (FitsSigned w64) zs → Each IsWord (map signed_decimal zs)
signed_words [] h = tt
signed_words (z ∷ zs) h = (signed_word z h.0, signed_words zs h.1)

high_word : (g : ℕ) → 48 ≤ g → (g ≢ 32) × (g ≢ 10)
high_word g h = (λ e. omega (arith, e, h), λ e. omega (arith, e, h))

hex_digits_word : (bytes : List ℕ) → AreBytes bytes → IsWord (flat_map hex_digits bytes)
hex_digits_word [] h = tt
hex_digits_word (b ∷ bs) h = (high_word _ (glyph_high (b / 16) (omega (arith, h.0))), (high_word _ (glyph_high (b % 16) (omega arith)), hex_digits_word bs h.1))

pub hex_is_word : (bytes : List ℕ) → AreBytes bytes → IsWord (hex_word bytes)
hex_is_word [] h = free_word (codes "-") refl
hex_is_word (b ∷ bs) h = hex_digits_word (b ∷ bs) h

pub name_word : (names : List (List ℕ)) (p : ℕ) → Each IsWord names → p < length names → IsWord (name_at names p)
name_word [] p h k = absurd (omega (arith, k))
name_word (n ∷ ns) zero h k = h.0
name_word (n ∷ ns) (suc p) h k = name_word ns p h.1 (omega (arith, k))

pub name_words : (names : List (List ℕ)) (ps : List ℕ) → Each IsWord names → Each (λ p. p < length names) ps → Each IsWord (map (name_at names) ps)
name_words names [] h k = tt
name_words names (p ∷ ps) h k = (name_word names p h k.0, name_words names ps h k.1)

words_free : (names : List (List ℕ)) (l : Label) → Each IsWord names → IsSized (length names) l → Each IsWord (words_of names l)
words_free names (label.Tick p c) w h = (name_word names p w h.0, (decimal_word c h.1, tt))
words_free names (label.Reject q p i) w h = (name_word names q w h.0, (name_word names p w h.1, (short_word i h.2, tt)))
words_free names (label.Act p i choices) w h = (name_word names p w h.0, (short_word i h.1, signed_words choices h.2))
words_free names (label.Idle p) w h = (name_word names p w h, tt)
words_free names (label.Flood p) w h = (name_word names p w h, tt)
words_free names (label.Arrive q p) w h = (name_word names q w h.0, (name_word names p w h.1, tt))
words_free names (label.Lose q p i) w h = (name_word names q w h.0, (name_word names p w h.1, (short_word i h.2, tt)))
words_free names (label.Copy q p i) w h = (name_word names q w h.0, (name_word names p w h.1, (short_word i h.2, tt)))
words_free names (label.Move q p i j) w h = (name_word names q w h.0, (name_word names p w h.1, (short_word i h.2, (short_word j h.3, tt))))
words_free names (label.Damage q p i bytes) w h = (name_word names q w h.0, (name_word names p w h.1, (short_word i h.2, (hex_is_word bytes h.3.1, tt))))
words_free names (label.Forge q p bytes) w h = (name_word names q w h.0, (name_word names p w h.1, (hex_is_word bytes h.2.1, tt)))
words_free names (label.Cut p n) w h = (name_word names p w h.0, (short_word n h.1, tt))
words_free names (label.Stop p receivers) w h = (name_word names p w h.0, name_words names receivers w h.1)
words_free names (label.Down p) w h = (name_word names p w h, tt)
words_free names label.Void w h = tt

tag_word : (l : Label) → IsWord (tag_of l)
tag_word (label.Tick p c) = free_word (codes "tick") refl
tag_word (label.Reject q p i) = free_word (codes "reject") refl
tag_word (label.Act p a choices) = free_word (codes "act") refl
tag_word (label.Idle p) = free_word (codes "idle") refl
tag_word (label.Flood p) = free_word (codes "flood") refl
tag_word (label.Arrive q p) = free_word (codes "arrive") refl
tag_word (label.Lose q p i) = free_word (codes "lose") refl
tag_word (label.Copy q p i) = free_word (codes "copy") refl
tag_word (label.Move q p i j) = free_word (codes "move") refl
tag_word (label.Damage q p i bytes) = free_word (codes "damage") refl
tag_word (label.Forge q p bytes) = free_word (codes "forge") refl
tag_word (label.Cut p n) = free_word (codes "cut") refl
tag_word (label.Stop p receivers) = free_word (codes "stop") refl
tag_word (label.Down p) = free_word (codes "down") refl
tag_word label.Void = free_word (codes "void") refl

pub spaceless : (w : List ℕ) → IsWord w → Lacks 32 w
spaceless [] h = tt
spaceless (x ∷ xs) h = (h.0.0, spaceless xs h.1)

all_spaceless : (ws : List (List ℕ)) → Each IsWord ws → Each (Lacks 32) ws
all_spaceless [] h = tt
all_spaceless (w ∷ ws) h = (spaceless w h.0, all_spaceless ws h.1)

pub unbroken : (w : List ℕ) → IsWord w → Lacks 10 w
unbroken [] h = tt
unbroken (x ∷ xs) h = (h.0.1, unbroken xs h.1)

pub joined_unbroken : (ws : List (List ℕ)) → Each IsWord ws → Lacks 10 (behind 32 ws)
joined_unbroken [] h = tt
joined_unbroken (w ∷ ws) h = (λ e. omega (arith, e), each_append _ w (behind 32 ws) (unbroken w h.0) (joined_unbroken ws h.1))

-- the line of a label has no line feed
pub line_unbroken : (names : List (List ℕ)) (l : Label) → Each IsWord names → IsSized (length names) l → Lacks 10 (label_line names l)
line_unbroken names l named h =
    subst (Lacks 10) (sym (line_is names l)) (each_append _ (tag_of l) (behind 32 (words_of names l)) (unbroken _ (tag_word l)) (joined_unbroken _ (words_free names l named h)))

-- ---- a line is that of at most one label

pub one_line : OneLine
one_line names l m named h k same =
    let both =
    spaced_same (tag_of l) (tag_of m) (words_of names l) (words_of names m) (spaceless _ (tag_word l)) (spaceless _ (tag_word m)) (all_spaceless _ (words_free names l named.0 h))
    (all_spaceless _ (words_free names m named.0 k)) (sym (line_is names l) ∙ same ∙ line_is names m) in
    let kinds : kind_of l ≡ kind_of m = sym (tag_back l) ∙ ap (place tags) both.0 ∙ tag_back m in
    sym (back names l named.1 h) ∙ ap (λ k. label_from names k (words_of names l)) kinds ∙ ap (label_from names (kind_of m)) both.1 ∙ back names m named.1 k
