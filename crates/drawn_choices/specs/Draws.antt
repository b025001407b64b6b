-- Which choices words draw. A body is seen from outside: by which choices lead it to its end.
use Rattle.std.specs.Prelude.{ℕ, ◌+◌, ◌*◌, ◌/◌, ◌^◌, ◌≡◌, ◌↔◌, ◌<ℤ◌, ℤ, Bool, true, false, List, [], ◌∷◌, ◌++◌, length, slice_get, Option, Some, Contains}
use Rattle.rand_pcg.specs.Lcg.{Lcg, advance, started, increment_of}
use Rattle.rand_pcg.specs.Pcg.{multiplier_64, pcg32}
use Rattle.tap_base.specs.Lists.{Each}

-- ---- options

-- whether choices lead a body to its end, and are all taken
abbrev pub Leading : Type 0
Leading = List ℤ → Bool

-- After some choices x can be taken: with it, and some behind it, the body comes to its end.
pub record CanTake (leads : Leading) (before : List ℤ) (x : ℤ) : Type 0 where
  pub behind : List ℤ
  pub ends : leads (before ++ x ∷ behind) ≡ true

-- each is less than those behind it
abbrev pub AreRising : List ℤ → Type 0
AreRising [] = Unit {0}
AreRising (x ∷ xs) = Each (λ y. x <ℤ y) xs × AreRising xs

-- the options after some choices, in rising order: all that can be taken there, and nothing else
pub record AreOptions (leads : Leading) (before options : List ℤ) : Type 0 where
  pub rising : AreRising options
  pub all : (x : ℤ) → Contains options x ↔ CanTake leads before x

-- ---- draws

-- which one of so many a word takes, counted from 0
abbrev pub drawn : ℕ → ℕ → ℕ
drawn word count = word * count / 2 ^ 32

-- the option that a word takes; none of none
abbrev pub option_drawn : List ℤ → ℕ → Option ℤ
option_drawn options word = slice_get options (drawn word (length options))

-- After some choices, with which the body is not at its end, the word takes the option x.
pub record IsDraw (leads : Leading) (word : ℕ) (before : List ℤ) (x : ℤ) : Type 0 where
  pub goes_on : leads before ≡ false
  pub options : List ℤ
  pub are : AreOptions leads before options
  pub takes : option_drawn options word ≡ Some x

-- The choices of a body use the words from the one numbered k on, in order and one each: a choice takes its option after
-- those before it.
abbrev pub AreDrawn : Leading → (ℕ → ℕ) → ℕ → List ℤ → Type 0
AreDrawn leads word k choices = (before behind : List ℤ) (x : ℤ) → choices ≡ before ++ x ∷ behind → IsDraw leads (word (k + length before)) before x

-- Of the lists of choices that lead a body to its end the same words draw at most one.
abbrev pub OneIsDrawn : Type 0
OneIsDrawn =
    (leads : Leading) (word : ℕ → ℕ) (k : ℕ) (xs ys : List ℤ)
    → leads xs ≡ true → leads ys ≡ true → AreDrawn leads word k xs → AreDrawn leads word k ys → xs ≡ ys

-- ---- words

-- the generator of a process, by the seed of a run and its number
abbrev pub generator_of : ℕ → ℕ → Lcg
generator_of seed p = started 64 multiplier_64 seed (increment_of 64 p)

-- the generator when it has given so many words
abbrev pub after_words : ℕ → Lcg → Lcg
after_words k g = advance 64 multiplier_64 k g

-- the words that a generator gives, counted from 0
abbrev pub word_from : Lcg → ℕ → ℕ
word_from g k = (pcg32 (after_words k g)).0
