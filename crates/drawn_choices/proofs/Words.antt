-- What a generator gives next, and behind so many words.
use Rattle.std.proofs.Common.{◌≡◌, ◌<◌, ◌≤◌, ◌^◌, ◌*◌, ◌/◌, ◌%◌, ◌-◌, ℕ, zero, suc, ◌+◌, ap, sym, ◌∙◌, arith, rules, zero-add}
use Rattle.std.specs.Int.{w32, rotate_right}
use Rattle.std.proofs.Math.Nat.{div-le_self, div-lt_iff_lt-mul, mul-lt-mul_of_pos_left}
use Rattle.std.proofs.lemmas.Nat.{or_of_32}
use Rattle.rand_pcg.proofs.LcgLemmas.{advance_zero, advance_more}
use Rattle.rand_pcg.specs.Lcg.{Lcg, next}
use Rattle.rand_pcg.specs.Pcg.{pcg32, multiplier_64}
use Rattle.drawn_choices.specs.Draws.{after_words, drawn, word_from}

pub word_now : (g : Lcg) → word_from g 0 ≡ (pcg32 g).0
word_now g = ap (λ (h : Lcg). (pcg32 h).0) (advance_zero 64 multiplier_64 g)

pub after_one : (g : Lcg) → after_words 1 g ≡ (pcg32 g).1
after_one g = sym (advance_more 64 multiplier_64 0 g) ∙ advance_zero 64 multiplier_64 (next 64 multiplier_64 g)

after_more : (k : ℕ) (g : Lcg) → after_words (suc k) g ≡ after_words k (next 64 multiplier_64 g)
after_more k g = let same : suc k ≡ k + 1 = omega arith in ap (λ (n : ℕ). after_words n g) same ∙ sym (advance_more 64 multiplier_64 k g)

-- behind so many words and so many more
pub after_both : (i j : ℕ) (g : Lcg) → after_words j (after_words i g) ≡ after_words (i + j) g
after_both zero j g = ap (after_words j) (advance_zero 64 multiplier_64 g) ∙ ap (λ (n : ℕ). after_words n g) (sym (zero-add j))
after_both (suc i) j g =
    let same : suc (i + j) ≡ suc i + j = omega arith in
    ap (after_words j) (after_more i g) ∙ after_both i j (next 64 multiplier_64 g) ∙ sym (after_more (i + j) g) ∙ ap (λ (n : ℕ). after_words n g) same

-- the words behind so many
pub word_behind : (i k : ℕ) (g : Lcg) → word_from (after_words i g) k ≡ word_from g (i + k)
word_behind i k g = ap (λ (h : Lcg). (pcg32 h).0) (after_both i k g)

-- a word takes one of the options, where there are some
pub drawn_below : (word count : ℕ) → word < 2 ^ 32 → 0 < count → drawn word count < count
drawn_below word count fits some =
    let below : count * word < count * 2 ^ 32 = mul-lt-mul_of_pos_left fits some in
    let room : word * count < count * 2 ^ 32 = grind (arith, below) in
    (div-lt_iff_lt-mul (search rules)).1 room

-- ---- words have 32 bits

shrunk : (n d : ℕ) → n < 2 ^ 32 → n / d < 2 ^ 32
shrunk n d fits = let le : n / d ≤ n = div-le_self n d in omega arith

rotated : (n by : ℕ) → n < 2 ^ 32 → rotate_right w32 n by < 2 ^ 32
rotated n by fits = or_of_32 (n / 2 ^ (by % 32)) ((n * 2 ^ ((32 - by % 32) % 32)) % 2 ^ 32) (shrunk n (2 ^ (by % 32)) fits) (grind arith)

-- whatever the generator
pub word_fits : (g : Lcg) (k : ℕ) → word_from g k < 2 ^ 32
word_fits g k = rotated _ ((after_words k g).state / 2 ^ 59) (grind arith)
