-- Digits of a number.
use Rattle.std.proofs.Common.{◌≡◌, ℕ, zero, suc, ◌+◌, ◌-◌, ◌*◌, ◌<◌, ◌≤◌, true, List, [], ◌∷◌, take, length, get_or, arith}
use Rattle.std.specs.Char.{is_ascii_digit}
use Rattle.std.specs.Str.Parse.{digits_value}
use Rattle.std.proofs.lemmas.Str.{digit_value_digit}
use Rattle.std.proofs.lemmas.Str.Parse.{digits_value-take-le}
use Rattle.std.proofs.lemmas.Int.Digits.{digits_value_more}
use Rattle.std.proofs.lemmas.Bool.Decides.{nat_tests}
use Rattle.tap_lexer.specs.Tokens.{AllPass}

low : (b : ℕ) → is_ascii_digit b ≡ true → 48 ≤ b
low b e = grind (arith, nat_tests)

high : (b : ℕ) → is_ascii_digit b ≡ true → b ≤ 57
high b e = grind (arith, nat_tests)

digit_at : (bs : List ℕ) (k : ℕ) → k < length bs → AllPass is_ascii_digit bs → is_ascii_digit (get_or bs k 0) ≡ true
digit_at [] k h a = absurd (omega arith)
digit_at (b ∷ bs) zero h a = a.0
digit_at (b ∷ bs) (suc k) h a = digit_at bs k (omega arith) a.1

pub from_48 : (bs : List ℕ) (k : ℕ) → k < length bs → AllPass is_ascii_digit bs → 48 ≤ get_or bs k 0
from_48 bs k h a = low (get_or bs k 0) (digit_at bs k h a)

pub to_57 : (bs : List ℕ) (k : ℕ) → k < length bs → AllPass is_ascii_digit bs → get_or bs k 0 ≤ 57
to_57 bs k h a = high (get_or bs k 0) (digit_at bs k h a)

pub one_more : (bs : List ℕ) (k : ℕ) → k < length bs → AllPass is_ascii_digit bs → digits_value 10 (take (k + 1) bs) ≡ digits_value 10 (take k bs) * 10 + (get_or bs k 0 - 48)
one_more bs k h a =
    let l = from_48 bs k h a in let g = to_57 bs k h a in
    let d = digit_value_digit (get_or bs k 0) (search (arith)) in
    let m = digits_value_more 10 bs k h in omega arith

pub not_less : (bs : List ℕ) (k : ℕ) → digits_value 10 (take k bs) ≤ digits_value 10 bs
not_less bs k = digits_value-take-le 10 bs k (omega arith)
