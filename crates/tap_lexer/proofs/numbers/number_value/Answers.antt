use Rattle.std.proofs.Common.{◌≡◌, ◌+◌, ◌^◌, ◌≤◌, ℕ, ℤ, pos, Bool, false, Option, Some, None, if◌then◌else◌, nat_lt, sym, subst, arith, rules}
use Rattle.std.specs.Str.Parse.{digits_value}
use Rattle.std.proofs.lemmas.Bool.Decides.{nat_tests}
use Rattle.tap_lexer.proofs.Digits.{from_48, one_more, not_less}
use Rattle.tap_lexer.proofs.numbers.number_value.Goals as goal

pub overflow_sub-digit : goal.overflow_sub-digit
overflow_sub-digit c = from_48 c.args.digits.now c.loop-digit.digit-index (omega arith) c.requires

too_large : (n : ℕ) → 2 ^ 63 ≤ n → ◌≡◌ {A = Option ℤ} None (if nat_lt n (2 ^ 63) then Some (pos n) else None)
too_large n h = let e : nat_lt n (2 ^ 63) ≡ false = grind (arith, nat_tests) in let P : Bool → Type 0 = λ b. ◌≡◌ {A = Option ℤ} None (if b then Some (pos n) else None) in subst P (sym e) (search rules)

pub returns-then-value-digit : goal.returns-then-value-digit
returns-then-value-digit c =
    let m = one_more c.args.digits.now c.loop-digit.digit-index (omega arith) c.requires in
    let n = not_less c.args.digits.now (c.loop-digit.digit-index + 1) in
    too_large (digits_value 10 c.args.digits.now) (omega arith)

pub loop-digit-preserved : goal.loop-digit-preserved
loop-digit-preserved c =
    let m = one_more c.args.digits.now c.loop-digit.digit-index (omega arith) c.requires in
    (grind arith, omega arith)
