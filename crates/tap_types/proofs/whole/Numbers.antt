-- Tests of numbers, as orders.
use Rattle.std.proofs.Common.{◌≡◌, ◌≤◌, ◌<◌, ◌≤ℤ◌, ◌<ℤ◌, ◌^◌, ◌-ℤ◌, ℕ, ℤ, pos, true, false, int_le, unsigned_abs, arith}
use Rattle.std.specs.Prelude.{int_lt, nat_le, nat_lt}
use Rattle.std.proofs.lemmas.Int.{ints}
use Rattle.tap_base.specs.declared.place.Range.{Range}
use Rattle.tap_types.specs.StmtOffences.{is_count, is_wide}
use Rattle.tap_base.proofs.OffenceFacts.{both_true}

pub at_most : (a b : ℤ) → int_le a b ≡ true → a ≤ℤ b
at_most a b e = grind (arith, ints)

pub above : (a b : ℤ) → int_le a b ≡ false → b <ℤ a
above a b e = grind (arith, ints)

pub below : (a b : ℤ) → int_lt a b ≡ true → a <ℤ b
below a b e = grind (arith, ints)

pub no_more : (a b : ℕ) → nat_lt a b ≡ false → b ≤ a
no_more a b e = grind arith

pub fewer : (a b : ℕ) → nat_le a b ≡ false → b < a
fewer a b e = grind arith

-- a number of turns is one from 1 to 65,536
counted : (n : ℤ) → pos 1 ≤ℤ n → n ≤ℤ pos 65536 → (1 ≤ unsigned_abs n) × (unsigned_abs n ≤ 65536)
counted n low high = (grind (arith, ints), grind (arith, ints))

pub turns_counted : (n : ℤ) → is_count n ≡ true → (1 ≤ unsigned_abs n) × (unsigned_abs n ≤ 65536)
turns_counted n e =
    let b = both_true (int_le (pos 1) n) (int_le n (pos 65536)) e in
    counted n (at_most (pos 1) n b.0) (at_most n (pos 65536) b.1)

pub not_wide : (range : Range) → is_wide range ≡ false → (range.hi -ℤ range.lo) <ℤ pos (2 ^ 32)
not_wide range e = above (pos (2 ^ 32)) (range.hi -ℤ range.lo) e
