-- Bits as they are written into bytes, one after another.
use Rattle.std.specs.Prelude.{ℕ, ◌+◌, ◌*◌, ◌^◌, ◌<◌, List, [], ◌∷◌, ◌++◌, if◌then◌else◌, nat_lt}
use Rattle.byte_meaning.specs.declared.spelling.Packed.{Packed}

abbrev pub nothing_packed : Packed
nothing_packed = record { bytes = []; rest = 0; count = 0 }

-- one more bit, which may fill a byte
abbrev pub one_packed : Packed → ℕ → Packed
one_packed w bit =
    if nat_lt w.count 7
    then record w { rest = 2 * w.rest + bit; count = w.count + 1 }
    else record { bytes = w.bytes ++ (2 * w.rest + bit) ∷ []; rest = 0; count = 0 }

abbrev pub all_packed : List ℕ → Packed → Packed
all_packed [] w = w
all_packed (bit ∷ bits) w = all_packed bits (one_packed w bit)

-- fewer than 8 bits stand behind the bytes, and their number has no more digits
pub record IsPacked (w : Packed) : Type 0 where
  pub few : w.count < 8
  pub small : w.rest < 2 ^ w.count
