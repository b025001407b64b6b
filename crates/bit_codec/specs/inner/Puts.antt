-- Bits on their way into a room of bytes.
use Rattle.std.specs.Prelude.{◌≡◌, ℕ, ◌+◌, ◌*◌, ◌<◌, ◌≤◌, ◌^◌, List, ◌++◌, take, drop, length}
use Rattle.byte_meaning.specs.Spelling.{digits, padded}
use Rattle.byte_meaning.specs.Reading.{bits_of}
use Rattle.bit_codec.specs.declared.writer.Pending.{Pending}

abbrev pub nothing_pending : Pending
nothing_pending = record { at = 0; count = 0; bits = 0 }

-- fewer than 8 bits are pending, and their number has no more digits
pub record IsReady (p : Pending) : Type 0 where
  pub few : p.count < 8
  pub small : p.bits < 2 ^ p.count

-- the bits so far
abbrev pub written : List ℕ → Pending → List ℕ
written room p = bits_of (take p.at room) ++ digits p.count p.bits

-- The bits were put behind those of p, and the bytes behind are the old ones.
pub record Puts (old : List ℕ) (p : Pending) (bits new : List ℕ) (q : Pending) : Type 0 where
  pub written : written new q ≡ written old p ++ bits
  pub behind : drop q.at new ≡ drop q.at old
  pub ready : IsReady q
  pub place : 8 * q.at + q.count ≡ 8 * p.at + p.count + length bits

-- The last byte was filled with zeros, and the bytes behind it are the old ones.
pub record IsFilled (old : List ℕ) (p : Pending) (new : List ℕ) (at : ℕ) : Type 0 where
  pub written : bits_of (take at new) ≡ padded (written old p)
  pub behind : drop at new ≡ drop at old
  pub place : 8 * at < 8 * p.at + p.count + 8
  pub within : at ≤ length new
