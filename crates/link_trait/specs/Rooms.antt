-- Room that was taken beforehand.
use Rattle.std.specs.Prelude.{ℕ, ◌-◌, ◌≤◌, ◌≡◌, List, [], length, All, Vec, vec_capacity}
use Rattle.std.specs.declared.alloc.Global.{Global}

-- room for so many more byte strings, of so many bytes at most
pub record Room : Type 0 where
  pub count : ℕ
  pub bytes : ℕ

-- the room after one of them was used
abbrev pub one_room_less : Room → Room
one_room_less room = record room { count = room.count - 1 }

-- an empty buffer with room for n bytes
abbrev pub IsRoom : ℕ → Vec ℕ Global → Type 0
IsRoom n v = (v.items ≡ []) × (n ≤ vec_capacity v)

-- so many empty buffers at least, each with room for n bytes
abbrev pub AreRooms : ℕ → ℕ → List (Vec ℕ Global) → Type 0
AreRooms count n spare = (count ≤ length spare) × All (IsRoom n) spare
