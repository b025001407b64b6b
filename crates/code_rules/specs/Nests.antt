-- Of each number of a part, the loop that holds it and begins last, and the one that ends first.
use Rattle.std.specs.Prelude.{◌≡◌, ℕ, ◌+◌, ◌<◌, ◌==◌, Bool, true, false, ◌&&◌, List, length, slice_get, Option, Some, None}
use Rattle.tap_base.specs.Option.{◌>>=◌, is_yes}
use Rattle.register_code.specs.declared.instr.Instr.{Instr}
use Rattle.register_code.specs.Loops.{ended_by, is_held, is_held_from, loop_at}
use Rattle.code_rules.specs.declared.nests.Nests.{Nests}

-- whether the loop that ends at e holds i; none where no loop ends there
abbrev pub held_until : List Instr → ℕ → ℕ → Option Bool
held_until instrs e i = do
  b ← slice_get instrs e >>= ended_by
  loop ← loop_at instrs b
  Some (loop.last == e && is_held b loop i)

abbrev pub is_held_until : List Instr → ℕ → ℕ → Bool
is_held_until instrs e i = is_yes (held_until instrs e i)

-- where the last loop to begin of those that hold i begins
abbrev pub IsLatest : List Instr → ℕ → Option ℕ → Type 0
IsLatest instrs i None = (b : ℕ) → is_held_from instrs b i ≡ false
IsLatest instrs i (Some b) = (is_held_from instrs b i ≡ true) × ((d : ℕ) → b < d → is_held_from instrs d i ≡ false)

-- where the first loop to end of those that hold i ends
abbrev pub IsSoonest : List Instr → ℕ → Option ℕ → Type 0
IsSoonest instrs i None = (e : ℕ) → is_held_until instrs e i ≡ false
IsSoonest instrs i (Some e) = (is_held_until instrs e i ≡ true) × ((f : ℕ) → f < e → is_held_until instrs f i ≡ false)

-- what a table says of a number, where it has an entry
abbrev pub entry : List (Option ℕ) → ℕ → Option ℕ
entry table i = slice_get table i >>= λ e. e

abbrev pub AreLatest : List Instr → List (Option ℕ) → Type 0
AreLatest instrs begins = (i : ℕ) (begin : Option ℕ) → slice_get begins i ≡ Some begin → IsLatest instrs i begin

-- The entries from n on are those ends.
abbrev pub AreSoonest : List Instr → ℕ → List (Option ℕ) → Type 0
AreSoonest instrs n ends = (i : ℕ) (end : Option ℕ) → n < i + 1 → slice_get ends i ≡ Some end → IsSoonest instrs i end

-- An entry for each number up to the length, and one for each instruction.
pub record AreNests (instrs : List Instr) (nests : Nests) : Type 0 where
  pub begins : AreLatest instrs nests.begins
  pub all_begins : length nests.begins ≡ length instrs + 1
  pub ends : AreSoonest instrs 0 nests.ends
  pub all_ends : length nests.ends ≡ length instrs
