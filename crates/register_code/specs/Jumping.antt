-- A jump goes forward and into no loop, and loops are whole and nested: the rules V9 and V10.
use Rattle.std.specs.Prelude.{◌≡◌, ℕ, zero, suc, ◌==◌, Bool, true, not, ◌&&◌, ◌||◌, nat_lt, nat_le, List, length, slice_get, Some}
use Rattle.std.specs.Option.{option_map}
use Rattle.tap_base.specs.Option.{is_yes}
use Rattle.register_code.specs.declared.instr.Instr.{Instr}
use Rattle.register_code.specs.declared.instr.Instr.TheVariants as instr
use Rattle.register_code.specs.declared.loops.Loop.{Loop}
use Rattle.register_code.specs.Loops.{loop_at, is_held_from}
use Rattle.register_code.specs.Sites.{holds_of}

-- ---- V9: a jump goes forward and into no loop

-- all numbers below n pass the test
abbrev pub all_below : ℕ → (ℕ → Bool) → Bool
all_below zero test = true
all_below (suc n) test = all_below n test && test n

-- Each loop that holds the target holds the jump.
abbrev pub enters_no_loop : List Instr → ℕ → ℕ → Bool
enters_no_loop instrs at target = all_below (length instrs) (λ b. not (is_held_from instrs b target) || is_held_from instrs b at)

abbrev pub jump_fits : List Instr → ℕ → ℕ → Bool
jump_fits instrs at target = nat_lt at target && nat_le target (length instrs) && enters_no_loop instrs at target

abbrev pub jumps_well : List Instr → ℕ → Instr → Bool
jumps_well instrs at (instr.Jump target) = jump_fits instrs at target
jumps_well instrs at (instr.JumpNe a imm target) = jump_fits instrs at target
jumps_well instrs at _ = true

-- ---- V10: loops are whole and nested

-- The first begins before the second, which begins in it and ends behind it.
abbrev pub runs_out : ℕ → Loop → ℕ → Loop → Bool
runs_out b loop d other = nat_lt b d && nat_lt d loop.last && nat_lt loop.last other.last

-- no loop overlaps the loop at b but one that holds it, or that it holds
abbrev pub stays_apart : List Instr → ℕ → Loop → ℕ → Bool
stays_apart instrs b loop d = holds_of (loop_at instrs d) (λ other. not (runs_out b loop d other || runs_out d other b loop))

abbrev pub is_nested : List Instr → ℕ → Loop → Bool
is_nested instrs b loop = all_below (length instrs) (stays_apart instrs b loop)

abbrev pub loops_well : List Instr → ℕ → Instr → Bool
loops_well instrs at (instr.Repeat count last) =
    nat_lt at last && nat_le 1 count && nat_le count 65536 && is_yes (option_map (is_nested instrs at) (loop_at instrs at))
loops_well instrs at (instr.Again first) = is_yes (option_map (λ loop. loop.last == at && is_nested instrs first loop) (loop_at instrs first))
loops_well instrs at _ = true

-- Every jump and every loop keeps its rule.
abbrev pub AreWhole : List Instr → Type 0
AreWhole instrs = (at : ℕ) (i : Instr) → slice_get instrs at ≡ Some i → (jumps_well instrs at i ≡ true) × (loops_well instrs at i ≡ true)
