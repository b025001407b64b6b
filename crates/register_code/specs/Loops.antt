-- The loops of a part, how often they let each instruction run, and what the part costs by that.
use Rattle.std.specs.Prelude.{ℕ, ◌*◌, ◌==◌, Bool, false, ◌&&◌, if◌then◌else◌, nat_lt, nat_le, List, length, slice_get, Option, Some, None}
use Rattle.tap_base.specs.Option.{◌>>=◌, provided}
use Rattle.register_code.specs.Sums.{sum_below, product_below}
use Rattle.register_code.specs.declared.instr.Instr.{Instr}
use Rattle.register_code.specs.declared.loops.Loop.{Loop}
use Rattle.register_code.specs.declared.instr.Instr.TheVariants as instr

abbrev pub begun_by : Instr → Option Loop
begun_by (instr.Repeat count last) = Some (record { last = last; count = count })
begun_by _ = None

-- the number of the instruction that a loop's end names
abbrev pub ended_by : Instr → Option ℕ
ended_by (instr.Again first) = Some first
ended_by _ = None

-- the count that stands at the beginning of a loop, else 1
abbrev pub count_at : Option Instr → ℕ
count_at (Some (instr.Repeat count last)) = count
count_at _ = 1

-- The loop that begins at b: a Repeat that names an Again that names the Repeat.
abbrev pub loop_at : List Instr → ℕ → Option Loop
loop_at instrs b = do
  loop ← slice_get instrs b >>= begun_by
  first ← slice_get instrs loop.last >>= ended_by
  provided (first == b) loop

-- A loop holds the numbers behind its beginning up to its end.
abbrev pub is_held : ℕ → Loop → ℕ → Bool
is_held b loop i = nat_lt b i && nat_le i loop.last

-- whether a loop begins at b and holds i
abbrev pub is_held_from : List Instr → ℕ → ℕ → Bool
is_held_from instrs b i = held (loop_at instrs b) where
  held : Option Loop → Bool
  held None = false
  held (Some loop) = is_held b loop i

-- how often the loop that begins at b runs, where it holds i, else 1
abbrev pub times : List Instr → ℕ → ℕ → ℕ
times instrs b i = turns (loop_at instrs b) where
  turns : Option Loop → ℕ
  turns None = 1
  turns (Some loop) = if is_held b loop i then loop.count else 1

-- the product of the counts of the loops that hold i
abbrev pub weight : List Instr → ℕ → ℕ
weight instrs i = product_below (length instrs) (λ b. times instrs b i)

-- what one instruction counts, where it is there
abbrev pub counted : (Instr → ℕ) → Option Instr → ℕ
counted counts None = 0
counted counts (Some i) = counts i

-- The sum over the instructions of what each counts times the product of the counts of the loops that hold it.
abbrev pub total : (Instr → ℕ) → List Instr → ℕ
total counts instrs = sum_below (length instrs) (λ i. counted counts (slice_get instrs i) * weight instrs i)

abbrev pub one_step : Instr → ℕ
one_step i = 1

abbrev pub one_send : Instr → ℕ
one_send (instr.Send message first count to) = 1
one_send _ = 0

abbrev pub one_choice : Instr → ℕ
one_choice (instr.Choose r lo hi) = 1
one_choice (instr.Select r first count) = 1
one_choice _ = 0

-- the greatest number of instructions that a part can run
abbrev pub cost : List Instr → ℕ
cost instrs = total one_step instrs

-- the greatest number of sends
abbrev pub sends : List Instr → ℕ
sends instrs = total one_send instrs

-- the greatest number of choices
abbrev pub choices : List Instr → ℕ
choices instrs = total one_choice instrs
