-- What one instruction does.
use Rattle.std.specs.Prelude.{ℕ, ◌+◌, ◌-◌, ◌^◌, ◌==◌, ℤ, pos, ◌&&◌, if◌then◌else◌, nat_lt, int_le, int_lt, unsigned_abs, List, [], ◌∷◌, ◌++◌, take, drop, map, length, slice_get, slice_set, Option, Some}
use Rattle.std.specs.Ordering.{int_eq}
use Rattle.tap_base.specs.declared.tree.Op.{Op}
use Rattle.tap_base.specs.declared.tree.Op.TheVariants as op
use Rattle.tap_base.specs.Interval.{from_to}
use Rattle.tap_base.specs.Ranges.{values_of}
use Rattle.tap_exec.specs.declared.running.Outgoing.{Outgoing}
use Rattle.tap_exec.specs.declared.running.TimerState.{TimerState}
use Rattle.tap_exec.specs.declared.running.TimerState.TheVariants as timer
use Rattle.tap_exec.specs.Execution.{takes}
use Rattle.tap_exec.specs.Filling.{filled}
use Rattle.tap_base.specs.Option.{◌>>=◌, provided}
use Rattle.tap_exec.specs.Value.{operation}
use Rattle.register_code.specs.declared.code.CodeMessage.{CodeMessage}
use Rattle.register_code.specs.declared.instr.Instr.{Instr}
use Rattle.register_code.specs.declared.instr.Instr.TheVariants as instr
use Rattle.register_code.specs.Fields.{code_message}

-- what the instructions of a part read and never change
pub record Setting : Type 0 where
  pub messages : List CodeMessage
  pub received : List ℤ
  pub instrs : List Instr

-- A moment of a run: the number of the next instruction, the registers, the counter of the loop that begins at each
-- instruction, the timers, what was sent so far, and the choices that are left.
pub record Moment : Type 0 where
  pub next : ℕ
  pub registers : List ℤ
  pub counters : List ℕ
  pub timers : List TimerState
  pub sends : List Outgoing
  pub choices : List ℤ

-- what an instruction does; none where the next choice is no option, or where something that it names is not there
abbrev pub Doing : Type 0
Doing = Moment → Option Moment

-- ---- registers

-- The register holds the number, and the following instruction is next.
abbrev pub puts : ℕ → ℤ → Doing
puts r x s = Some (record s { next = s.next + 1; registers = slice_set s.registers r x })

-- the register holds what an operation gives of two
abbrev pub computes : Op → ℕ → ℕ → ℕ → Doing
computes o r a b s = do
  x ← slice_get s.registers a
  y ← slice_get s.registers b
  puts r (operation o x y) s

-- the cell of a run of cells that an index names
abbrev pub place_at : ℕ → ℕ → ℕ → Moment → Option ℕ
place_at base length index s = do
  i ← slice_get s.registers index
  provided (int_le (pos 0) i && int_lt i (pos length)) (base + unsigned_abs i)

-- so many numbers from a place on, where there are so many
abbrev pub run_of : {A : Type 0} → ℕ → ℕ → List A → Option (List A)
run_of first count xs = let found = take count (drop first xs) in provided (length found == count) found

-- ---- choices

-- the next choice, where it is one of the options, goes into the register
abbrev pub chooses : ℕ → List ℤ → Doing
chooses r options s = do
  choice ← takes options s.choices
  puts r choice.0 (record s { choices = choice.1 })

-- the offsets, counted from i, of the numbers that are 1
abbrev pub ones : ℕ → List ℤ → List ℕ
ones i [] = []
ones i (x ∷ xs) = if int_eq x (pos 1) then i ∷ ones (i + 1) xs else ones (i + 1) xs

-- by the offsets of the registers that hold 1: of none the count, of one its offset, of more the next choice
abbrev pub selects : ℕ → ℕ → List ℕ → Doing
selects r count [] s = puts r (pos count) s
selects r count (k ∷ []) s = puts r (pos k) s
selects r count (k ∷ l ∷ more) s = chooses r (map pos (k ∷ l ∷ more)) s

-- ---- sends and timers

-- The timer is set, and the following instruction is next.
abbrev pub sets : ℕ → TimerState → Doing
sets t state s = Some (record s { next = s.next + 1; timers = slice_set s.timers t state })

-- ---- loops

-- The loop's counter falls by one; while it is above 0, the loop runs again.
abbrev pub turns : ℕ → ℕ → Doing
turns first left s = Some (record s { next = if nat_lt 0 left then first + 1 else s.next + 1; counters = slice_set s.counters first left })

-- ---- one instruction

abbrev pub does : Setting → Instr → Doing
does e (instr.Const r imm) s = puts r imm s
does e (instr.Copy r a) s = slice_get s.registers a >>= λ x. puts r x s
does e (instr.Add r a b) s = computes op.Add r a b s
does e (instr.Sub r a b) s = computes op.Sub r a b s
does e (instr.Mul r a b) s = computes op.Mul r a b s
does e (instr.Div r a b) s = computes op.Div r a b s
does e (instr.Mod r a b) s = computes op.Mod r a b s
does e (instr.Min r a b) s = computes op.Min r a b s
does e (instr.Max r a b) s = computes op.Max r a b s
does e (instr.Eq r a b) s = computes op.Eq r a b s
does e (instr.Ne r a b) s = computes op.Ne r a b s
does e (instr.Lt r a b) s = computes op.Lt r a b s
does e (instr.Le r a b) s = computes op.Le r a b s
does e (instr.Load r base length index) s = do
  k ← place_at base length index s
  x ← slice_get s.registers k
  puts r x s
does e (instr.Save base length index a) s = do
  k ← place_at base length index s
  x ← slice_get s.registers a
  puts k x s
does e (instr.Part r field) s = slice_get e.received field >>= λ x. puts r x s
does e (instr.Choose r lo hi) s = chooses r (values_of (from_to lo hi)) s
does e (instr.Select r first count) s = run_of first count s.registers >>= λ xs. selects r count (ones 0 xs) s
does e (instr.Jump target) s = Some (record s { next = target })
does e (instr.JumpNe a imm target) s = do
  x ← slice_get s.registers a
  Some (record s { next = if int_eq x imm then s.next + 1 else target })
does e (instr.Repeat count last) s = Some (record s { next = s.next + 1; counters = slice_set s.counters s.next count })
does e (instr.Again first) s = slice_get s.counters first >>= λ left. turns first (left - 1) s
does e (instr.Send message first count to) s = do
  m ← slice_get e.messages message
  free ← run_of first count s.registers
  values ← filled (code_message m) free
  Some (record s { next = s.next + 1; sends = s.sends ++ record { to = to; message = message; values = values } ∷ [] })
does e (instr.Start t a) s = do
  x ← slice_get s.registers a
  delay ← provided (int_le (pos 0) x && int_lt x (pos (2 ^ 32))) (unsigned_abs x)
  sets t (timer.Armed delay) s
does e (instr.Stop t) s = sets t timer.Off s
