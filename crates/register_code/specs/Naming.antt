-- What an instruction names is there, and may stand where it stands: the rule V4.
use Rattle.std.specs.Prelude.{ℕ, ◌+◌, ◌==◌, Bool, true, false, not, ◌&&◌, ◌||◌, nat_lt, nat_le, List, [], ◌∷◌, length, Option, Some, None}
use Rattle.std.specs.List.{list_all}
use Rattle.std.specs.Option.{option_map}
use Rattle.tap_base.specs.Option.{is_yes}
use Rattle.register_code.specs.declared.bad.Part.{Part}
use Rattle.register_code.specs.declared.bad.Part.TheVariants as part
use Rattle.register_code.specs.declared.instr.Instr.{Instr}
use Rattle.register_code.specs.declared.instr.Instr.TheVariants as instr
use Rattle.register_code.specs.Sites.{Site, holds_of}

-- ---- what an instruction names

-- the single registers that it reads or writes
abbrev pub named : Instr → List ℕ
named (instr.Const r imm) = r ∷ []
named (instr.Copy r a) = r ∷ a ∷ []
named (instr.Add r a b) = r ∷ a ∷ b ∷ []
named (instr.Sub r a b) = r ∷ a ∷ b ∷ []
named (instr.Mul r a b) = r ∷ a ∷ b ∷ []
named (instr.Div r a b) = r ∷ a ∷ b ∷ []
named (instr.Mod r a b) = r ∷ a ∷ b ∷ []
named (instr.Min r a b) = r ∷ a ∷ b ∷ []
named (instr.Max r a b) = r ∷ a ∷ b ∷ []
named (instr.Eq r a b) = r ∷ a ∷ b ∷ []
named (instr.Ne r a b) = r ∷ a ∷ b ∷ []
named (instr.Lt r a b) = r ∷ a ∷ b ∷ []
named (instr.Le r a b) = r ∷ a ∷ b ∷ []
named (instr.Load r base length index) = r ∷ index ∷ []
named (instr.Save base length index a) = index ∷ a ∷ []
named (instr.Part r field) = r ∷ []
named (instr.Choose r lo hi) = r ∷ []
named (instr.Select r first count) = r ∷ []
named (instr.JumpNe a imm target) = a ∷ []
named (instr.Start timer a) = a ∷ []
named _ = []

-- the register that it writes, but for the cells of a Save
abbrev pub written : Instr → Option ℕ
written (instr.Const r imm) = Some r
written (instr.Copy r a) = Some r
written (instr.Add r a b) = Some r
written (instr.Sub r a b) = Some r
written (instr.Mul r a b) = Some r
written (instr.Div r a b) = Some r
written (instr.Mod r a b) = Some r
written (instr.Min r a b) = Some r
written (instr.Max r a b) = Some r
written (instr.Eq r a b) = Some r
written (instr.Ne r a b) = Some r
written (instr.Lt r a b) = Some r
written (instr.Le r a b) = Some r
written (instr.Load r base length index) = Some r
written (instr.Part r field) = Some r
written (instr.Choose r lo hi) = Some r
written (instr.Select r first count) = Some r
written _ = None

-- the instructions that a guard may have: those that only compute, copy and read
abbrev pub may_guard : Instr → Bool
may_guard (instr.Save base length index a) = false
may_guard (instr.Part r field) = false
may_guard (instr.Choose r lo hi) = false
may_guard (instr.Select r first count) = false
may_guard (instr.Jump target) = false
may_guard (instr.JumpNe a imm target) = false
may_guard (instr.Repeat count last) = false
may_guard (instr.Again first) = false
may_guard (instr.Send message first count to) = false
may_guard (instr.Start timer a) = false
may_guard (instr.Stop timer) = false
may_guard _ = true

-- ---- V4: what is named is there, and may stand here

-- With no registers none is named.
abbrev pub are_registers : Site → ℕ → ℕ → Bool
are_registers s first count = count == 0 || nat_le (first + count) (length s.ranges)

-- runs, fields, messages, processes and timers are there
abbrev pub others_exist : Site → Instr → Bool
others_exist s (instr.Load r base length index) = nat_le (base + length) s.cells
others_exist s (instr.Save base length index a) = nat_le (base + length) s.cells
others_exist s (instr.Part r field) = is_yes (option_map (λ fields. nat_lt field (length fields)) s.received)
others_exist s (instr.Select r first count) = are_registers s first count
others_exist s (instr.Send message first count to) = are_registers s first count && nat_lt message (length s.messages) && nat_lt to (length s.processes)
others_exist s (instr.Start timer a) = nat_lt timer s.timers
others_exist s (instr.Stop timer) = nat_lt timer s.timers
others_exist s _ = true

-- An input is not written, and a guard writes only temporaries.
abbrev pub may_write : Site → ℕ → Bool
may_write s r = is_temporary || (not (is_guard s.part) && nat_lt r s.cells) where
  is_temporary : Bool
  is_temporary = nat_le (s.cells + s.inputs) r

  is_guard : Part → Bool
  is_guard part.Guard = true
  is_guard part.Body = false

abbrev pub may_stand : Part → Instr → Bool
may_stand part.Guard i = may_guard i
may_stand part.Body i = true

abbrev pub names_exist : Site → Instr → Bool
names_exist s i = list_all (λ r. nat_lt r (length s.ranges)) (named i) && others_exist s i && holds_of (written i) (may_write s) && may_stand s.part i
