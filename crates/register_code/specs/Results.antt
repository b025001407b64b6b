-- What an instruction gives, an index, the options of a choice and a delay are within their ranges: the rules V5, V6, V7
-- and V13.
use Rattle.std.specs.Prelude.{ℕ, ◌^◌, pos, ◌-ℤ◌, Bool, true, ◌&&◌, nat_lt, int_le, int_lt, List, take, drop, slice_get, Option, Some}
use Rattle.std.specs.List.{list_all}
use Rattle.std.specs.Option.{option_map}
use Rattle.tap_base.specs.declared.place.Range.{Range}
use Rattle.tap_base.specs.declared.tree.Op.{Op}
use Rattle.tap_base.specs.declared.tree.Op.TheVariants as op
use Rattle.tap_base.specs.Interval.{delay_range, field_range, from_to, index_range, operation_range, truth_range}
use Rattle.tap_base.specs.Option.{◌>>=◌, is_yes}
use Rattle.register_code.specs.declared.code.CodeField.{CodeField}
use Rattle.register_code.specs.declared.instr.Instr.{Instr}
use Rattle.register_code.specs.declared.instr.Instr.TheVariants as instr
use Rattle.register_code.specs.Fields.{code_field}
use Rattle.register_code.specs.Sites.{Site, both_in, lies_in}

-- ---- V5: the result is in range

-- the ranges of a run of cells
abbrev pub cell_run : Site → ℕ → ℕ → List Range
cell_run s base length = take length (drop base s.ranges)

-- the range of a received field
abbrev pub received_range : Option (List CodeField) → ℕ → Option Range
received_range received field = received >>= λ fields. option_map (λ f. field_range (code_field f)) (slice_get fields field)

-- the interval of an operation is there, and lies within the range of r
abbrev pub operates_in : List Range → Op → ℕ → ℕ → ℕ → Bool
operates_in ranges o r a b = is_yes (do
  range ← slice_get ranges r
  x ← slice_get ranges a
  y ← slice_get ranges b
  result ← operation_range o x y
  Some (lies_in result range))

abbrev pub operates : Site → Op → ℕ → ℕ → ℕ → Bool
operates s o r a b = operates_in s.ranges o r a b

abbrev pub result_fits : Site → Instr → Bool
result_fits s (instr.Const r imm) = both_in (Some (from_to imm imm)) (slice_get s.ranges r)
result_fits s (instr.Copy r a) = both_in (slice_get s.ranges a) (slice_get s.ranges r)
result_fits s (instr.Add r a b) = operates s op.Add r a b
result_fits s (instr.Sub r a b) = operates s op.Sub r a b
result_fits s (instr.Mul r a b) = operates s op.Mul r a b
result_fits s (instr.Div r a b) = operates s op.Div r a b
result_fits s (instr.Mod r a b) = operates s op.Mod r a b
result_fits s (instr.Min r a b) = operates s op.Min r a b
result_fits s (instr.Max r a b) = operates s op.Max r a b
result_fits s (instr.Eq r a b) = operates s op.Eq r a b
result_fits s (instr.Ne r a b) = operates s op.Ne r a b
result_fits s (instr.Lt r a b) = operates s op.Lt r a b
result_fits s (instr.Le r a b) = operates s op.Le r a b
result_fits s (instr.Load r base length index) = list_all (λ cell. both_in (Some cell) (slice_get s.ranges r)) (cell_run s base length)
result_fits s (instr.Save base length index a) = list_all (λ cell. both_in (slice_get s.ranges a) (Some cell)) (cell_run s base length)
result_fits s (instr.Part r field) = both_in (received_range s.received field) (slice_get s.ranges r)
result_fits s (instr.Choose r lo hi) = both_in (Some (from_to lo hi)) (slice_get s.ranges r)
result_fits s _ = true

-- ---- V6: an index is within its run

abbrev pub index_fits : Site → Instr → Bool
index_fits s (instr.Load r base length index) = both_in (slice_get s.ranges index) (Some (index_range length))
index_fits s (instr.Save base length index a) = both_in (slice_get s.ranges index) (Some (index_range length))
index_fits s _ = true

-- ---- V7: a choice has options

abbrev pub are_truths : List Range → Bool
are_truths ranges = list_all (λ range. lies_in range truth_range) ranges

abbrev pub has_options : Site → Instr → Bool
has_options s (instr.Choose r lo hi) = int_le lo hi && int_lt (hi -ℤ lo) (pos (2 ^ 32))
has_options s (instr.Select r first count) = nat_lt 0 count && are_truths (take count (drop first s.ranges)) && both_in (Some (from_to (pos 0) (pos count))) (slice_get s.ranges r)
has_options s _ = true

-- ---- V13: a delay fits

abbrev pub delay_fits : Site → Instr → Bool
delay_fits s (instr.Start timer a) = both_in (slice_get s.ranges a) (Some delay_range)
delay_fits s _ = true
