-- The rules that declarations keep: limits and names, ranges, and guards.
use Rattle.std.specs.Prelude.{ℕ, ◌^◌, ◌==◌, Bool, true, false, not, ◌&&◌, ◌||◌, nat_lt, nat_le, int_le, List, [], ◌∷◌, ◌++◌, map, sum, length, slice_get, Option, Some, None}
use Rattle.std.specs.List.{list_all, list_any}
use Rattle.std.specs.Char.{is_ascii_alphabetic, is_ascii_digit}
use Rattle.std.specs.Str.{bytes_eq}
use Rattle.tap_base.specs.Interval.{truth_range}
use Rattle.register_code.specs.declared.code.Code.{Code}
use Rattle.register_code.specs.declared.code.CodeAction.{CodeAction}
use Rattle.register_code.specs.declared.code.CodeField.{CodeField}
use Rattle.register_code.specs.declared.code.CodeInput.{CodeInput}
use Rattle.register_code.specs.declared.code.CodeKind.{CodeKind}
use Rattle.register_code.specs.declared.code.CodeKind.TheVariants as kind
use Rattle.register_code.specs.declared.code.CodeMessage.{CodeMessage}
use Rattle.register_code.specs.declared.code.CodeProcess.{CodeProcess}
use Rattle.register_code.specs.declared.code.CodeTemporary.{CodeTemporary}
use Rattle.register_code.specs.declared.code.CodeVariable.{CodeVariable}
use Rattle.register_code.specs.declared.instr.Instr.{Instr}
use Rattle.register_code.specs.Registers.{register_ranges}
use Rattle.register_code.specs.Sites.{both_in}

-- ---- V1: limits and names

-- letters, digits and `_`
abbrev pub in_name : ℕ → Bool
in_name b = is_ascii_alphabetic b || (is_ascii_digit b || (b == 95))

-- 1 to 64 bytes: a letter, then letters, digits or _
abbrev pub is_name : List ℕ → Bool
is_name [] = false
is_name (c ∷ cs) = is_ascii_alphabetic c && list_all in_name cs && nat_lt (length cs) 64

-- the name is one of these
abbrev pub is_one_of : List ℕ → List (List ℕ) → Bool
is_one_of x others = list_any (λ y. bytes_eq x y) others

-- each name is none of those before it, and none of the first list
abbrev pub are_new : List (List ℕ) → List (List ℕ) → Bool
are_new before [] = true
are_new before (x ∷ xs) = not (is_one_of x before) && are_new (before ++ x ∷ []) xs

abbrev pub all_differ : List (List ℕ) → Bool
all_differ names = are_new [] names

-- A list has at most so many.
abbrev pub at_most : {A : Type 0} → ℕ → List A → Bool
at_most n xs = nat_le (length xs) n

abbrev pub action_limits : CodeAction → Bool
action_limits a = nat_lt (length a.temporaries) (2 ^ 32) && nat_lt (length a.guard) (2 ^ 32) && nat_lt (length a.body) (2 ^ 32)

abbrev pub cells_within : List CodeVariable → Bool
cells_within variables = nat_le (sum (map (λ (v : CodeVariable). v.cells) variables)) 4096

-- inputs and variables share one space of names
abbrev pub names_of : CodeProcess → List (List ℕ)
names_of p = map (λ (i : CodeInput). i.name) p.inputs ++ map (λ (v : CodeVariable). v.name) p.variables

-- how many inputs, variables, cells, timers and actions there may be
abbrev pub counts_fit : CodeProcess → Bool
counts_fit p = at_most 256 p.inputs && at_most 65535 p.variables && cells_within p.variables && nat_le p.timers 32 && at_most 256 p.actions

-- All are names, and no two are one.
abbrev pub names_fit : List (List ℕ) → Bool
names_fit names = list_all is_name names && all_differ names

abbrev pub process_limits : CodeProcess → Bool
process_limits p = is_name p.name && counts_fit p && names_fit (names_of p) && list_all action_limits p.actions

abbrev pub message_limits : CodeMessage → Bool
message_limits m = is_name m.name && at_most 256 m.fields

abbrev pub program_counts_fit : Code → Bool
program_counts_fit code = at_most 256 code.messages && nat_lt 0 (length code.processes) && at_most 64 code.processes

abbrev pub limits_kept : Code → Bool
limits_kept code =
    program_counts_fit code && list_all message_limits code.messages && list_all process_limits code.processes && all_differ (map (λ (p : CodeProcess). p.name) code.processes)

-- ---- V2: ranges and widths

abbrev pub field_fits : CodeField → Bool
field_fits f = nat_le 1 f.width && nat_le f.width 63 && fixed_fits f.fixed where
  fixed_fits : Option ℕ → Bool
  fixed_fits None = true
  fixed_fits (Some v) = nat_lt v (2 ^ f.width)

abbrev pub fields_fit : Code → Bool
fields_fit code = list_all (λ (m : CodeMessage). list_all field_fits m.fields) code.messages

abbrev pub input_fits : CodeInput → Bool
input_fits i = int_le i.lo i.hi

abbrev pub variable_fits : CodeVariable → Bool
variable_fits v = nat_lt 0 v.cells && int_le v.lo v.initial && int_le v.initial v.hi

abbrev pub values_fit : CodeProcess → Bool
values_fit p = list_all input_fits p.inputs && list_all variable_fits p.variables

abbrev pub temporary_fits : CodeTemporary → Bool
temporary_fits t = int_le t.lo t.hi

abbrev pub temporaries_fit : CodeAction → Bool
temporaries_fit a = list_all temporary_fits a.temporaries

-- ---- V3: a guard's kind and its numbers agree

abbrev pub is_empty : List Instr → Bool
is_empty [] = true
is_empty (i ∷ is) = false

abbrev pub guard_fits : Code → ℕ → CodeProcess → CodeAction → Bool
guard_fits code p process a = by_kind a.kind where
  by_kind : CodeKind → Bool
  by_kind kind.Local = a.a == 0 && a.b == 0 && both_in (slice_get (register_ranges process a.temporaries) a.result) (Some truth_range)
  by_kind kind.Receive = nat_lt a.a (length code.messages) && nat_lt a.b (length code.processes) && not (a.b == p) && is_empty a.guard && a.result == 0
  by_kind kind.Timeout = nat_lt a.a process.timers && a.b == 0 && is_empty a.guard && a.result == 0
