-- The offences of the constants, inputs, variables and timers that a process declares, each behind names that stand before it.
use Rattle.std.specs.Prelude.{ℕ, ◌+◌, ℤ, pos, Bool, true, not, ◌&&◌, nat_lt, int_le, List, [], ◌++◌, map, sum, Option, Some, None, is_none}
use Rattle.tap_base.specs.declared.place.Range.{Range}
use Rattle.tap_base.specs.declared.ast.Ident.{Ident}
use Rattle.tap_base.specs.declared.ast.AstConst.{AstConst}
use Rattle.tap_base.specs.declared.ast.AstScalar.{AstScalar}
use Rattle.tap_base.specs.declared.ast.AstScalar.TheVariants as scalar
use Rattle.tap_base.specs.declared.ast.AstType.{AstType}
use Rattle.tap_base.specs.declared.ast.AstType.TheVariants as type_of
use Rattle.tap_base.specs.declared.ast.AstVar.{AstVar}
use Rattle.tap_base.specs.declared.ast.Bound.{Bound}
use Rattle.tap_base.specs.declared.ast.Bound.TheVariants as bound
use Rattle.tap_base.specs.declared.refusal.Refusal.{Refusal}
use Rattle.tap_base.specs.declared.refusal.RefusalCode.TheVariants.{N1, X1, X2}
use Rattle.tap_base.specs.declared.system.Var.{Var}
use Rattle.tap_base.specs.Ranges.{is_within}
use Rattle.tap_names.specs.declared.named.Named.{Named}
use Rattle.tap_names.specs.Kinds.{cells_of, scalar_of}
use Rattle.tap_names.specs.Limits.{most_cells, most_inputs, most_timers}
use Rattle.tap_names.specs.NameOffences.{count_offences, name_offences}
use Rattle.tap_names.specs.Names.{constant_value, input_of, var_of}
use Rattle.tap_base.specs.Offences.{where_}
use Rattle.tap_names.specs.Tables.{Entry, names_in, standing_for}

-- ---- constants

abbrev pub const_names : List AstConst → List (List ℕ)
const_names consts = map (λ c. c.name.text) consts

-- a constant behind constants of these names
abbrev pub const_offences : List (List ℕ) → AstConst → List Refusal
const_offences before c = name_offences before c.name

-- ---- bounds

-- a name that is none of a constant
abbrev pub bound_offences : List (Entry Named) → Bound → List Refusal
bound_offences consts (bound.Number n) = []
bound_offences consts (bound.Name x) = where_ (is_none (constant_value (standing_for x.text consts))) N1 x.place

-- those of the low bound, then those of the high one
abbrev pub scalar_offences : List (Entry Named) → AstScalar → List Refusal
scalar_offences consts scalar.Boolean = []
scalar_offences consts (scalar.Between lo hi) = bound_offences consts lo ++ bound_offences consts hi

abbrev pub initial_offences : List (Entry Named) → Option Bound → List Refusal
initial_offences consts None = []
initial_offences consts (Some b) = bound_offences consts b

-- ---- values

-- a scalar is one cell, and an array has one or more
abbrev pub has_cells : AstType → Bool
has_cells (type_of.Scalar s) = true
has_cells (type_of.Array length s) = int_le (pos 1) length

-- the low bound is not above the high one, and the initial value is between them
abbrev pub are_sound : Range → ℤ → Bool
are_sound range initial = int_le range.lo range.hi && is_within range initial

-- the same of a variable; where there is none, a bound has no value, which is an offence already
abbrev pub is_sound : Option Var → Bool
is_sound None = true
is_sound (Some v) = are_sound v.range v.initial

-- ---- inputs and variables

abbrev pub var_names : List AstVar → List (List ℕ)
var_names vars = map (λ v. v.name.text) vars

-- an input behind these constants, and inputs of these names
abbrev pub input_offences : List (Entry Named) → List (List ℕ) → AstVar → List Refusal
input_offences consts before v =
    name_offences (names_in consts ++ before) v.name
    ++ count_offences most_inputs before v.name
    ++ scalar_offences consts (scalar_of v.kind)
    ++ where_ (not (is_sound (input_of consts v))) X2 v.name.place

-- how many cells variables have together
abbrev pub cells_among : List AstVar → ℕ
cells_among vars = sum (map (λ v. cells_of v.kind) vars)

-- a variable behind these constants, other names, and so many cells
abbrev pub variable_offences : List (Entry Named) → List (List ℕ) → ℕ → AstVar → List Refusal
variable_offences consts before cells v =
    name_offences (names_in consts ++ before) v.name
    ++ scalar_offences consts (scalar_of v.kind)
    ++ initial_offences consts v.initial
    ++ where_ (not (has_cells v.kind && is_sound (var_of consts v))) X2 v.name.place
    ++ where_ (nat_lt most_cells (cells + cells_of v.kind)) X1 v.name.place

-- ---- timers

abbrev pub idents : List Ident → List (List ℕ)
idents names = map (λ x. x.text) names

-- a timer behind these constants, other names, and timers of these names
abbrev pub timer_offences : List (Entry Named) → List (List ℕ) → List (List ℕ) → Ident → List Refusal
timer_offences consts others before t =
    name_offences (names_in consts ++ (others ++ before)) t
    ++ count_offences most_timers before t
