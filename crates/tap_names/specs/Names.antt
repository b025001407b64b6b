-- What declarations name: messages, constants, inputs, variables and timers.
use Rattle.std.specs.Prelude.{ℕ, ◌+◌, ℤ, pos, List, [], ◌∷◌, ◌++◌, map, Option, Some, None, unsigned_abs}
use Rattle.tap_base.specs.declared.place.Range.{Range}
use Rattle.tap_base.specs.declared.ast.Ident.{Ident}
use Rattle.tap_base.specs.declared.ast.AstConst.{AstConst}
use Rattle.tap_base.specs.declared.ast.AstField.{AstField}
use Rattle.tap_base.specs.declared.ast.AstMessage.{AstMessage}
use Rattle.tap_base.specs.declared.ast.AstProcess.{AstProcess}
use Rattle.tap_base.specs.declared.ast.AstScalar.{AstScalar}
use Rattle.tap_base.specs.declared.ast.AstScalar.TheVariants as scalar
use Rattle.tap_base.specs.declared.ast.AstType.{AstType}
use Rattle.tap_base.specs.declared.ast.AstType.TheVariants as type_of
use Rattle.tap_base.specs.declared.ast.AstVar.{AstVar}
use Rattle.tap_base.specs.declared.ast.Bound.{Bound}
use Rattle.tap_base.specs.declared.ast.Bound.TheVariants as bound
use Rattle.tap_base.specs.declared.system.Field.{Field}
use Rattle.tap_base.specs.declared.system.Message.{Message}
use Rattle.tap_base.specs.declared.system.Var.{Var}
use Rattle.tap_base.specs.Option.{◌>>=◌}
use Rattle.tap_names.specs.declared.named.Named.{Named}
use Rattle.tap_names.specs.declared.named.Named.TheVariants as named
use Rattle.tap_names.specs.Kinds.{kind_of_scalar, scalar_of, cells_of}
use Rattle.tap_base.specs.ListWords.{by_number}
use Rattle.tap_names.specs.Tables.{Entry, standing_for}

-- ---- messages

-- a width that a text writes is never negative
abbrev pub field_of : AstField → Field
field_of f = record { name = f.name.text; width = unsigned_abs f.width; fixed = f.fixed }

abbrev pub message_of : AstMessage → Message
message_of m = record { name = m.name.text; place = m.name.place; fields = map field_of m.fields }

-- ---- constants and bounds

abbrev pub constants : List AstConst → List (Entry Named)
constants consts = map (λ c. (c.name.text, named.Constant c.value)) consts

abbrev pub constant_value : Option Named → Option ℤ
constant_value (Some (named.Constant v)) = Some v
constant_value _ = None

-- the value of a bound: a number, or a constant among the names that are declared before it
abbrev pub bound_value : List (Entry Named) → Bound → Option ℤ
bound_value names (bound.Number n) = Some n
bound_value names (bound.Name x) = constant_value (standing_for x.text names)

-- the values of a scalar: 0 and 1, or those between two bounds
abbrev pub range_of : List (Entry Named) → AstScalar → Option Range
range_of names scalar.Boolean = Some (record { lo = pos 0; hi = pos 1 })
range_of names (scalar.Between lo hi) = do
  l ← bound_value names lo
  h ← bound_value names hi
  Some (record { lo = l; hi = h })

-- the value that is written, or the least one
abbrev pub initial_of : List (Entry Named) → Range → Option Bound → Option ℤ
initial_of names range None = Some range.lo
initial_of names range (Some b) = bound_value names b

-- ---- inputs and variables

-- an input is one scalar
abbrev pub input_of : List (Entry Named) → AstVar → Option Var
input_of names v = do
  range ← range_of names (scalar_of v.kind)
  Some (record { name = v.name.text; range = range; cells = 1; initial = range.lo })

abbrev pub var_of : List (Entry Named) → AstVar → Option Var
var_of names v = do
  range ← range_of names (scalar_of v.kind)
  initial ← initial_of names range v.initial
  Some (record { name = v.name.text; range = range; cells = cells_of v.kind; initial = initial })

-- ---- names

abbrev pub input_entry : ℕ → AstVar → Entry Named
input_entry n v = (v.name.text, named.Input n (kind_of_scalar (scalar_of v.kind)))

-- inputs, numbered from n
abbrev pub input_names : ℕ → List AstVar → List (Entry Named)
input_names n vars = by_number n (λ k v. input_entry k v ∷ []) vars

-- what a variable's name stands for, by its first cell and its range
abbrev pub variable_named : ℕ → Range → AstType → Named
variable_named k range (type_of.Scalar s) = named.Variable k (kind_of_scalar s) range
variable_named k range (type_of.Array length s) = named.Array k (cells_of (type_of.Array length s)) (kind_of_scalar s) range

-- variables, whose cells count from k
abbrev pub variable_names : List (Entry Named) → ℕ → List AstVar → Option (List (Entry Named))
variable_names names k [] = Some []
variable_names names k (v ∷ vs) = do
  range ← range_of names (scalar_of v.kind)
  rest ← variable_names names (k + cells_of v.kind) vs
  Some ((v.name.text, variable_named k range v.kind) ∷ rest)

abbrev pub timer_entry : ℕ → Ident → Entry Named
timer_entry n t = (t.text, named.Timer n)

-- timers, numbered from n
abbrev pub timer_names : ℕ → List Ident → List (Entry Named)
timer_names n timers = by_number n (λ k t. timer_entry k t ∷ []) timers

-- all names of a process in the order of their declarations, where each bound has a value
abbrev pub names_of : AstProcess → Option (List (Entry Named))
names_of p = do
  variables ← variable_names (constants p.consts) 0 p.vars
  Some (constants p.consts ++ (input_names 0 p.inputs ++ variables ++ timer_names 0 p.timers))
