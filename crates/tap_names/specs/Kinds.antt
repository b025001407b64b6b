-- What values are: truths or numbers.
use Rattle.std.specs.Prelude.{ℕ, Bool, true, false, Option, Some, None, unsigned_abs}
use Rattle.tap_base.specs.declared.ast.AstScalar.{AstScalar}
use Rattle.tap_base.specs.declared.ast.AstScalar.TheVariants as scalar
use Rattle.tap_base.specs.declared.ast.AstType.{AstType}
use Rattle.tap_base.specs.declared.ast.AstType.TheVariants as type_of
use Rattle.tap_base.specs.declared.tree.Op.{Op}
use Rattle.tap_base.specs.declared.tree.Op.TheVariants as op
use Rattle.tap_names.specs.declared.named.Kind.{Kind}
use Rattle.tap_names.specs.declared.named.Kind.TheVariants.{Boolean, Number}

abbrev pub same_kind : Kind → Kind → Bool
same_kind Boolean Boolean = true
same_kind Number Number = true
same_kind _ _ = false

abbrev pub kind_of_scalar : AstScalar → Kind
kind_of_scalar scalar.Boolean = Boolean
kind_of_scalar (scalar.Between lo hi) = Number

-- what one cell of a type is
abbrev pub scalar_of : AstType → AstScalar
scalar_of (type_of.Scalar s) = s
scalar_of (type_of.Array length s) = s

-- how many cells a variable of a type has
abbrev pub cells_of : AstType → ℕ
cells_of (type_of.Scalar s) = 1
cells_of (type_of.Array length s) = unsigned_abs length

-- what both operands of an operation have to be; `=` and `!=` take any two of one kind
abbrev pub taken_by : Op → Option Kind
taken_by op.Or = Some Boolean
taken_by op.And = Some Boolean
taken_by op.Eq = None
taken_by op.Ne = None
taken_by _ = Some Number

-- what an operation gives
abbrev pub given_by : Op → Kind
given_by op.Or = Boolean
given_by op.And = Boolean
given_by op.Eq = Boolean
given_by op.Ne = Boolean
given_by op.Lt = Boolean
given_by op.Le = Boolean
given_by op.Gt = Boolean
given_by op.Ge = Boolean
given_by _ = Number
