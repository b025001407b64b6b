-- The offences of declarations worked on small trees.
use Rattle.std.proofs.Common.{refl}
use Rattle.tap_names.specs.WorkedDeclarations.{BoundsInOrder, CellsPassLast, FixedValueTooLarge, InputIsNoBound, LengthBeforeTwice, NoCells, ReversedRange, TwiceDeclared}

pub reversed_range : ReversedRange
reversed_range a b = refl

pub twice_declared : TwiceDeclared
twice_declared a b c = refl

pub bounds_in_order : BoundsInOrder
bounds_in_order a b c d = refl

pub no_cells : NoCells
no_cells a = refl

pub cells_pass_last : CellsPassLast
cells_pass_last a = refl

pub length_before_twice : LengthBeforeTwice
length_before_twice a = refl

pub fixed_value_too_large : FixedValueTooLarge
fixed_value_too_large a b = refl

pub input_is_no_bound : InputIsNoBound
input_is_no_bound a b c d e f = refl
