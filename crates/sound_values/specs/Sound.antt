-- What holds of the value of an expression that has an interval and whose indexes lie within their arrays.
use Rattle.std.specs.Prelude.{◌≡◌, ℤ, List, Some}
use Rattle.tap_base.specs.declared.place.Range.{Range}
use Rattle.tap_base.specs.declared.tree.Expr.{Expr}
use Rattle.tap_base.specs.Interval.{IsIn, interval_of}
use Rattle.tap_base.specs.Ranges.{AreAllIn}
use Rattle.tap_base.specs.Resolved.{IsResolvedExpr}
use Rattle.tap_base.specs.Scope.{Scope}
use Rattle.tap_exec.specs.Computed.{computed}
use Rattle.tap_exec.specs.Value.{value_of}
use Rattle.sound_values.specs.Indexes.{IndexesAreWithin}

-- the cells, the inputs and the received values are within the ranges of what can be read
pub record AreRead (s : Scope) (cells inputs received : List ℤ) : Type 0 where
  pub of_cells : AreAllIn s.cells cells
  pub of_inputs : AreAllIn s.inputs inputs
  pub of_received : AreAllIn s.fields received

-- The expression has an interval, so that each operation in it has one and no divisor may be 0, and each index in it lies
-- within its array.
pub record IsJudged (s : Scope) (e : Expr) (range : Range) : Type 0 where
  pub interval : interval_of e s.cells s.inputs s.fields ≡ Some range
  pub indexes : IndexesAreWithin s e

-- The value lies in the interval, and 64-bit numbers compute it: no operation leaves them, no divisor is 0 and no index
-- leaves its array.
pub record IsSound (s : Scope) (cells inputs received : List ℤ) (e : Expr) (range : Range) : Type 0 where
  pub within : IsIn (value_of e cells inputs received) range
  pub computes : computed e cells inputs received ≡ Some (value_of e cells inputs received)

-- Each resolved expression that is judged right is sound, whatever fitting values it reads.
abbrev pub ValuesAreSound : Type 0
ValuesAreSound =
    (s : Scope) (cells inputs received : List ℤ) (e : Expr) (range : Range) → AreRead s cells inputs received → IsResolvedExpr s e → IsJudged s e range
    → IsSound s cells inputs received e range
