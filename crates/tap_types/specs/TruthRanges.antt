-- A test has no value but 0 and 1.
use Rattle.std.specs.Prelude.{◌≡◌, Some}
use Rattle.tap_base.specs.declared.place.Range.{Range}
use Rattle.tap_base.specs.declared.tree.Expr.{Expr}
use Rattle.tap_base.specs.Interval.{IsWithin, interval_of, truth_range}
use Rattle.tap_base.specs.Scope.{Scope}
use Rattle.tap_base.specs.Truths.{IsTest}

-- The interval of a test, where it has one, lies within 0 to 1.
abbrev pub TestsAreTruths : Type 0
TestsAreTruths = (s : Scope) (e : Expr) (range : Range) → IsTest s e → interval_of e s.cells s.inputs s.fields ≡ Some range → IsWithin range truth_range
