-- Where truths are due, there are truths: at guards, and at the operands of `and`, `or` and `not`.
use Rattle.std.specs.Prelude.{Option, Some, None, IfSome, slice_get}
use Rattle.tap_base.specs.declared.place.Range.{Range}
use Rattle.tap_base.specs.declared.system.Guard.{Guard}
use Rattle.tap_base.specs.declared.system.Guard.TheVariants as guard
use Rattle.tap_base.specs.declared.tree.Expr.{Expr}
use Rattle.tap_base.specs.declared.tree.Target.{Target}
use Rattle.tap_base.specs.Interval.{IsWithin, from_to, truth_range}
use Rattle.tap_base.specs.Lists.{Each}
use Rattle.tap_base.specs.Parts.{Leaf, number, cell, array, input, part, Deed, assign, choose, send, start, stop, test, turns}
use Rattle.tap_base.specs.Roots.{Root, leaf, truth, amount, roots}
use Rattle.tap_base.specs.Scope.{Scope}

-- ---- expressions

-- the values that what is named may have
abbrev pub leaf_range : Scope → Leaf → Option Range
leaf_range s (number n) = Some (from_to n n)
leaf_range s (cell k) = slice_get s.cells k
leaf_range s (array first length) = slice_get s.cells first
leaf_range s (input k) = slice_get s.inputs k
leaf_range s (part k) = slice_get s.fields k

-- no value but 0 and 1
abbrev pub IsOfTruths : Option Range → Type 0
IsOfTruths None = ⊥
IsOfTruths (Some range) = IsWithin range truth_range

-- what is worked out as one, or what is named and has no value but 0 and 1
abbrev pub IsTruth : Scope → Root → Type 0
IsTruth s (leaf l) = IsOfTruths (leaf_range s l)
IsTruth s truth = Unit {0}
IsTruth s amount = ⊥

-- the operands of `and`, `or` and `not` in it are truths
abbrev pub StandsOnTruths : Scope → Expr → Type 0
StandsOnTruths s e = Each (IsTruth s) (roots e).tested

-- an expression that says yes or no
abbrev pub IsTest : Scope → Expr → Type 0
IsTest s e = IsTruth s (roots e).root × StandsOnTruths s e

-- ---- statements

abbrev pub IndexStandsOnTruths : Scope → Target → Type 0
IndexStandsOnTruths s t = IfSome t.index (StandsOnTruths s)

-- each expression of a deed stands on truths, and a guard is a test
abbrev pub DeedHasTruths : Scope → Deed → Type 0
DeedHasTruths s (assign targets values) = Each (IndexStandsOnTruths s) targets × Each (StandsOnTruths s) values
DeedHasTruths s (choose target) = IndexStandsOnTruths s target
DeedHasTruths s (send m values q) = Each (StandsOnTruths s) values
DeedHasTruths s (start t delay) = StandsOnTruths s delay
DeedHasTruths s (stop t) = Unit {0}
DeedHasTruths s (test guard) = IsTest s guard
DeedHasTruths s (turns n) = Unit {0}

-- a local guard of an action is a test
abbrev pub GuardIsTest : Scope → Guard → Type 0
GuardIsTest s (guard.Local e) = IsTest s e
GuardIsTest s (guard.Receive m q) = Unit {0}
GuardIsTest s (guard.Timeout t) = Unit {0}
