-- The indexes in an expression, by their intervals.
use Rattle.std.specs.Prelude.{ℕ, IfSome, List, [], ◌∷◌, ◌++◌, Option}
use Rattle.tap_base.specs.declared.place.Range.{Range}
use Rattle.tap_base.specs.declared.tree.Expr.{Expr}
use Rattle.tap_base.specs.declared.tree.ExprKind.{map-ExprKind}
use Rattle.tap_base.specs.declared.tree.ExprKind.TheFolds.{fold-Expr}
use Rattle.tap_base.specs.declared.tree.ExprKind.TheOpen.{ExprKind-F}
use Rattle.tap_base.specs.Interval.{Interval, IsWithin, index_range, interval_step}
use Rattle.tap_base.specs.Lists.{Each}
use Rattle.tap_base.specs.Scope.{Scope}

-- an index into an array of so many elements, with its interval
pub record Index : Type 0 where
  pub count : ℕ
  pub interval : Option Range

-- what is seen of an expression: its interval, and the indexes in it
pub record Seen : Type 0 where
  pub interval : Interval
  pub indexes : Scope → List Index

abbrev pub interval_by : Scope → Interval → Option Range
interval_by s interval = interval s.cells s.inputs s.fields

abbrev pub interval_seen : ExprKind-F Seen Seen → Interval
interval_seen x = interval_step (map-ExprKind Seen Seen Interval Interval (λ (e : Seen). e.interval) (λ (e : Seen). e.interval) x)

abbrev pub indexes_seen : ExprKind-F Seen Seen → Scope → List Index
indexes_seen (ExprKind-F.Element first count index) s = record { count = count; interval = interval_by s index.interval } ∷ index.indexes s
indexes_seen (ExprKind-F.Not e) s = e.indexes s
indexes_seen (ExprKind-F.Neg e) s = e.indexes s
indexes_seen (ExprKind-F.Binary op left right) s = left.indexes s ++ right.indexes s
indexes_seen _ s = []

-- one level of an expression, with what is seen of its parts in their places
abbrev pub seen_step : ExprKind-F Seen Seen → Seen
seen_step x = record { interval = interval_seen x; indexes = indexes_seen x }

abbrev pub seen : Expr → Seen
seen = fold-Expr Seen Seen seen_step (λ e. e.kind)

-- ---- indexes

-- where the index has an interval, this lies within the array
abbrev pub IsWithinArray : Index → Type 0
IsWithinArray index = IfSome index.interval (λ range. IsWithin range (index_range index.count))

abbrev pub IndexesAreWithin : Scope → Expr → Type 0
IndexesAreWithin s e = Each IsWithinArray ((seen e).indexes s)
