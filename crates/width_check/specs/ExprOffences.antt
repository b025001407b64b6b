-- How an expression is judged: its interval, where it has one, and the offences within it, operands before operations.
use Rattle.std.specs.Prelude.{ℕ, Bool, true, false, not, ◌&&◌, if◌then◌else◌, int_le, List, [], ◌++◌, Option, Some, None, option_and_then, slice_get}
use Rattle.std.specs.Option.{option_map}
use Rattle.tap_base.specs.declared.place.Place.{Place}
use Rattle.tap_base.specs.declared.place.Range.{Range}
use Rattle.tap_base.specs.declared.refusal.Refusal.{Refusal}
use Rattle.tap_base.specs.declared.refusal.RefusalCode.{RefusalCode}
use Rattle.tap_base.specs.declared.refusal.RefusalCode.TheVariants.{W2, W3, W4}
use Rattle.tap_base.specs.declared.tree.Expr.{Expr}
use Rattle.tap_base.specs.declared.tree.ExprKind.TheFolds.{fold-Expr}
use Rattle.tap_base.specs.declared.tree.ExprKind.TheOpen.{ExprKind-F, Expr-F}
use Rattle.tap_base.specs.declared.tree.Op.{Op}
use Rattle.tap_base.specs.declared.tree.Op.TheVariants.{Div, Mod}
use Rattle.tap_base.specs.Interval.{bounded, has_zero, index_range, negation_range, operation_range, truth_range}
use Rattle.tap_base.specs.Offences.{offence, where_}
use Rattle.tap_base.specs.Scope.{Scope}

-- an expression as it is judged: where its root stands, its interval, and its offences in text order
pub record Judged : Type 0 where
  pub place : Place
  pub interval : Option Range
  pub offences : List Refusal

-- the same of a root whose place is not told yet
pub record Verdict : Type 0 where
  pub interval : Option Range
  pub offences : List Refusal

abbrev pub verdict : Option Range → List Refusal → Verdict
verdict interval offences = record { interval = interval; offences = offences }

-- ---- one interval

-- all of a lies in b
abbrev pub lies_within : Range → Range → Bool
lies_within a b = int_le b.lo a.lo && int_le a.hi b.hi

-- An offence where there is an interval, and it does not lie within the range. Where there is none, an offence stands
-- before.
abbrev pub where_wider : Option Range → Range → RefusalCode → Place → List Refusal
where_wider None range c p = []
where_wider (Some a) range c p = where_ (not (lies_within a range)) c p

-- an offence where there is no interval
abbrev pub where_none : Option Range → RefusalCode → Place → List Refusal
where_none None c p = offence c p
where_none (Some a) c p = []

-- ---- operations

-- those of an index, and then whether it stays within its array
abbrev pub index_offences : ℕ → Judged → List Refusal
index_offences length index = index.offences ++ where_wider index.interval (index_range length) W3 index.place

abbrev pub negation_offences : Option Range → Place → List Refusal
negation_offences None p = []
negation_offences (Some a) p = where_none (negation_range a) W4 p

abbrev pub is_division : Op → Bool
is_division Div = true
is_division Mod = true
is_division _ = false

-- a divisor that may be 0, or else a bound that leaves 64 bits
abbrev pub bounds_offences : Op → Range → Range → Place → Place → List Refusal
bounds_offences op a b divisor p = if is_division op && has_zero b then offence W2 divisor else where_none (operation_range op a b) W4 p

abbrev pub operation_offences : Op → Option Range → Option Range → Place → Place → List Refusal
operation_offences op (Some a) (Some b) divisor p = bounds_offences op a b divisor p
operation_offences op _ _ divisor p = []

abbrev pub operation_interval : Op → Option Range → Option Range → Option Range
operation_interval op a b = option_and_then (λ x. option_and_then (λ y. operation_range op x y) b) a

-- ---- expressions

-- one level of an expression, by how its parts are judged
abbrev pub judged_step : Scope → ExprKind-F (Place → Verdict) Judged → Place → Verdict
judged_step s (ExprKind-F.Number n) p = verdict (bounded n n) []
judged_step s (ExprKind-F.Cell k) p = verdict (slice_get s.cells k) []
judged_step s (ExprKind-F.Element first length index) p = verdict (option_and_then (λ i. slice_get s.cells first) index.interval) (index_offences length index)
judged_step s (ExprKind-F.Input k) p = verdict (slice_get s.inputs k) []
judged_step s (ExprKind-F.Part k) p = verdict (slice_get s.fields k) []
judged_step s (ExprKind-F.Not e) p = verdict (option_map (λ a. truth_range) e.interval) e.offences
judged_step s (ExprKind-F.Neg e) p = verdict (option_and_then negation_range e.interval) (e.offences ++ negation_offences e.interval p)
judged_step s (ExprKind-F.Binary op left right) p =
    verdict (operation_interval op left.interval right.interval)
    (left.offences ++ right.offences ++ operation_offences op left.interval right.interval right.place p)

abbrev pub judged_root : Expr-F (Place → Verdict) Judged → Judged
judged_root e = record { place = e.place; interval = (e.kind e.place).interval; offences = (e.kind e.place).offences }

-- how an expression is judged
abbrev pub judged : Scope → Expr → Judged
judged s = fold-Expr (Place → Verdict) Judged (judged_step s) judged_root

-- the offences within an expression
abbrev pub expr_offences : Scope → Expr → List Refusal
expr_offences s e = (judged s e).offences
