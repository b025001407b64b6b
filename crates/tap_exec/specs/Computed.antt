-- The value of an expression as 64-bit numbers compute it, or none where a part of it does not fit.
use Rattle.std.specs.Prelude.{ℕ, ◌+◌, ℤ, pos, neg_ℤ, Bool, not, ◌&&◌, if◌then◌else◌, List, Option, Some, None, slice_get, int_lt, int_le, unsigned_abs}
use Rattle.std.specs.Ordering.{int_eq}
use Rattle.tap_base.specs.declared.tree.Op.{Op}
use Rattle.tap_base.specs.declared.tree.Op.TheVariants.{Div, Mod}
use Rattle.tap_base.specs.declared.tree.Expr.{Expr}
use Rattle.tap_base.specs.declared.tree.ExprKind.TheFolds.{fold-Expr}
use Rattle.tap_base.specs.declared.tree.ExprKind.TheOpen.{ExprKind-F}
use Rattle.tap_base.specs.Interval.{fits}
use Rattle.tap_base.specs.Option.{◌>>=◌, provided}
use Rattle.tap_exec.specs.Value.{truth, is_true, operation}

-- an operation whose result fits, with no divisor 0; a remainder always fits
abbrev pub can_apply : Op → ℤ → ℤ → Bool
can_apply Div x y = not (int_eq y (pos 0)) && fits (operation Div x y)
can_apply Mod x y = not (int_eq y (pos 0))
can_apply op x y = fits (operation op x y)

abbrev pub negated : ℤ → Option ℤ
negated x = provided (fits (neg_ℤ x)) (neg_ℤ x)

abbrev pub applied : Op → ℤ → ℤ → Option ℤ
applied op x y = provided (can_apply op x y) (operation op x y)

abbrev pub element : List ℤ → ℕ → ℕ → ℤ → Option ℤ
element cells first length i = if int_le (pos 0) i && int_lt i (pos length) then slice_get cells (first + unsigned_abs i) else None

abbrev pub Computed : Type 0
Computed = List ℤ → List ℤ → List ℤ → Option ℤ

-- one level of an expression, with what its parts give in their places
abbrev pub computed_step : ExprKind-F Computed Computed → Computed
computed_step (ExprKind-F.Number n) cells inputs received = Some n
computed_step (ExprKind-F.Cell k) cells inputs received = slice_get cells k
computed_step (ExprKind-F.Element first length index) cells inputs received = index cells inputs received >>= element cells first length
computed_step (ExprKind-F.Input k) cells inputs received = slice_get inputs k
computed_step (ExprKind-F.Part k) cells inputs received = slice_get received k
computed_step (ExprKind-F.Not e) cells inputs received = e cells inputs received >>= λ x. Some (truth (not (is_true x)))
computed_step (ExprKind-F.Neg e) cells inputs received = e cells inputs received >>= negated
computed_step (ExprKind-F.Binary op left right) cells inputs received =
    left cells inputs received >>= λ x. right cells inputs received >>= λ y. applied op x y

abbrev pub computed : Expr → Computed
computed = fold-Expr Computed Computed computed_step (λ e. e.kind)
