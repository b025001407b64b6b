-- The roots of expressions, and which of them have to be truths.
use Rattle.std.specs.Prelude.{List, [], ◌∷◌, ◌++◌}
use Rattle.tap_base.specs.declared.tree.Expr.{Expr}
use Rattle.tap_base.specs.declared.tree.ExprKind.TheFolds.{fold-Expr}
use Rattle.tap_base.specs.declared.tree.ExprKind.TheOpen.{ExprKind-F}
use Rattle.tap_base.specs.declared.tree.Op.{Op}
use Rattle.tap_base.specs.declared.tree.Op.TheVariants as op
use Rattle.tap_base.specs.Parts.{Leaf, number, cell, array, input, part}

-- what an expression is at its root: something that is named, or a truth or an amount that is worked out
pub data Root : Type 0 where
  leaf : Leaf → Root
  truth : Root
  amount : Root

-- the root of an expression, and the roots of all operands in it that have to be truths
pub record Rooted : Type 0 where
  pub root : Root
  pub tested : List Root

abbrev pub rooted : Root → List Root → Rooted
rooted r tested = record { root = r; tested = tested }

abbrev pub given_root : Op → Root
given_root op.Or = truth
given_root op.And = truth
given_root op.Eq = truth
given_root op.Ne = truth
given_root op.Lt = truth
given_root op.Le = truth
given_root op.Gt = truth
given_root op.Ge = truth
given_root _ = amount

-- `or` and `and` stand on truths
abbrev pub tested_by : Op → Root → Root → List Root
tested_by op.Or a b = a ∷ b ∷ []
tested_by op.And a b = a ∷ b ∷ []
tested_by _ a b = []

-- one level of an expression, with the roots of its parts in their places
abbrev pub roots_step : ExprKind-F Rooted Rooted → Rooted
roots_step (ExprKind-F.Number n) = rooted (leaf (number n)) []
roots_step (ExprKind-F.Cell k) = rooted (leaf (cell k)) []
roots_step (ExprKind-F.Element first length index) = rooted (leaf (array first length)) index.tested
roots_step (ExprKind-F.Input k) = rooted (leaf (input k)) []
roots_step (ExprKind-F.Part k) = rooted (leaf (part k)) []
roots_step (ExprKind-F.Not e) = rooted truth (e.root ∷ e.tested)
roots_step (ExprKind-F.Neg e) = rooted amount e.tested
roots_step (ExprKind-F.Binary o a b) = rooted (given_root o) (tested_by o a.root b.root ++ (a.tested ++ b.tested))

abbrev pub roots : Expr → Rooted
roots = fold-Expr Rooted Rooted roots_step (λ e. e.kind)
