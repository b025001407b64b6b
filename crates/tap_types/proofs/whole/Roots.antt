-- The leaves and the roots of an expression, one level down.
use Rattle.std.proofs.Common.{◌≡◌, ℕ, ℤ, [], ◌∷◌, ◌++◌, rules}
use Rattle.tap_base.specs.declared.place.Place.{Place}
use Rattle.tap_base.specs.declared.tree.Op.{Op}
use Rattle.tap_base.specs.declared.tree.Expr.{Expr}
use Rattle.tap_base.specs.declared.tree.ExprKind.{the_lemmas}
use Rattle.tap_base.specs.declared.tree.ExprKind.TheVariants as expr
use Rattle.tap_base.specs.Parts.{leaves, number, cell, array, input, part}
use Rattle.tap_types.specs.Systems.{node}
use Rattle.tap_base.specs.Roots.{roots, rooted, leaf, truth, amount, given_root, tested_by}

module _ (p : Place) where
  pub leaves_number : (n : ℤ) → leaves (node p (expr.Number n)) ≡ (number n ∷ [])
  leaves_number n = search (rules, the_lemmas)

  pub leaves_cell : (k : ℕ) → leaves (node p (expr.Cell k)) ≡ (cell k ∷ [])
  leaves_cell k = search (rules, the_lemmas)

  pub leaves_element : (first length : ℕ) (i : Expr) → leaves (node p (expr.Element first length i)) ≡ (array first length ∷ leaves i)
  leaves_element first length i = search (rules, the_lemmas)

  pub leaves_input : (k : ℕ) → leaves (node p (expr.Input k)) ≡ (input k ∷ [])
  leaves_input k = search (rules, the_lemmas)

  pub leaves_part : (k : ℕ) → leaves (node p (expr.Part k)) ≡ (part k ∷ [])
  leaves_part k = search (rules, the_lemmas)

  pub leaves_not : (a : Expr) → leaves (node p (expr.Not a)) ≡ leaves a
  leaves_not a = search (rules, the_lemmas)

  pub leaves_neg : (a : Expr) → leaves (node p (expr.Neg a)) ≡ leaves a
  leaves_neg a = search (rules, the_lemmas)

  pub leaves_binary : (o : Op) (a b : Expr) → leaves (node p (expr.Binary o a b)) ≡ (leaves a ++ leaves b)
  leaves_binary o a b = search (rules, the_lemmas)

  pub roots_number : (n : ℤ) → roots (node p (expr.Number n)) ≡ rooted (leaf (number n)) []
  roots_number n = search (rules, the_lemmas)

  pub roots_cell : (k : ℕ) → roots (node p (expr.Cell k)) ≡ rooted (leaf (cell k)) []
  roots_cell k = search (rules, the_lemmas)

  pub roots_element : (first length : ℕ) (i : Expr) → roots (node p (expr.Element first length i)) ≡ rooted (leaf (array first length)) (roots i).tested
  roots_element first length i = search (rules, the_lemmas)

  pub roots_input : (k : ℕ) → roots (node p (expr.Input k)) ≡ rooted (leaf (input k)) []
  roots_input k = search (rules, the_lemmas)

  pub roots_part : (k : ℕ) → roots (node p (expr.Part k)) ≡ rooted (leaf (part k)) []
  roots_part k = search (rules, the_lemmas)

  pub roots_not : (a : Expr) → roots (node p (expr.Not a)) ≡ rooted truth ((roots a).root ∷ (roots a).tested)
  roots_not a = search (rules, the_lemmas)

  pub roots_neg : (a : Expr) → roots (node p (expr.Neg a)) ≡ rooted amount (roots a).tested
  roots_neg a = search (rules, the_lemmas)

  pub roots_binary : (o : Op) (a b : Expr) → roots (node p (expr.Binary o a b)) ≡ rooted (given_root o) (tested_by o (roots a).root (roots b).root ++ ((roots a).tested ++ (roots b).tested))
  roots_binary o a b = search (rules, the_lemmas)
