-- What is said of an expression, one level down.
use Rattle.std.proofs.Common.{◌≡◌, ℕ, ℤ, not, List, [], ◌∷◌, ◌++◌, slice_get, Option, Some, rules}
use Rattle.std.specs.Prelude.{neg_ℤ, option_and_then}
use Rattle.std.specs.Option.{option_map}
use Rattle.tap_base.specs.declared.place.Place.{Place}
use Rattle.tap_base.specs.declared.place.Range.{Range}
use Rattle.tap_base.specs.declared.tree.Op.{Op}
use Rattle.tap_base.specs.declared.tree.Expr.{Expr}
use Rattle.tap_base.specs.declared.tree.ExprKind.{the_lemmas}
use Rattle.tap_base.specs.declared.tree.ExprKind.TheOpen.{ExprKind-F}
use Rattle.tap_base.specs.declared.tree.ExprKind.TheVariants as kind
use Rattle.tap_base.specs.Interval.{bounded, interval_of, negation_range, operation_range, truth_range}
use Rattle.tap_base.specs.Option.{◌>>=◌}
use Rattle.tap_base.specs.Parts.{leaves, number, cell, array, input, part}
use Rattle.tap_base.specs.Scope.{Scope}
use Rattle.tap_exec.specs.Computed.{applied, computed, negated, element as element_computed}
use Rattle.tap_exec.specs.Value.{at, element, is_true, operation, truth, value_of}
use Rattle.sound_values.specs.Indexes.{seen, seen_step}
use Rattle.tap_base.proofs.ExprInduction.{expr}

abbrev pub interval_in : Scope → Expr → Option Range
interval_in s e = interval_of e s.cells s.inputs s.fields

abbrev pub operation_interval : Op → Option Range → Option Range → Option Range
operation_interval op a b = option_and_then (λ x. option_and_then (λ y. operation_range op x y) b) a

module _ (p : Place) where
  pub leaves_number : (n : ℤ) → leaves (expr (kind.Number n) p) ≡ (number n ∷ [])
  leaves_number n = search (rules, the_lemmas)

  pub leaves_cell : (k : ℕ) → leaves (expr (kind.Cell k) p) ≡ (cell k ∷ [])
  leaves_cell k = search (rules, the_lemmas)

  pub leaves_element : (first count : ℕ) (i : Expr) → leaves (expr (kind.Element first count i) p) ≡ (array first count ∷ leaves i)
  leaves_element first count i = search (rules, the_lemmas)

  pub leaves_input : (k : ℕ) → leaves (expr (kind.Input k) p) ≡ (input k ∷ [])
  leaves_input k = search (rules, the_lemmas)

  pub leaves_part : (k : ℕ) → leaves (expr (kind.Part k) p) ≡ (part k ∷ [])
  leaves_part k = search (rules, the_lemmas)

  pub leaves_not : (a : Expr) → leaves (expr (kind.Not a) p) ≡ leaves a
  leaves_not a = search (rules, the_lemmas)

  pub leaves_neg : (a : Expr) → leaves (expr (kind.Neg a) p) ≡ leaves a
  leaves_neg a = search (rules, the_lemmas)

  pub leaves_binary : (op : Op) (a b : Expr) → leaves (expr (kind.Binary op a b) p) ≡ (leaves a ++ leaves b)
  leaves_binary op a b = search (rules, the_lemmas)

  pub seen_number : (n : ℤ) → seen (expr (kind.Number n) p) ≡ seen_step (ExprKind-F.Number n)
  seen_number n = search (rules, the_lemmas)

  pub seen_cell : (k : ℕ) → seen (expr (kind.Cell k) p) ≡ seen_step (ExprKind-F.Cell k)
  seen_cell k = search (rules, the_lemmas)

  pub seen_element : (first count : ℕ) (i : Expr) → seen (expr (kind.Element first count i) p) ≡ seen_step (ExprKind-F.Element first count (seen i))
  seen_element first count i = search (rules, the_lemmas)

  pub seen_input : (k : ℕ) → seen (expr (kind.Input k) p) ≡ seen_step (ExprKind-F.Input k)
  seen_input k = search (rules, the_lemmas)

  pub seen_part : (k : ℕ) → seen (expr (kind.Part k) p) ≡ seen_step (ExprKind-F.Part k)
  seen_part k = search (rules, the_lemmas)

  pub seen_not : (a : Expr) → seen (expr (kind.Not a) p) ≡ seen_step (ExprKind-F.Not (seen a))
  seen_not a = search (rules, the_lemmas)

  pub seen_neg : (a : Expr) → seen (expr (kind.Neg a) p) ≡ seen_step (ExprKind-F.Neg (seen a))
  seen_neg a = search (rules, the_lemmas)

  pub seen_binary : (op : Op) (a b : Expr) → seen (expr (kind.Binary op a b) p) ≡ seen_step (ExprKind-F.Binary op (seen a) (seen b))
  seen_binary op a b = search (rules, the_lemmas)

  module _ (s : Scope) where
    pub interval_number : (n : ℤ) → interval_in s (expr (kind.Number n) p) ≡ bounded n n
    interval_number n = search (rules, the_lemmas)

    pub interval_cell : (k : ℕ) → interval_in s (expr (kind.Cell k) p) ≡ slice_get s.cells k
    interval_cell k = search (rules, the_lemmas)

    pub interval_element : (first count : ℕ) (i : Expr) → interval_in s (expr (kind.Element first count i) p) ≡ option_and_then (λ i. slice_get s.cells first) (interval_in s i)
    interval_element first count i = search (rules, the_lemmas)

    pub interval_input : (k : ℕ) → interval_in s (expr (kind.Input k) p) ≡ slice_get s.inputs k
    interval_input k = search (rules, the_lemmas)

    pub interval_part : (k : ℕ) → interval_in s (expr (kind.Part k) p) ≡ slice_get s.fields k
    interval_part k = search (rules, the_lemmas)

    pub interval_not : (a : Expr) → interval_in s (expr (kind.Not a) p) ≡ option_map (λ a. truth_range) (interval_in s a)
    interval_not a = search (rules, the_lemmas)

    pub interval_neg : (a : Expr) → interval_in s (expr (kind.Neg a) p) ≡ option_and_then negation_range (interval_in s a)
    interval_neg a = search (rules, the_lemmas)

    pub interval_binary : (op : Op) (a b : Expr) → interval_in s (expr (kind.Binary op a b) p) ≡ operation_interval op (interval_in s a) (interval_in s b)
    interval_binary op a b = search (rules, the_lemmas)

  module _ (cells inputs received : List ℤ) where
    pub value_number : (n : ℤ) → value_of (expr (kind.Number n) p) cells inputs received ≡ n
    value_number n = search (rules, the_lemmas)

    pub value_cell : (k : ℕ) → value_of (expr (kind.Cell k) p) cells inputs received ≡ at cells k
    value_cell k = search (rules, the_lemmas)

    pub value_element : (first count : ℕ) (i : Expr) → value_of (expr (kind.Element first count i) p) cells inputs received ≡ element cells first count (value_of i cells inputs received)
    value_element first count i = search (rules, the_lemmas)

    pub value_input : (k : ℕ) → value_of (expr (kind.Input k) p) cells inputs received ≡ at inputs k
    value_input k = search (rules, the_lemmas)

    pub value_part : (k : ℕ) → value_of (expr (kind.Part k) p) cells inputs received ≡ at received k
    value_part k = search (rules, the_lemmas)

    pub value_not : (a : Expr) → value_of (expr (kind.Not a) p) cells inputs received ≡ truth (not (is_true (value_of a cells inputs received)))
    value_not a = search (rules, the_lemmas)

    pub value_neg : (a : Expr) → value_of (expr (kind.Neg a) p) cells inputs received ≡ neg_ℤ (value_of a cells inputs received)
    value_neg a = search (rules, the_lemmas)

    pub value_binary : (op : Op) (a b : Expr) → value_of (expr (kind.Binary op a b) p) cells inputs received ≡ operation op (value_of a cells inputs received) (value_of b cells inputs received)
    value_binary op a b = search (rules, the_lemmas)

    pub computed_number : (n : ℤ) → computed (expr (kind.Number n) p) cells inputs received ≡ Some n
    computed_number n = search (rules, the_lemmas)

    pub computed_cell : (k : ℕ) → computed (expr (kind.Cell k) p) cells inputs received ≡ slice_get cells k
    computed_cell k = search (rules, the_lemmas)

    pub computed_element : (first count : ℕ) (i : Expr) → computed (expr (kind.Element first count i) p) cells inputs received ≡ (computed i cells inputs received >>= element_computed cells first count)
    computed_element first count i = search (rules, the_lemmas)

    pub computed_input : (k : ℕ) → computed (expr (kind.Input k) p) cells inputs received ≡ slice_get inputs k
    computed_input k = search (rules, the_lemmas)

    pub computed_part : (k : ℕ) → computed (expr (kind.Part k) p) cells inputs received ≡ slice_get received k
    computed_part k = search (rules, the_lemmas)

    pub computed_not : (a : Expr) → computed (expr (kind.Not a) p) cells inputs received ≡ (computed a cells inputs received >>= λ x. Some (truth (not (is_true x))))
    computed_not a = search (rules, the_lemmas)

    pub computed_neg : (a : Expr) → computed (expr (kind.Neg a) p) cells inputs received ≡ (computed a cells inputs received >>= negated)
    computed_neg a = search (rules, the_lemmas)

    pub computed_binary : (op : Op) (a b : Expr) → computed (expr (kind.Binary op a b) p) cells inputs received ≡ (computed a cells inputs received >>= λ x. computed b cells inputs received >>= λ y. applied op x y)
    computed_binary op a b = search (rules, the_lemmas)
