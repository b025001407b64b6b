-- A test has no value but 0 and 1, and `and`, `or` and `not` stand on tests.
use Rattle.std.proofs.Common.{◌≡◌, ℕ, ℤ, [], ◌++◌, Option, Some, None, slice_get, ap, sym, ◌∙◌, ◌≤ℤ◌, subst, arith, rules, Bool, true, false, ◌&&◌}
use Rattle.std.specs.Prelude.{if◌then◌else◌, option_and_then}
use Rattle.std.specs.Option.{option_map}
use Rattle.std.proofs.lemmas.Int.{ints}
use Rattle.std.proofs.lemmas.Option.{none-some, same_Some}
use Rattle.tap_base.specs.declared.place.Place.{Place}
use Rattle.tap_base.specs.declared.place.Range.{Range}
use Rattle.tap_base.specs.declared.tree.Op.{Op}
use Rattle.tap_base.specs.declared.tree.Op.TheVariants as op
use Rattle.tap_base.specs.declared.tree.Expr.{Expr}
use Rattle.tap_base.specs.declared.tree.ExprKind.{the_lemmas}
use Rattle.tap_base.specs.declared.tree.ExprKind.TheVariants as kind
use Rattle.tap_base.specs.Interval.{IsWithin, bounded, fits, from_to, interval_of, operation_range, truth_range}
use Rattle.tap_base.specs.Lists.{Each}
use Rattle.tap_base.proofs.OptionFacts.{bound, mapped}
use Rattle.tap_base.specs.Parts.{number, cell, array, input, part}
use Rattle.tap_base.specs.Scope.{Scope as Reach}
use Rattle.tap_types.specs.Systems.{node}
use Rattle.tap_types.specs.TruthRanges.{TestsAreTruths}
use Rattle.tap_base.specs.Roots.{Rooted, amount, given_root, leaf, roots, rooted, tested_by}
use Rattle.tap_base.specs.Truths.{IsOfTruths, IsTest, IsTruth, StandsOnTruths}
use Rattle.tap_types.proofs.whole.Roots.{roots_binary, roots_cell, roots_element, roots_input, roots_neg, roots_not, roots_number, roots_part}
use Rattle.tap_base.proofs.ExprInduction.{of_expr}
use Rattle.tap_base.proofs.ListFacts.{each_split}

-- ---- operands

pub not_stands : (s : Reach) (p : Place) (e : Expr) → StandsOnTruths s (node p (kind.Not e)) → IsTest s e
not_stands s p e h = let T : Rooted → Type 0 = λ z. Each (IsTruth s) z.tested in let t = subst T (roots_not p e) h in (t.0, t.1)

pub and_stands : (s : Reach) (p : Place) (a b : Expr) → StandsOnTruths s (node p (kind.Binary op.And a b)) → IsTest s a × IsTest s b
and_stands s p a b h =
    let T : Rooted → Type 0 = λ z. Each (IsTruth s) z.tested in
    let t = subst T (roots_binary p op.And a b) h in
    let r = each_split (IsTruth s) (roots a).tested (roots b).tested t.1.1 in
    ((t.0, r.0), (t.1.0, r.1))

pub or_stands : (s : Reach) (p : Place) (a b : Expr) → StandsOnTruths s (node p (kind.Binary op.Or a b)) → IsTest s a × IsTest s b
or_stands s p a b h =
    let T : Rooted → Type 0 = λ z. Each (IsTruth s) z.tested in
    let t = subst T (roots_binary p op.Or a b) h in
    let r = each_split (IsTruth s) (roots a).tested (roots b).tested t.1.1 in
    ((t.0, r.0), (t.1.0, r.1))

-- ---- ranges

there_within : (o : Option Range) (range : Range) → IsOfTruths o → o ≡ Some range → IsWithin range truth_range
there_within o range h e = let F : Option Range → Type 0 = λ z. IsOfTruths z in subst F e h

bounded_is : (n : ℤ) (b : Bool) (range : Range) → (if b then Some (from_to n n) else None) ≡ Some range → from_to n n ≡ range
bounded_is n true range e = same_Some (from_to n n) range e
bounded_is n false range e = absurd (none-some range e)

truth_within : (range : Range) → Some truth_range ≡ Some range → IsWithin range truth_range
truth_within range e = let F : Range → Type 0 = λ z. IsWithin z truth_range in subst F (same_Some truth_range range e) (low, high)
  where
    low : truth_range.lo ≤ℤ truth_range.lo
    low = omega (arith, ints)

    high : truth_range.hi ≤ℤ truth_range.hi
    high = omega (arith, ints)

operation_within : (s : Reach) (o : Op) (a b range : Range) → IsTruth s (given_root o) → operation_range o a b ≡ Some range → IsWithin range truth_range
operation_within s op.Or a b range h e = truth_within range e
operation_within s op.And a b range h e = truth_within range e
operation_within s op.Eq a b range h e = truth_within range e
operation_within s op.Ne a b range h e = truth_within range e
operation_within s op.Lt a b range h e = truth_within range e
operation_within s op.Le a b range h e = truth_within range e
operation_within s op.Gt a b range h e = truth_within range e
operation_within s op.Ge a b range h e = truth_within range e
operation_within s op.Add a b range h e = absurd h
operation_within s op.Sub a b range h e = absurd h
operation_within s op.Mul a b range h e = absurd h
operation_within s op.Div a b range h e = absurd h
operation_within s op.Mod a b range h e = absurd h
operation_within s op.Min a b range h e = absurd h
operation_within s op.Max a b range h e = absurd h

module _ (s : Reach) where
  abbrev of_ : Expr → Option Range
  of_ e = interval_of e s.cells s.inputs s.fields

  abbrev Within : Expr → Type 0
  Within e = (range : Range) → IsTruth s (roots e).root → of_ e ≡ Some range → IsWithin range truth_range

  root_of : (e : Expr) (r : Rooted) → roots e ≡ r → IsTruth s (roots e).root → IsTruth s r.root
  root_of e r is h = let R : Rooted → Type 0 = λ z. IsTruth s z.root in subst R is h

  number_within : (n : ℤ) (p : Place) → Within (node p (kind.Number n))
  number_within n p range h e =
      let i : of_ (node p (kind.Number n)) ≡ bounded n n = search (rules, the_lemmas) in
      let F : Range → Type 0 = λ z. IsWithin z truth_range in
      subst F (bounded_is n (fits n && fits n) range (sym i ∙ e)) (root_of (node p (kind.Number n)) (rooted (leaf (number n)) []) (roots_number p n) h)

  cell_within : (k : ℕ) (p : Place) → Within (node p (kind.Cell k))
  cell_within k p range h e =
      let i : of_ (node p (kind.Cell k)) ≡ slice_get s.cells k = search (rules, the_lemmas) in
      there_within (slice_get s.cells k) range (root_of (node p (kind.Cell k)) (rooted (leaf (cell k)) []) (roots_cell p k) h) (sym i ∙ e)

  element_within : (first count : ℕ) (a : Expr) (p : Place) → Within a → Within (node p (kind.Element first count a))
  element_within first count a p w range h e =
      let i : of_ (node p (kind.Element first count a)) ≡ option_and_then (λ x. slice_get s.cells first) (of_ a) = search (rules, the_lemmas) in
      let b = bound (λ x. slice_get s.cells first) (of_ a) range (sym i ∙ e) in
      there_within (slice_get s.cells first) range (root_of (node p (kind.Element first count a)) (rooted (leaf (array first count)) (roots a).tested) (roots_element p first count a) h) b.2

  input_within : (k : ℕ) (p : Place) → Within (node p (kind.Input k))
  input_within k p range h e =
      let i : of_ (node p (kind.Input k)) ≡ slice_get s.inputs k = search (rules, the_lemmas) in
      there_within (slice_get s.inputs k) range (root_of (node p (kind.Input k)) (rooted (leaf (input k)) []) (roots_input p k) h) (sym i ∙ e)

  part_within : (k : ℕ) (p : Place) → Within (node p (kind.Part k))
  part_within k p range h e =
      let i : of_ (node p (kind.Part k)) ≡ slice_get s.fields k = search (rules, the_lemmas) in
      there_within (slice_get s.fields k) range (root_of (node p (kind.Part k)) (rooted (leaf (part k)) []) (roots_part p k) h) (sym i ∙ e)

  not_within : (a : Expr) (p : Place) → Within a → Within (node p (kind.Not a))
  not_within a p w range h e =
      let i : of_ (node p (kind.Not a)) ≡ option_map (λ x. truth_range) (of_ a) = search (rules, the_lemmas) in
      let m = mapped (λ x. truth_range) (of_ a) range (sym i ∙ e) in
      truth_within range (ap (λ z. Some z) m.2)

  neg_within : (a : Expr) (p : Place) → Within a → Within (node p (kind.Neg a))
  neg_within a p w range h e = absurd (root_of (node p (kind.Neg a)) (rooted amount (roots a).tested) (roots_neg p a) h)

  binary_within : (o : Op) (a b : Expr) (p : Place) → Within a → Within b → Within (node p (kind.Binary o a b))
  binary_within o a b p w v range h e =
      let t = tested_by o (roots a).root (roots b).root ++ ((roots a).tested ++ (roots b).tested) in
      let i : of_ (node p (kind.Binary o a b)) ≡ option_and_then (λ x. option_and_then (λ y. operation_range o x y) (of_ b)) (of_ a) = search (rules, the_lemmas) in
      let l = bound (λ x. option_and_then (λ y. operation_range o x y) (of_ b)) (of_ a) range (sym i ∙ e) in
      let m = bound (λ y. operation_range o l.0 y) (of_ b) range l.2 in
      operation_within s o l.0 m.0 range (root_of (node p (kind.Binary o a b)) (rooted (given_root o) t) (roots_binary p o a b) h) m.2

  test_within : (e : Expr) → Within e
  test_within = of_expr Within number_within cell_within element_within input_within part_within not_within neg_within binary_within

pub tests_are_truths : TestsAreTruths
tests_are_truths s e range h i = test_within s e range h.0 i
