-- What is known of an expression that is named: what it names is there, and truths stand where they are due.
use Rattle.std.proofs.Common.{◌≡◌, ℕ, ◌<◌, ℤ, true, [], ◌∷◌, ◌++◌, Option, Some, None, slice_get, length, refl, sym, subst}
use Rattle.std.specs.Prelude.{IsSome}
use Rattle.std.proofs.lemmas.Option.{same_Some, slice_get_within}
use Rattle.tap_base.specs.declared.place.Place.{Place}
use Rattle.tap_base.specs.declared.place.Range.{Range}
use Rattle.tap_base.specs.declared.tree.Op.{Op}
use Rattle.tap_base.specs.declared.tree.Op.TheVariants as op
use Rattle.tap_base.specs.declared.tree.Expr.{Expr}
use Rattle.tap_base.specs.declared.tree.ExprKind.TheVariants as expr
use Rattle.tap_base.specs.Interval.{fits}
use Rattle.tap_base.specs.Lists.{Each}
use Rattle.tap_base.proofs.ListFacts.{each_append, none_first, none_second}
use Rattle.tap_names.specs.declared.named.Kind.{Kind}
use Rattle.tap_names.specs.declared.named.Kind.TheVariants.{Boolean, Number}
use Rattle.tap_names.specs.Kinds.{given_by, taken_by}
use Rattle.tap_types.specs.ExprOffences.{operand_offences, other_kind}
use Rattle.tap_base.specs.Parts.{Leaf, leaves, number, cell, input, part}
use Rattle.tap_base.specs.Resolved.{IsArray, IsThere}
use Rattle.tap_base.specs.Scope.{Scope as Reach}
use Rattle.tap_types.specs.Systems.{node}
use Rattle.tap_base.specs.Roots.{Root, Rooted, given_root, leaf, rooted, roots, tested_by}
use Rattle.tap_base.specs.Truths.{IsOfTruths, IsTruth, leaf_range}
use Rattle.tap_types.proofs.whole.Roots.{leaves_binary, leaves_cell, leaves_element, leaves_input, leaves_neg, leaves_not, leaves_number, leaves_part, roots_binary, roots_cell, roots_element, roots_input, roots_neg, roots_not, roots_number, roots_part}
use Rattle.tap_types.proofs.whole.Standing.{OfKind, array_first, truths_at}

-- An expression of a kind: what it names is there, its operands that have to be truths are truths, its kind is known, and it is
-- a truth where that is its kind.
pub record Good (s : Reach) (x : Expr) (k : Option Kind) : Type 0 where
  pub there : Each (IsThere s) (leaves x)
  pub tested : Each (IsTruth s) (roots x).tested
  pub known : IsSome k
  pub says : k ≡ Some Boolean → IsTruth s (roots x).root

-- ---- kinds

-- one that is known and is no other than a truth is a truth
pub boolean_kind : (k : Option Kind) (p : Place) → IsSome k → other_kind Boolean p k ≡ [] → k ≡ Some Boolean
boolean_kind None p h e = absurd cc
boolean_kind (Some Boolean) p h e = refl
boolean_kind (Some Number) p h e = absurd cc

-- what an operation gives where it gives a truth
given_truth : (s : Reach) (o : Op) → given_by o ≡ Boolean → IsTruth s (given_root o)
given_truth s op.Or e = tt
given_truth s op.And e = tt
given_truth s op.Eq e = tt
given_truth s op.Ne e = tt
given_truth s op.Lt e = tt
given_truth s op.Le e = tt
given_truth s op.Gt e = tt
given_truth s op.Ge e = tt
given_truth s op.Add e = absurd cc
given_truth s op.Sub e = absurd cc
given_truth s op.Mul e = absurd cc
given_truth s op.Div e = absurd cc
given_truth s op.Mod e = absurd cc
given_truth s op.Min e = absurd cc
given_truth s op.Max e = absurd cc

module _ (s : Reach) where
  -- ---- what names nothing but itself

  leaf_good : (x : Expr) (l : Leaf) (k : Kind) → leaves x ≡ l ∷ [] → roots x ≡ rooted (leaf l) [] → IsThere s l → (k ≡ Boolean → IsOfTruths (leaf_range s l)) → Good s x (Some k)
  leaf_good x l k e r h t =
      let R : Rooted → Type 0 = λ z. IsTruth s z.root in
      let T : Rooted → Type 0 = λ z. Each (IsTruth s) z.tested in
      record {
        there = subst (Each (IsThere s)) (sym e) (h, tt);
        tested = subst T (sym r) tt;
        known = refl;
        says = λ q. subst R (sym r) (t (same_Some k Boolean q));
      }

  pub number_good : (p : Place) (n : ℤ) (k : Kind) → fits n ≡ true → (k ≡ Boolean → IsOfTruths (leaf_range s (number n))) → Good s (node p (expr.Number n)) (Some k)
  number_good p n k h t = leaf_good (node p (expr.Number n)) (number n) k (leaves_number p n) (roots_number p n) h t

  pub input_good : (p : Place) (n : ℕ) (k : Kind) (range : Range) → slice_get s.inputs n ≡ Some range → OfKind k range → Good s (node p (expr.Input n)) (Some k)
  input_good p n k range e h = leaf_good (node p (expr.Input n)) (input n) k (leaves_input p n) (roots_input p n) (slice_get_within s.inputs n range e) (truths_at (slice_get s.inputs n) k range e h)

  pub cell_good : (p : Place) (first : ℕ) (k : Kind) (range : Range) → IsArray s.cells first 1 range → OfKind k range → Good s (node p (expr.Cell first)) (Some k)
  cell_good p first k range a h =
      let e = array_first s.cells first 1 range a in
      leaf_good (node p (expr.Cell first)) (cell first) k (leaves_cell p first) (roots_cell p first) (slice_get_within s.cells first range e) (truths_at (slice_get s.cells first) k range e h)

  pub part_good : (p : Place) (k : ℕ) → k < length s.fields → Good s (node p (expr.Part k)) (Some Number)
  part_good p k h = leaf_good (node p (expr.Part k)) (part k) Number (leaves_part p k) (roots_part p k) h (λ q. absurd cc)

  -- ---- what has parts

  pub element_good : (p : Place) (first count : ℕ) (k : Kind) (l : Option Kind) (range : Range) (i : Expr) → IsArray s.cells first count range → OfKind k range → Good s i l → Good s (node p (expr.Element first count i)) (Some k)
  element_good p first count k l range i a h g =
      let R : Rooted → Type 0 = λ z. IsTruth s z.root in
      let T : Rooted → Type 0 = λ z. Each (IsTruth s) z.tested in
      let r = roots_element p first count i in
      let e = array_first s.cells first count range a in
      record {
        there = subst (Each (IsThere s)) (sym (leaves_element p first count i)) ((range, a), g.there);
        tested = subst T (sym r) g.tested;
        known = refl;
        says = λ q. subst R (sym r) (truths_at (slice_get s.cells first) k range e h (same_Some k Boolean q));
      }

  pub not_good : (p : Place) (x : Expr) (k : Option Kind) → k ≡ Some Boolean → Good s x k → Good s (node p (expr.Not x)) (Some Boolean)
  not_good p x k b g =
      let R : Rooted → Type 0 = λ z. IsTruth s z.root in
      let T : Rooted → Type 0 = λ z. Each (IsTruth s) z.tested in
      let r = roots_not p x in
      record {
        there = subst (Each (IsThere s)) (sym (leaves_not p x)) g.there;
        tested = subst T (sym r) (g.says b, g.tested);
        known = refl;
        says = λ q. subst R (sym r) tt;
      }

  pub neg_good : (p : Place) (x : Expr) (k : Option Kind) → Good s x k → Good s (node p (expr.Neg x)) (Some Number)
  neg_good p x k g =
      let T : Rooted → Type 0 = λ z. Each (IsTruth s) z.tested in
      let r = roots_neg p x in
      record {
        there = subst (Each (IsThere s)) (sym (leaves_neg p x)) g.there;
        tested = subst T (sym r) g.tested;
        known = refl;
        says = λ q. absurd cc;
      }

  -- the operands of `or` and `and` are truths
  operands_tested : (o : Op) (a b : Root) (k l : Option Kind) (p q : Place) → IsSome k → IsSome l → (k ≡ Some Boolean → IsTruth s a) → (l ≡ Some Boolean → IsTruth s b) → operand_offences (taken_by o) p k q l ≡ [] → Each (IsTruth s) (tested_by o a b)
  operands_tested op.Or a b k l p q m n f g e = (f (boolean_kind k p m (none_first (other_kind Boolean p k) (other_kind Boolean q l) e)), (g (boolean_kind l q n (none_second (other_kind Boolean p k) (other_kind Boolean q l) e)), tt))
  operands_tested op.And a b k l p q m n f g e = (f (boolean_kind k p m (none_first (other_kind Boolean p k) (other_kind Boolean q l) e)), (g (boolean_kind l q n (none_second (other_kind Boolean p k) (other_kind Boolean q l) e)), tt))
  operands_tested op.Eq a b k l p q m n f g e = tt
  operands_tested op.Ne a b k l p q m n f g e = tt
  operands_tested op.Lt a b k l p q m n f g e = tt
  operands_tested op.Le a b k l p q m n f g e = tt
  operands_tested op.Gt a b k l p q m n f g e = tt
  operands_tested op.Ge a b k l p q m n f g e = tt
  operands_tested op.Add a b k l p q m n f g e = tt
  operands_tested op.Sub a b k l p q m n f g e = tt
  operands_tested op.Mul a b k l p q m n f g e = tt
  operands_tested op.Div a b k l p q m n f g e = tt
  operands_tested op.Mod a b k l p q m n f g e = tt
  operands_tested op.Min a b k l p q m n f g e = tt
  operands_tested op.Max a b k l p q m n f g e = tt

  pub binary_good : (p : Place) (o : Op) (a b : Expr) (k l : Option Kind) (q r : Place) → Good s a k → Good s b l → operand_offences (taken_by o) q k r l ≡ [] → Good s (node p (expr.Binary o a b)) (Some (given_by o))
  binary_good p o a b k l q r f g e =
      let R : Rooted → Type 0 = λ z. IsTruth s z.root in
      let T : Rooted → Type 0 = λ z. Each (IsTruth s) z.tested in
      let i = roots_binary p o a b in
      let t = operands_tested o (roots a).root (roots b).root k l q r f.known g.known f.says g.says e in
      record {
        there = subst (Each (IsThere s)) (sym (leaves_binary p o a b)) (each_append (IsThere s) (leaves a) (leaves b) f.there g.there);
        tested = subst T (sym i) (each_append (IsTruth s) (tested_by o (roots a).root (roots b).root) ((roots a).tested ++ (roots b).tested) t (each_append (IsTruth s) (roots a).tested (roots b).tested f.tested g.tested));
        known = refl;
        says = λ z. subst R (sym i) (given_truth s o (same_Some (given_by o) Boolean z));
      }
