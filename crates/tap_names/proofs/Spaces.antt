-- Names of two tables, one behind the other.
use Rattle.std.proofs.Common.{◌≡◌, refl, sym, ap, Bool, true, false, cond, List, [], ◌∷◌, ◌++◌, ℕ, Some, None}
use Rattle.std.specs.Prelude.{bytes_eq, ◌||◌}
use Rattle.std.proofs.lemmas.Option.{none-some}
use Rattle.tap_base.specs.declared.ast.AstConst.{AstConst}
use Rattle.tap_names.specs.VariableOffences.{const_names}
use Rattle.tap_names.specs.Names.{constants}
use Rattle.tap_names.specs.Tables.{Entry, standing_for, is_among, names_in}

module _ {A : Type 0} (name : List ℕ) where
  pub stands_first : (es fs : List (Entry A)) (x : A) → standing_for name es ≡ Some x → standing_for name (es ++ fs) ≡ Some x
  stands_first [] fs x h = absurd (none-some x h)
  stands_first (e ∷ es) fs x h = by (bytes_eq name e.0) (stands_first es fs x) h
    where
      by : (b : Bool) → (standing_for name es ≡ Some x → standing_for name (es ++ fs) ≡ Some x) → cond b (Some e.1) (standing_for name es) ≡ Some x → cond b (Some e.1) (standing_for name (es ++ fs)) ≡ Some x
      by true r k = k
      by false r k = r k

  pub stands_behind : (es fs : List (Entry A)) → standing_for name es ≡ None → standing_for name (es ++ fs) ≡ standing_for name fs
  stands_behind [] fs h = refl
  stands_behind (e ∷ es) fs h = by (bytes_eq name e.0) (stands_behind es fs) h
    where
      by : (b : Bool) → (standing_for name es ≡ None → standing_for name (es ++ fs) ≡ standing_for name fs) → cond b (Some e.1) (standing_for name es) ≡ None → cond b (Some e.1) (standing_for name (es ++ fs)) ≡ standing_for name fs
      by true r k = absurd (none-some e.1 (sym k))
      by false r k = r k

pub among_both : (name : List ℕ) (xs ys : List (List ℕ)) → is_among name (xs ++ ys) ≡ (is_among name xs || is_among name ys)
among_both name [] ys = refl
among_both name (x ∷ xs) ys = by (bytes_eq name x) (among_both name xs ys)
  where
    by : (b : Bool) → is_among name (xs ++ ys) ≡ (is_among name xs || is_among name ys) → cond b true (is_among name (xs ++ ys)) ≡ (cond b true (is_among name xs) || is_among name ys)
    by true r = refl
    by false r = r

pub names_constants : (consts : List AstConst) → names_in (constants consts) ≡ const_names consts
names_constants [] = refl
names_constants (k ∷ ks) = ap (λ z. k.name.text ∷ z) (names_constants ks)
