-- Targets without an offence name targets in which all is there.
use Rattle.std.proofs.Common.{◌≡◌, ℕ, true, false, [], ◌++◌, Option, Some, None, refl, sym, subst}
use Rattle.std.specs.Prelude.{is_some, option_and_then}
use Rattle.std.proofs.lemmas.Option.{none-some, same_Some}
use Rattle.tap_base.specs.declared.place.Place.{Place}
use Rattle.tap_base.specs.declared.ast.AstExpr.{AstExpr}
use Rattle.tap_base.specs.declared.ast.AstTarget.{AstTarget}
use Rattle.tap_base.specs.declared.tree.Expr.{Expr}
use Rattle.tap_base.specs.declared.tree.Target.{Target}
use Rattle.tap_base.specs.Lists.{Each}
use Rattle.tap_base.proofs.OptionFacts.{bound, mapped}
use Rattle.tap_names.specs.declared.named.Kind.TheVariants.{Number}
use Rattle.tap_names.specs.declared.named.Named.{Named}
use Rattle.tap_names.specs.declared.named.Named.TheVariants as named
use Rattle.tap_types.specs.Given.{IsGiven}
use Rattle.tap_types.specs.Pieces.{index_pieces, target_pieces}
use Rattle.tap_base.specs.Resolved.{IsResolvedExpr, IsResolvedTarget}
use Rattle.tap_base.specs.Scope.{Scope as Reach}
use Rattle.tap_types.specs.Scopes.{Scope, named_in}
use Rattle.tap_types.specs.StmtOffences.{index_offences, range_of_target, target_name, target_offences}
use Rattle.tap_types.specs.Systems.{expr_of, index_of, target_at, target_of}
use Rattle.tap_base.specs.Truths.{IndexStandsOnTruths, StandsOnTruths}
use Rattle.tap_types.proofs.whole.Standing.{Stands, StandsFor}
use Rattle.tap_types.proofs.whole.WholeExprs.{good_value}
use Rattle.tap_base.proofs.ListFacts.{none_first, none_second}

-- all that the target names is there, and its range is that of its name
pub record GoodTarget (s : Reach) (o : Option Named) (t : Target) : Type 0 where
  pub resolved : IsResolvedTarget s t
  pub truths : IndexStandsOnTruths s t
  pub ranged : range_of_target o ≡ Some t.range

module _ (s : Reach) (timers : ℕ) where
  whole_good : (p : Place) (o : Option Named) (x : Target) → StandsFor s timers o → target_name p o false ≡ [] → target_at p o None ≡ Some x → GoodTarget s o x
  whole_good p None x h a e = absurd cc
  whole_good p (Some (named.Constant v)) x h a e = absurd cc
  whole_good p (Some (named.Input n k)) x h a e = absurd cc
  whole_good p (Some (named.Variable first k range)) x h a e =
      let is = same_Some (record { first = first; length = 1; index = None; range = range; place = p }) x e in
      subst (GoodTarget s (Some (named.Variable first k range))) is (record { resolved = record { cells = h.0; index = tt; whole = λ q. refl }; truths = tt; ranged = refl })
  whole_good p (Some (named.Array first count k range)) x h a e = absurd cc
  whole_good p (Some (named.Timer t)) x h a e = absurd cc

  element_good : (p : Place) (o : Option Named) (i : Expr) (x : Target) → StandsFor s timers o → IsResolvedExpr s i × StandsOnTruths s i → target_name p o true ≡ [] → target_at p o (Some i) ≡ Some x → GoodTarget s o x
  element_good p None i x h g a e = absurd cc
  element_good p (Some (named.Constant v)) i x h g a e = absurd cc
  element_good p (Some (named.Input n k)) i x h g a e = absurd cc
  element_good p (Some (named.Variable first k range)) i x h g a e = absurd cc
  element_good p (Some (named.Array first count k range)) i x h g a e =
      let is = same_Some (record { first = first; length = count; index = Some i; range = range; place = p }) x e in
      subst (GoodTarget s (Some (named.Array first count k range))) is (record { resolved = record { cells = h.0; index = g.0; whole = λ q. absurd (none-some i (sym q)) }; truths = g.1; ranged = refl })
  element_good p (Some (named.Timer t)) i x h g a e = absurd cc

module _ (c : Scope) (s : Reach) (timers : ℕ) (h : Stands c s timers) where
  aimed_good : (p : Place) (o : Option Named) (i : Option AstExpr) (x : Target) → StandsFor s timers o → Each IsGiven (index_pieces i) → target_name p o (is_some i) ++ index_offences c i ≡ [] → option_and_then (target_at p o) (index_of c i) ≡ Some x → GoodTarget s o x
  aimed_good p o None x n g a e = whole_good s timers p o x n (none_first (target_name p o false) [] a) e
  aimed_good p o (Some i) x n g a e =
      let b = bound (target_at p o) (index_of c (Some i)) x e in
      let m = mapped Some (expr_of c i) b.0 b.1 in
      let v = good_value c s timers h Number i m.0 g.0 (none_second (target_name p o true) (index_offences c (Some i)) a) m.1 in
      element_good s timers p o m.0 x n v (none_first (target_name p o true) (index_offences c (Some i)) a) (subst (λ z. target_at p o z ≡ Some x) (sym m.2) b.2)

  pub target_good : (t : AstTarget) (x : Target) → Each IsGiven (target_pieces t) → target_offences c t ≡ [] → target_of c t ≡ Some x → GoodTarget s (named_in c t.name.text) x
  target_good t x g a e = aimed_good t.name.place (named_in c t.name.text) t.index x (h.names t.name.text) g a e
