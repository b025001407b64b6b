-- The widths of an assignment, target by target.
use Rattle.std.proofs.Common.{◌≡◌, ◌<◌, ◌+◌, ℕ, refl, ap, sym, ◌∙◌, List, [], ◌∷◌, ◌++◌, drop, length, get_or, slice_get, Some, None}
use Rattle.tap_base.specs.declared.refusal.Refusal.{Refusal}
use Rattle.tap_base.specs.declared.refusal.RefusalCode.TheVariants.{W1}
use Rattle.tap_base.specs.declared.tree.Expr.{Expr}
use Rattle.tap_base.specs.declared.tree.Target.{Target}
use Rattle.tap_base.specs.ListWords.{first}
use Rattle.tap_base.specs.Scope.{Scope}
use Rattle.tap_base.proofs.ListFacts.{cut_at, cut_at_item}
use Rattle.width_check.specs.ExprOffences.{judged, where_wider}
use Rattle.width_check.specs.StmtOffences.{width_offences}
use Rattle.width_check.proofs.Firsts.{drop_none, front_of}

widths_none : (s : Scope) (ts : List Target) → width_offences s ts [] ≡ []
widths_none s [] = refl
widths_none s (t ∷ ts) = refl

module _ (s : Scope) (ts : List Target) (es : List Expr) (k : ℕ) (same : width_offences s (drop k ts) (drop k es) ≡ width_offences s ts es) where
  pub widths_out : slice_get es k ≡ None → width_offences s ts es ≡ []
  widths_out h = sym same ∙ ap (width_offences s (drop k ts)) (drop_none es k h) ∙ widths_none s (drop k ts)

  module _ (t : Target) (e : Expr) (l : k < length ts) (is : t ≡ get_or ts k t) (there : slice_get es k ≡ Some e) where
    abbrev rest : List Refusal
    rest = width_offences s (drop (k + 1) ts) (drop (k + 1) es)

    cut : where_wider (judged s e).interval t.range W1 t.place ++ rest ≡ width_offences s ts es
    cut = sym (ap (λ us. width_offences s us (drop k es)) (cut_at_item ts k t l is) ∙ ap (width_offences s (t ∷ drop (k + 1) ts)) (cut_at es k e there)) ∙ same

    pub width_at : (r : Refusal) → first (where_wider (judged s e).interval t.range W1 t.place) ≡ Some r → first (width_offences s ts es) ≡ Some r
    width_at r h = front_of (where_wider (judged s e).interval t.range W1 t.place) rest (width_offences s ts es) r cut h

    pub widths_on : where_wider (judged s e).interval t.range W1 t.place ≡ [] → width_offences s (drop (k + 1) ts) (drop (k + 1) es) ≡ width_offences s ts es
    widths_on h = ap (λ o. o ++ rest) (sym h) ∙ cut
