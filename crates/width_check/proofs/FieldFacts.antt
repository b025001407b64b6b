-- The values of a send, value by value.
use Rattle.std.proofs.Common.{◌≡◌, ◌<◌, ◌+◌, ℕ, ℤ, refl, ap, sym, ◌∙◌, List, [], ◌∷◌, ◌++◌, drop, length, get_or, slice_get, Option, Some, None}
use Rattle.tap_base.specs.declared.refusal.Refusal.{Refusal}
use Rattle.tap_base.specs.declared.system.Field.{Field}
use Rattle.tap_base.specs.declared.tree.Expr.{Expr}
use Rattle.tap_base.specs.ListWords.{first}
use Rattle.tap_base.specs.Scope.{Scope, free_fields, one_free}
use Rattle.tap_base.proofs.ListFacts.{cut_at, cut_at_item}
use Rattle.width_check.specs.StmtOffences.{field_offences, value_offences}
use Rattle.width_check.proofs.Firsts.{drop_none, front_of}

fields_none : (s : Scope) (fs : List Field) → field_offences s fs [] ≡ []
fields_none s [] = refl
fields_none s (f ∷ fs) = refl

module _ (s : Scope) (all : List Field) (values : List Expr) (i k : ℕ) (same : field_offences s (free_fields (drop i all)) (drop k values) ≡ field_offences s (free_fields all) values) where
  pub fields_out : slice_get values k ≡ None → field_offences s (free_fields all) values ≡ []
  fields_out h = sym same ∙ ap (field_offences s (free_fields (drop i all))) (drop_none values k h) ∙ fields_none s (free_fields (drop i all))

  module _ (f : Field) (l : i < length all) (is : f ≡ get_or all i f) where
    abbrev later : List Field
    later = free_fields (drop (i + 1) all)

    takes : (o : Option ℤ) → o ≡ None → one_free o f ++ later ≡ f ∷ later
    takes None h = refl
    takes (Some y) h = cc

    opened : free_fields (drop i all) ≡ one_free f.fixed f ++ later
    opened = ap free_fields (cut_at_item all i f l is)

    module _ (v : Expr) (free : f.fixed ≡ None) (there : slice_get values k ≡ Some v) where
      cut : value_offences s f v ++ field_offences s later (drop (k + 1) values) ≡ field_offences s (free_fields all) values
      cut = sym (ap (λ fs. field_offences s fs (drop k values)) (opened ∙ takes f.fixed free) ∙ ap (field_offences s (f ∷ later)) (cut_at values k v there)) ∙ same

      -- behind one without
      pub free_on : value_offences s f v ≡ [] → field_offences s (free_fields (drop (i + 1) all)) (drop (k + 1) values) ≡ field_offences s (free_fields all) values
      free_on h = ap (λ o. o ++ field_offences s later (drop (k + 1) values)) (sym h) ∙ cut

      pub in_field : (r : Refusal) → first (value_offences s f v) ≡ Some r → first (field_offences s (free_fields all) values) ≡ Some r
      in_field r h = front_of (value_offences s f v) (field_offences s later (drop (k + 1) values)) (field_offences s (free_fields all) values) r cut h
