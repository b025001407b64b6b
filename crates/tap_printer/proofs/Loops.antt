-- What loops over items keep: what is written, and then the items that are left, are the whole.
use Rattle.std.proofs.Common.{◌≡◌, sym, ◌∙◌, ap, ℕ, ◌+◌, ◌<◌, List, map, flat_map, drop, length, get_or}
use Rattle.tap_base.specs.declared.token.Sign.{Sign}
use Rattle.tap_base.proofs.ListFacts.{cut_at_item}
use Rattle.tap_printer.specs.Printed.{Printed, spelling}
use Rattle.tap_printer.specs.Canonical.{further}
use Rattle.tap_printer.specs.inner.Pages.{Page, put, after}
use Rattle.tap_printer.proofs.Appends.{after_append}

module _ {A : Type 0} (f : A → List Printed) where
  pub one_further : (s : Sign) (items : List A) (i : ℕ) (x : A) (whole p q r : Page) → i < length items → x ≡ get_or items i x → after p (further s (map f (drop i items))) ≡ whole
      → q ≡ put p s (spelling s) → r ≡ after q (f x) → after r (further s (map f (drop (i + 1) items))) ≡ whole
  one_further s items i x whole p q r h e w hq hr =
      ap (λ y. after y (further s (map f (drop (i + 1) items)))) (hr ∙ ap (λ y. after y (f x)) hq)
      ∙ sym (after_append (put p s (spelling s)) (f x) (further s (map f (drop (i + 1) items))))
      ∙ ap (λ y. after p (further s (map f y))) (sym (cut_at_item items i x h e))
      ∙ w

  pub one_more : (items : List A) (i : ℕ) (x : A) (whole p r : Page) → i < length items → x ≡ get_or items i x → after p (flat_map f (drop i items)) ≡ whole
      → r ≡ after p (f x) → after r (flat_map f (drop (i + 1) items)) ≡ whole
  one_more items i x whole p r h e w hr =
      ap (λ y. after y (flat_map f (drop (i + 1) items))) hr
      ∙ sym (after_append p (f x) (flat_map f (drop (i + 1) items)))
      ∙ ap (λ y. after p (flat_map f y)) (sym (cut_at_item items i x h e))
      ∙ w
