-- What is chosen is determined.
use Rattle.std.proofs.Common.{◌≡◌, ◌∙◌, ℕ, ap, sym, subst, true, slice_set, Some}
use Rattle.guard_scheduler.specs.Cursor.{Cursor}
use Rattle.guard_scheduler.specs.Cyclic.{place_after}
use Rattle.guard_scheduler.specs.Turnstile.{TakesNext}
use Rattle.guard_scheduler.proofs.Rounds.{one_of_wanted}
use Rattle.abstract_run.specs.Enabled.{is_enabled}
use Rattle.exact_choice.specs.Choice.{OneChoice}

-- Of what is looked for, one is the next, and the cursor then stands in one way.
pub one_next : (Wanted : ℕ → Type 0) (old : Cursor) (a b : ℕ) (new other : Cursor) → TakesNext Wanted old a new → TakesNext Wanted old b other → (a ≡ b) × (new ≡ other)
one_next Wanted old a b new other x y =
    let same = one_of_wanted Wanted old.at a b x.first y.first in
    (same, x.moved ∙ ap (λ (c : ℕ). record old { at = place_after old.places c }) same ∙ sym y.moved)

pub one_chosen : OneChoice
one_chosen semantics s p a b old new other x y =
    let from : y.from ≡ x.from = let both : Some y.from ≡ Some x.from = sym y.stood ∙ x.stood in cc in
    let z = one_next (λ c. is_enabled semantics s p c ≡ true) x.from a b x.to y.to x.next (subst (λ (c : Cursor). TakesNext (λ d. is_enabled semantics s p d ≡ true) c b y.to) from y.next) in
    (z.0, x.moved ∙ ap (λ (c : Cursor). slice_set old p c) z.1 ∙ sym y.moved)
