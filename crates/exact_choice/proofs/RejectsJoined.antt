-- What is rejected is determined, and what is rejected in two parts of a run is rejected in both.
use Rattle.std.proofs.Common.{◌≡◌, ◌∙◌, ℕ, sym, subst, ap, List, [], ◌∷◌, ◌++◌, slice_set, Some}
use Rattle.exact_choice.specs.Moments.{Moment}
use Rattle.exact_choice.specs.Rejects.{AllReject, OneReject, first_error}

pub all_reject_joined : (ms ns : List Moment) (old middle new : List (List ℕ)) → AllReject ms old middle → AllReject ns middle new → AllReject (ms ++ ns) old new
all_reject_joined [] ns old middle new x y = subst (λ errors. AllReject ns errors new) x y
all_reject_joined (m ∷ ms) ns old middle new x y = (x.0, x.1, all_reject_joined ms ns x.0 middle new x.2 y)

pub one_rejected : OneReject
one_rejected s p q r i j old new other x y =
    let both : Some (q ∷ x.others) ≡ Some (r ∷ y.others) = sym x.stood ∙ y.stood in
    let sender : q ≡ r = cc in
    let others : x.others ≡ y.others = cc in
    let place : Some i ≡ Some j = sym x.first ∙ ap (λ u. first_error s u p) sender ∙ y.first in
    (sender, cc, x.moved ∙ ap (λ (qs : List ℕ). slice_set old p qs) others ∙ sym y.moved)
