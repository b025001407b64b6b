-- Sends among the deeds of two parts.
use Rattle.std.proofs.Common.{◌≡◌, refl, ap, ◌∙◌, ℕ, Bool, true, false, ◌||◌, List, [], ◌∷◌, ◌++◌}
use Rattle.tap_base.specs.Parts.{Deed}
use Rattle.schedule_gen.specs.Sending.{is_send_to, send_to_among}

either_way : (a b c : Bool) → (a || (b || c)) ≡ ((a || b) || c)
either_way true b c = refl
either_way false b c = refl

-- a send is among both where it is among one of them
pub among_both : (p : ℕ) (xs ys : List Deed) → send_to_among p (xs ++ ys) ≡ (send_to_among p xs || send_to_among p ys)
among_both p [] ys = refl
among_both p (x ∷ xs) ys = ap (λ b. is_send_to p x || b) (among_both p xs ys) ∙ either_way (is_send_to p x) (send_to_among p xs) (send_to_among p ys)
