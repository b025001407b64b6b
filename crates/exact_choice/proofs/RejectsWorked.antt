-- The errors of two peers are rejected in the order in which they arrived.
use Rattle.std.proofs.Common.{◌≡◌, ◌∙◌, refl, ap, sym, ℕ, List, [], ◌∷◌, slice_get}
use Rattle.exact_choice.specs.Rejects.{one_more}
use Rattle.exact_choice.specs.WorkedRejects.{ByArrival, NotByChannel}

pub by_arrival : ByArrival
by_arrival = record {
  errors = [] ∷ [] ∷ [] ∷ [];
  all = (
    (2 ∷ []) ∷ [] ∷ [] ∷ [],
    refl,
    (
      (2 ∷ 1 ∷ []) ∷ [] ∷ [] ∷ [],
      refl,
      (
        (2 ∷ 1 ∷ []) ∷ [] ∷ [] ∷ [],
        refl,
        (
          (2 ∷ 1 ∷ 1 ∷ []) ∷ [] ∷ [] ∷ [],
          refl,
          (
            (1 ∷ 1 ∷ []) ∷ [] ∷ [] ∷ [],
            record { others = 1 ∷ 1 ∷ []; stood = refl; first = refl; moved = refl },
            (
              (1 ∷ []) ∷ [] ∷ [] ∷ [],
              record { others = 1 ∷ []; stood = refl; first = refl; moved = refl },
              ([] ∷ [] ∷ [] ∷ [], record { others = []; stood = refl; first = refl; moved = refl }, refl),
            ),
          ),
        ),
      ),
    ),
  );
}

pub not_by_channel : NotByChannel
not_by_channel x =
    let one = x.all.1 in
    let two : x.all.2.0 ≡ (2 ∷ 1 ∷ []) ∷ [] ∷ [] ∷ [] = x.all.2.1 ∙ ap (one_more 1 0) one in
    let first = sym x.all.2.2.1.stood ∙ ap (λ (errors : List (List ℕ)). slice_get errors 0) two in
    cc
