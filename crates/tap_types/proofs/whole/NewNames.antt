-- Names that are not found among names.
use Rattle.std.proofs.Common.{◌≡◌, ℕ, Bool, true, false, List, [], ◌∷◌, refl}
use Rattle.std.specs.Prelude.{bytes_eq}
use Rattle.std.proofs.lemmas.Slice.Eq.{bytes_eq-Decides}
use Rattle.tap_base.specs.Lists.{IsNoneOf}
use Rattle.tap_names.specs.Tables.{is_among}

among_not : (x : List ℕ) (y : List ℕ) (ys : List (List ℕ)) (b : Bool) → bytes_eq x y ≡ b → is_among x (y ∷ ys) ≡ false → (b ≡ false) × (is_among x ys ≡ false)
among_not x y ys true e h = absurd cc
among_not x y ys false e h = (refl, h')
  where
    h' : is_among x ys ≡ false
    h' = cc

-- a name that is not found among names is none of them
pub none_among : (x : List ℕ) (names : List (List ℕ)) → is_among x names ≡ false → IsNoneOf x names
none_among x [] h = tt
none_among x (y ∷ ys) h =
    let r = among_not x y ys (bytes_eq x y) refl h in
    ((λ same. let yes = (bytes_eq-Decides x y).1 same in cc), none_among x ys r.1)
