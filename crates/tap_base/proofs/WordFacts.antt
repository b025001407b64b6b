-- Bytes that are tested to be a word of a line are one.
use Rattle.std.proofs.Common.{◌≡◌, ◌≢◌, ◌==◌, ℕ, Bool, true, false, List, [], ◌∷◌, refl, if◌then◌else◌}
use Rattle.std.proofs.lemmas.Bool.Decides.{Decides-eqb}
use Rattle.tap_base.specs.LineWords.{IsWord}

-- whether no byte is a space or a line feed
abbrev pub is_free : List ℕ → Bool
is_free [] = true
is_free (x ∷ xs) = if x == 32 then false else (if x == 10 then false else is_free xs)

free_step : (b d r : Bool) → (if b then false else (if d then false else r)) ≡ true → (b ≡ false) × (d ≡ false) × (r ≡ true)
free_step true d r h = cc
free_step false true r h = cc
free_step false false r h = (refl, refl, h)

pub unlike : (x y : ℕ) → (x == y) ≡ false → x ≢ y
unlike x y h same = let e = (Decides-eqb x y).1 same in cc

pub free_word : (w : List ℕ) → is_free w ≡ true → IsWord w
free_word [] h = tt
free_word (x ∷ xs) h =
    let e = free_step (x == 32) (x == 10) (is_free xs) h in
    ((unlike x 32 e.0, unlike x 10 e.1), free_word xs e.2)
