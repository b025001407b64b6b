-- The options and draws of the worked body.
use Rattle.std.proofs.Common.{◌≡◌, zero, suc, ℤ, pos, Bool, true, false, List, [], ◌∷◌, ◌&&◌, refl, sym, subst, arith}
use Rattle.std.specs.Prelude.{Contains}
use Rattle.std.specs.List.{list_any}
use Rattle.std.specs.Ordering.{int_eq}
use Rattle.std.proofs.lemmas.Int.{ints}
use Rattle.std.proofs.lemmas.Bool.Decides.{Decides-int_eq}
use Rattle.std.proofs.lemmas.Map.Views.{Contains-from_any}
use Rattle.drawn_choices.specs.Draws.{AreOptions, CanTake}
use Rattle.drawn_choices.specs.Worked.{worked, words, DrawsAreWorked, OptionsAreWorked, WordsAreWorked}
use Rattle.drawn_choices.proofs.MoreDrawn.{none_drawn, one_more_drawn}
use Rattle.rand_pcg.specs.Lcg.{state_after}

same : (x y : ℤ) → int_eq x y ≡ true → x ≡ y
same x y e = (Decides-int_eq x y).0 e

among : (xs : List ℤ) (x : ℤ) → list_any (int_eq x) xs ≡ true → Contains xs x
among xs x e = Contains-from_any same x xs e

both_true : (a b : Bool) → (a && b) ≡ true → (a ≡ true) × (b ≡ true)
both_true true true e = (refl, refl)
both_true true false e = absurd cc
both_true false b e = absurd cc

ends_behind : (x : ℤ) → Contains (pos 3 ∷ pos 4 ∷ pos 5 ∷ []) x → CanTake worked [] x
ends_behind x (zero, l, e) = subst (CanTake worked []) e (record { behind = []; ends = refl })
ends_behind x (suc zero, l, e) = subst (CanTake worked []) e (record { behind = pos 10 ∷ []; ends = refl })
ends_behind x (suc (suc zero), l, e) = subst (CanTake worked []) e (record { behind = []; ends = refl })
ends_behind x (suc (suc (suc k)), l, e) = absurd (omega (arith, l))

begins : (x : ℤ) (behind : List ℤ) → worked (x ∷ behind) ≡ true → Contains (pos 3 ∷ pos 4 ∷ pos 5 ∷ []) x
begins x [] e = go (among (pos 3 ∷ pos 5 ∷ []) x e) where
  go : Contains (pos 3 ∷ pos 5 ∷ []) x → Contains (pos 3 ∷ pos 4 ∷ pos 5 ∷ []) x
  go (zero, l, q) = (0, omega arith, q)
  go (suc zero, l, q) = (2, omega arith, q)
  go (suc (suc k), l, q) = absurd (omega (arith, l))
begins x (y ∷ []) e = (1, omega arith, sym (same x (pos 4) (both_true _ _ e).0))
begins x (y ∷ z ∷ zs) e = absurd cc

goes_on : (x : ℤ) → Contains (pos 10 ∷ pos 20 ∷ []) x → CanTake worked (pos 4 ∷ []) x
goes_on x (zero, l, e) = subst (CanTake worked (pos 4 ∷ [])) e (record { behind = []; ends = refl })
goes_on x (suc zero, l, e) = subst (CanTake worked (pos 4 ∷ [])) e (record { behind = []; ends = refl })
goes_on x (suc (suc k), l, e) = absurd (omega (arith, l))

is_second : (y : ℤ) (behind : List ℤ) → worked (pos 4 ∷ y ∷ behind) ≡ true → Contains (pos 10 ∷ pos 20 ∷ []) y
is_second y [] e = among (pos 10 ∷ pos 20 ∷ []) y e
is_second y (z ∷ zs) e = absurd cc

first_options : AreOptions worked [] (pos 3 ∷ pos 4 ∷ pos 5 ∷ [])
first_options = record {
  rising = search (arith, ints);
  all = λ x. (ends_behind x, λ t. begins x t.behind t.ends);
}

second_options : AreOptions worked (pos 4 ∷ []) (pos 10 ∷ pos 20 ∷ [])
second_options = record {
  rising = search (arith, ints);
  all = λ y. (goes_on y, λ t. is_second y t.behind t.ends);
}

pub options_are_worked : OptionsAreWorked
options_are_worked = (first_options, second_options)

pub draws_are_worked : DrawsAreWorked
draws_are_worked =
    one_more_drawn worked words 7 (pos 4 ∷ []) (pos 20)
    (one_more_drawn worked words 7 [] (pos 4) (none_drawn worked words 7) (record { goes_on = refl; options = _; are = first_options; takes = refl }))
    (record { goes_on = refl; options = _; are = second_options; takes = refl })

pub words_are_worked : WordsAreWorked
unfolding state_after
words_are_worked = record { first = refl; second = refl; first_of_next = refl; second_of_next = refl }
