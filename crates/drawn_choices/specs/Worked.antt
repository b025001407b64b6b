-- Draws, worked on a body that takes 3, 4 or 5 and then, behind a 4, one of 10 and 20.
use Rattle.std.specs.Prelude.{ℕ, ◌^◌, ◌≡◌, ◌==◌, ℤ, pos, Bool, false, if◌then◌else◌, List, [], ◌∷◌, ◌&&◌}
use Rattle.std.specs.List.{list_any}
use Rattle.std.specs.Ordering.{int_eq}
use Rattle.drawn_choices.specs.Draws.{AreDrawn, AreOptions, generator_of, word_from}

-- which choices lead it to its end
abbrev pub worked : List ℤ → Bool
worked (x ∷ []) = list_any (int_eq x) (pos 3 ∷ pos 5 ∷ [])
worked (x ∷ y ∷ []) = int_eq x (pos 4) && list_any (int_eq y) (pos 10 ∷ pos 20 ∷ [])
worked _ = false

-- At its first choice it has three options, and behind a 4 it has two.
abbrev pub OptionsAreWorked : Type 0
OptionsAreWorked = AreOptions worked [] (pos 3 ∷ pos 4 ∷ pos 5 ∷ []) × AreOptions worked (pos 4 ∷ []) (pos 10 ∷ pos 20 ∷ [])

-- The word numbered 7 is the least one that takes the second of three, the next one the least that takes the second of two.
abbrev pub words : ℕ → ℕ
words k = if k == 7 then 1431655766 else 2 ^ 31

-- From the word numbered 7 on, these choices are drawn.
abbrev pub DrawsAreWorked : Type 0
DrawsAreWorked = AreDrawn worked words 7 (pos 4 ∷ pos 20 ∷ [])

-- the first two words of the processes 0 and 1 with the seed 0
pub record WordsAreWorked : Type 0 where
  pub first : word_from (generator_of 0 0) 0 ≡ 3837872008
  pub second : word_from (generator_of 0 0) 1 ≡ 932996374
  pub first_of_next : word_from (generator_of 0 1) 0 ≡ 257813417
  pub second_of_next : word_from (generator_of 0 1) 1 ≡ 407017181
