-- A generator as a source of choices.
use Rattle.std.specs.Prelude.{ℤ, Bool, true, List, [], ◌∷◌, ◌++◌, Some}
use Rattle.rand_pcg.specs.Lcg.{Lcg}
use Rattle.tap_base.specs.Option.{◌>>=◌}
use Rattle.tap_exec.specs.Sourced.{Source}
use Rattle.drawn_choices.specs.declared.drawing.Drawing.{Drawing}
use Rattle.drawn_choices.specs.Draws.{after_words, option_drawn, word_from}

-- Its next word takes one of the options, and it comes behind those that were taken.
abbrev pub drawing : Source Drawing
drawing options from = do
  x ← option_drawn options (word_from from.generator 0)
  Some (x, record { generator = after_words 1 from.generator; taken = from.taken ++ x ∷ [] })

-- a body may end wherever it comes to its end
abbrev pub may_end : Drawing → Bool
may_end from = true

-- a generator that has given nothing yet
abbrev pub drawing_from : Lcg → Drawing
drawing_from g = record { generator = g; taken = [] }
