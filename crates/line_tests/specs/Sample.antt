-- The names of two processes a and b: a has the variables `bit`, of one cell, and `held`, of two.
use Rattle.std.specs.Prelude.{ℕ, List, [], ◌∷◌, codes}
use Rattle.run_text.specs.declared.names.VarName.{VarName}

abbrev pub process_names : List (List ℕ)
process_names = codes "a" ∷ codes "b" ∷ []

abbrev pub own_vars : List (List VarName)
own_vars = (record { text = codes "bit"; cells = 1 } ∷ record { text = codes "held"; cells = 2 } ∷ []) ∷ [] ∷ []
