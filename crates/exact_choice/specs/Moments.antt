-- The labels of a run, each with the state before it.
use Rattle.std.specs.Prelude.{List, [], ◌∷◌, unwrap_or}
use Rattle.std.specs.Option.{option_map}
use Rattle.abstract_run.specs.declared.label.Label.{Label}
use Rattle.abstract_run.specs.declared.state.State.{State}
use Rattle.tap_exec.specs.Semantics.{Semantics}
use Rattle.abstract_run.specs.Step.{step}

-- a state, and a label that comes there
abbrev pub Moment : Type 0
Moment = State × Label

-- the moments of a run, up to the first label that is not possible
abbrev pub moments : Semantics → State → List Label → List Moment
moments semantics s [] = []
moments semantics s (l ∷ ls) = (s, l) ∷ unwrap_or (option_map (λ after. moments semantics after.0 ls) (step semantics s l)) []
