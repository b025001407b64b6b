-- The runs of a world: which labels answer a list of events from its opening state.
use Rattle.std.specs.Prelude.{◌≡◌, ℕ, ◌≤◌, List, [], ◌∷◌, ◌++◌}
use Rattle.abstract_run.specs.Answers.{Answers, Serves}
use Rattle.abstract_run.specs.CellCount.{cells_in}
use Rattle.abstract_run.specs.declared.label.Event.{Event}
use Rattle.abstract_run.specs.declared.label.Label.{Label}
use Rattle.abstract_run.specs.declared.state.State.{State}
use Rattle.tap_exec.specs.Semantics.{Semantics}
use Rattle.exact_choice.specs.Choice.{ChoosesInTurn}
use Rattle.exact_choice.specs.Draws.{DrawsInOrder}
use Rattle.exact_choice.specs.Rejects.{RejectsInOrder}
use Rattle.world_run.specs.Served.{full_from}
use Rattle.world_run.specs.declared.course.Course.{Course}

-- The labels answer the events, as they do anyhow, and each event was reached with at most 99,936 cells in the channels.
abbrev pub AnswersInRoom : Semantics → State → List Event → List Label → State → Type 0
AnswersInRoom semantics s [] labels t = (labels ≡ []) × (t ≡ s)
AnswersInRoom semantics s (e ∷ es) labels t =
    (cells_in s ≤ full_from) × ((segment rest : List Label) × (next : State) × (labels ≡ segment ++ rest) × Serves semantics s e segment next × AnswersInRoom semantics next es rest t)

-- From a state on the labels answer the events, each of which was reached with at most 99,936 cells, and end in the last
-- state. Each action that runs is the first enabled one of its process in cyclic order, from the one after the last that
-- ran; each error that is rejected is the one of its process that arrived first; and the choices of each process are drawn by
-- its generator, which the seed and its number give.
pub record IsRunFrom (seed : ℕ) (semantics : Semantics) (start : State) (events : List Event) (labels : List Label) (last : State) : Type 0 where
  pub answers : Answers semantics start events labels last
  pub in_room : AnswersInRoom semantics start events labels last
  pub chosen : ChoosesInTurn semantics start labels
  pub rejected : RejectsInOrder semantics start labels
  pub drawn : DrawsInOrder seed semantics start labels

-- How far a run has come: its labels answer the events, and its last state, the cursors, the errors that wait and the
-- generators are those of the course.
pub record HasRun (seed : ℕ) (semantics : Semantics) (start : State) (events : List Event) (labels : List Label) (course : Course) : Type 0 where
  pub run : IsRunFrom seed semantics start events labels course.state
  pub cursors : run.chosen.cursors ≡ course.turnstiles
  pub errors : run.rejected.errors ≡ course.errors
  pub generators : run.drawn.generators ≡ course.generators
