-- What a world does in an event.
use Rattle.std.specs.Prelude.{◌≡◌, ℕ, ◌<◌, ◌≤◌, Bool, true, false, List, [], ◌++◌, length, flat_map, None, Some, Result, Ok, Err}
use Rattle.tap_base.specs.declared.system.System.{System}
use Rattle.tap_base.specs.declared.wire.Wire.{Wire}
use Rattle.tap_base.specs.Lists.{Each}
use Rattle.tap_base.specs.Option.{each}
use Rattle.tap_exec.specs.declared.running.Outgoing.{Outgoing}
use Rattle.tap_exec.specs.Semantics.{Semantics, semantics_of}
use Rattle.abstract_run.specs.declared.label.Event.{Event}
use Rattle.abstract_run.specs.declared.label.Event.TheVariants as event
use Rattle.abstract_run.specs.declared.label.Label.{Label}
use Rattle.abstract_run.specs.declared.state.State.{State}
use Rattle.abstract_run.specs.Answers.{Serves}
use Rattle.abstract_run.specs.CellCount.{cells_in}
use Rattle.abstract_run.specs.Fits.{Fits}
use Rattle.abstract_run.specs.Run.{state_after}
use Rattle.byte_meaning.specs.Messages.{AreValuesOf}
use Rattle.exact_choice.specs.Runnable.{IsRunnable}
use Rattle.exact_choice.specs.Choice.{AllChoose, AreCursorsOf, opening_cursors}
use Rattle.exact_choice.specs.Draws.{AllDraw, opening_generators}
use Rattle.exact_choice.specs.Moments.{moments}
use Rattle.exact_choice.specs.Rejects.{AllReject, AreErrorsOf, opening_errors}
use Rattle.run_text.specs.ScheduleText.{AreTwo}
use Rattle.run_text.specs.Sized.{AreDatagram, IsSized}
use Rattle.run_text.specs.TraceText.{Datagram, datagram, lines_text, run_lines, with_sents}
use Rattle.world_run.specs.declared.course.Course.{Course}
use Rattle.world_run.specs.declared.deeds.Deeds.{Deeds}
use Rattle.world_run.specs.declared.fault.WorldFault.{WorldFault}
use Rattle.world_run.specs.declared.fault.WorldFault.TheVariants as fault
use Rattle.world_run.specs.Layouts.{IsLayoutOf}

-- ---- courses

-- A course of a run that fits what is said of a system: its state fits, there is a cursor for each process, a generator
-- and a list of the errors that have arrived at it, and the count is that of the cells.
pub record IsCourse (semantics : Semantics) (course : Course) : Type 0 where
  pub fits : Fits semantics course.state
  pub cursors : AreCursorsOf semantics course.turnstiles
  pub generators : length course.generators ≡ length semantics.processes
  pub errors : AreErrorsOf semantics course.state course.errors
  pub cells : course.cells ≡ cells_in course.state

-- It fits, and nothing is falling.
pub record IsSteady (semantics : Semantics) (course : Course) : Type 0 where
  pub whole : IsCourse semantics course
  pub settled : course.state.falling ≡ None

-- ---- events

-- An event names processes, of so many, and two different ones where it names two. The bytes that it has are no more than
-- a datagram can have.
abbrev pub NamesProcesses : ℕ → Event → Type 0
NamesProcesses n (event.Turn p c) = p < n
NamesProcesses n (event.Arrive q p) = AreTwo n q p
NamesProcesses n (event.Lose q p i) = AreTwo n q p
NamesProcesses n (event.Copy q p i) = AreTwo n q p
NamesProcesses n (event.Move q p i j) = AreTwo n q p
NamesProcesses n (event.Damage q p i bytes) = AreTwo n q p × AreDatagram bytes
NamesProcesses n (event.Forge q p bytes) = AreTwo n q p × AreDatagram bytes
NamesProcesses n (event.Cut p k) = p < n

-- ---- what is done

-- no labels, and nothing went out
abbrev pub no_deeds : Deeds
no_deeds = record { labels = []; sent = [] }

-- The labels from a state on were recorded behind others, and what went out with them behind what had gone out before: as
-- messages, with a value for each field.
pub record Recorded (semantics : Semantics) (s : State) (labels : List Label) (before after : Deeds) : Type 0 where
  pub pairs : List (Label × List Datagram)
  pub shown : with_sents semantics s labels ≡ Some pairs
  pub labels_are : after.labels ≡ before.labels ++ labels
  pub out : List Outgoing
  pub sent_are : after.sent ≡ before.sent ++ out
  pub fitting : Each (λ o. AreValuesOf semantics.messages o.message o.values) out
  pub spelled : each (datagram semantics) out ≡ Some (flat_map (λ x. x.1) pairs)

-- Labels were done, one after another, and were recorded behind others. Each action is the first enabled one of its
-- process in cyclic order from its cursor, which goes on, and its choices are drawn by the next words of the generator of
-- its process, one each. Each error that is rejected is the one of its process that arrived first.
pub record Happened (semantics : Semantics) (labels : List Label) (old new : Course) (before after : Deeds) : Type 0 where
  pub ran : state_after semantics old.state labels ≡ Some new.state
  pub chosen : AllChoose semantics (moments semantics old.state labels) old.turnstiles new.turnstiles
  pub drawn : AllDraw semantics (moments semantics old.state labels) old.generators new.generators
  pub rejected : AllReject (moments semantics old.state labels) old.errors new.errors
  pub sized : Each (IsSized (length semantics.processes)) labels
  pub recorded : Recorded semantics old.state labels before after

-- One event took place: its labels are a segment, and they were done.
pub record TookPlace (semantics : Semantics) (event : Event) (old new : Course) (before after : Deeds) : Type 0 where
  pub labels : List Label
  pub serves : Serves semantics old.state event labels new.state
  pub happened : Happened semantics labels old new before after

-- ---- what is written

-- The lines of the labels from a state on were written behind a text.
pub record WroteLines (semantics : Semantics) (s : State) (labels : List Label) (before after : List ℕ) : Type 0 where
  pub lines : List (List ℕ)
  pub shown : run_lines semantics s labels ≡ Some lines
  pub told : after ≡ before ++ lines_text lines

-- Labels were done as above, and their lines were written behind a text.
pub record Did (semantics : Semantics) (labels : List Label) (old new : Course) (before after : List ℕ) : Type 0 where
  pub ran : state_after semantics old.state labels ≡ Some new.state
  pub chosen : AllChoose semantics (moments semantics old.state labels) old.turnstiles new.turnstiles
  pub drawn : AllDraw semantics (moments semantics old.state labels) old.generators new.generators
  pub rejected : AllReject (moments semantics old.state labels) old.errors new.errors
  pub sized : Each (IsSized (length semantics.processes)) labels
  pub wrote : WroteLines semantics old.state labels before after

-- One event was served: its labels are a segment, they were done, and their lines were written.
pub record Served (semantics : Semantics) (event : Event) (old new : Course) (before after : List ℕ) : Type 0 where
  pub labels : List Label
  pub serves : Serves semantics old.state event labels new.state
  pub did : Did semantics labels old new before after

-- ---- worlds

-- a world, as its callers see it
pub record WorldValue : Type 0 where
  pub system : System
  -- of its draws
  pub seed : ℕ
  -- how the messages of the system are written as bytes
  pub layout : Wire
  pub course : Course
  -- what the last event did that was served
  pub last : Deeds
  -- whether memory was refused within an event
  pub ended : Bool

-- The system can be run, the layout is its own, and unless the world has ended the course fits, with nothing falling.
pub record IsWhole (system : System) (layout : Wire) (course : Course) (ended : Bool) : Type 0 where
  pub runnable : IsRunnable system
  pub layout_is : IsLayoutOf system layout
  pub steady : ended ≡ false → IsSteady (semantics_of system) course

-- A world that can go on: it is whole, and has not ended.
pub record GoesOn (world : WorldValue) : Type 0 where
  pub runnable : IsRunnable world.system
  pub layout : IsLayoutOf world.system world.layout
  pub steady : IsSteady (semantics_of world.system) world.course
  pub going : world.ended ≡ false

-- A world that has served no event: in each process it is the first action's turn, its choices are drawn by the seed and its
-- number, no error has arrived, and no label is recorded.
pub record IsFresh (world : WorldValue) : Type 0 where
  pub goes_on : GoesOn world
  pub cursors : world.course.turnstiles ≡ opening_cursors (semantics_of world.system)
  pub generators : world.course.generators ≡ opening_generators world.seed (semantics_of world.system)
  pub errors : world.course.errors ≡ opening_errors (semantics_of world.system)
  pub last : world.last ≡ no_deeds

-- ---- what is answered

-- with more cells than these a world serves no event
abbrev pub full_from : ℕ
full_from = 99936

-- A world that serves the next event: it has not ended, and there is room in its channels.
pub record CanServe (world : WorldValue) : Type 0 where
  pub going : world.ended ≡ false
  pub room : cells_in world.course.state ≤ full_from

-- One that has not ended either, with so many cells in its channels: too many.
pub record IsOverfull (world : WorldValue) (cells : ℕ) : Type 0 where
  pub going : world.ended ≡ false
  pub many : full_from < cells
  pub counted : cells ≡ cells_in world.course.state

-- An event takes place, and what it did stands in the place of what the last one did, unless there are too many cells, or the
-- world has ended; it ends where memory is refused.
abbrev pub AnswersEvent : Event → WorldValue → Result Unit WorldFault → WorldValue → Type 0
AnswersEvent event old (Ok x) new = CanServe old × TookPlace (semantics_of old.system) event old.course new.course no_deeds new.last × GoesOn new
AnswersEvent event old (Err (fault.Full cells)) new = IsOverfull old cells × (new ≡ old)
AnswersEvent event old (Err fault.Ended) new = (old.ended ≡ true) × (new ≡ old)
AnswersEvent event old (Err fault.NoMemory) new = CanServe old × (new.last ≡ old.last) × (new.ended ≡ true)

-- An event is served, and its lines are written behind a text, on the same terms; with any other answer the text stays.
abbrev pub Answers : Event → WorldValue → List ℕ → Result Unit WorldFault → WorldValue → List ℕ → Type 0
Answers event old before (Ok x) new after = CanServe old × Served (semantics_of old.system) event old.course new.course before after × GoesOn new
Answers event old before (Err (fault.Full cells)) new after = IsOverfull old cells × (new ≡ old) × (after ≡ before)
Answers event old before (Err fault.Ended) new after = (old.ended ≡ true) × (new ≡ old) × (after ≡ before)
Answers event old before (Err fault.NoMemory) new after = CanServe old × (new.ended ≡ true) × (after ≡ before)
