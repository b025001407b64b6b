-- Faults, rejects and stops, worked on small cases.
use Rattle.std.specs.Prelude.{◌≡◌, ℕ, pos, true, false, List, [], ◌∷◌, Option, Some, None}
use Rattle.std.specs.Option.{option_map}
use Rattle.tap_exec.specs.declared.running.TimerState.TheVariants as timer
use Rattle.byte_meaning.specs.declared.cell.Cell.{Cell}
use Rattle.byte_meaning.specs.declared.cell.Cell.TheVariants as cell
use Rattle.abstract_run.specs.declared.label.Label.{Label}
use Rattle.abstract_run.specs.declared.label.Label.TheVariants as label
use Rattle.abstract_run.specs.declared.state.Falling.{Falling}
use Rattle.abstract_run.specs.declared.state.State.{State}
use Rattle.abstract_run.specs.Step.{After, step}
use Rattle.run_examples.specs.WorkedRuns.{message, no_cuts, pair, state, stores}

-- the pair, with these cells in flight from a to b behind so many that have arrived
abbrev pub flying : List Cell → ℕ → State
flying cells mark = state stores (timer.Off ∷ []) (0 ∷ 0 ∷ []) no_cuts None cells mark

-- the cells and marks after a label
abbrev pub leaves : List Cell → ℕ → Label → List Cell → ℕ → Type 0
leaves cells mark l after later = option_map (λ (a : After). a.0) (step pair (flying cells mark) l) ≡ Some (flying after later)

abbrev pub error : Cell
error = cell.Error

-- ---- faults

-- Of 1, 2 and 3 the first has arrived: the copy of the first in flight comes directly behind it.
abbrev pub CopyComesDirectlyBehind : Type 0
CopyComesDirectlyBehind = leaves (message 1 ∷ message 2 ∷ message 3 ∷ []) 1 (label.Copy 0 1 0) (message 1 ∷ message 2 ∷ message 2 ∷ message 3 ∷ []) 1

-- The first in flight goes to the place 2: it stands behind the two others, which are counted without it.
abbrev pub MoveCountsWithoutIt : Type 0
MoveCountsWithoutIt =
    leaves (message 1 ∷ message 2 ∷ message 3 ∷ message 4 ∷ message 5 ∷ []) 1 (label.Move 0 1 0 2) (message 1 ∷ message 3 ∷ message 4 ∷ message 2 ∷ message 5 ∷ []) 1

-- There is no place behind the last.
abbrev pub NoneIsMoved : Type 0
NoneIsMoved = step pair (flying (message 1 ∷ message 2 ∷ []) 1) (label.Move 0 1 0 1) ≡ None

-- The second in flight becomes what the byte 9 means; all others stay.
abbrev pub DamageChangesOne : Type 0
DamageChangesOne = leaves (message 1 ∷ message 2 ∷ message 2 ∷ []) 1 (label.Damage 0 1 1 (9 ∷ [])) (message 1 ∷ message 2 ∷ message 9 ∷ []) 1

-- A forged byte comes at the end as the message that it spells,
abbrev pub BytesAreTheirMeaning : Type 0
BytesAreTheirMeaning = leaves (message 1 ∷ []) 0 (label.Forge 0 1 (7 ∷ [])) (message 1 ∷ message 7 ∷ []) 0

-- and two bytes, which spell none, as an error.
abbrev pub BytesOfNoneAreErrors : Type 0
BytesOfNoneAreErrors = leaves (message 1 ∷ []) 0 (label.Forge 0 1 (7 ∷ 7 ∷ [])) (message 1 ∷ error ∷ []) 0

-- ---- rejects

-- An error that has arrived goes, by its place from the head.
abbrev pub ErrorIsRejected : Type 0
ErrorIsRejected = leaves (message 1 ∷ error ∷ message 2 ∷ []) 2 (label.Reject 0 1 1) (message 1 ∷ message 2 ∷ []) 1

-- A message does not, nor an error in flight.
abbrev pub MessageIsNotRejected : Type 0
MessageIsNotRejected =
    (step pair (flying (message 1 ∷ error ∷ []) 2) (label.Reject 0 1 0) ≡ None) × (step pair (flying (message 1 ∷ error ∷ []) 1) (label.Reject 0 1 1) ≡ None)

-- ---- stops

-- the pair where a is down
abbrev pub downed : List Cell → State
downed cells = record (flying cells 0) { down = true ∷ false ∷ [] }

-- the pair with a cut of a, and perhaps a fallen one
abbrev pub cut_by : Option ℕ → Option Falling → List Cell → State
cut_by cut falling cells = record (flying cells 0) { cuts = cut ∷ None ∷ []; falling = falling }

-- the state after a step
abbrev pub first_of : Option After → Option State
first_of o = option_map (λ (a : After). a.0) o

-- A process whose cut is 0 stops,
abbrev pub StopAtZero : Type 0
StopAtZero = first_of (step pair (cut_by (Some 0) None (message 1 ∷ [])) (label.Stop 0 [])) ≡ Some (downed (message 1 ∷ []))

-- and none whose cut is 1.
abbrev pub StopNotAtOne : Type 0
StopNotAtOne = step pair (cut_by (Some 1) None []) (label.Stop 0 []) ≡ None

abbrev pub to_b_twice : Falling
to_b_twice = record { process = 0; receivers = 1 ∷ 1 ∷ [] }

-- Where two sends to b failed, the last two cells to b go as a stops.
abbrev pub FallingTakesBack : Type 0
FallingTakesBack = first_of (step pair (cut_by (Some 1) (Some to_b_twice) (message 1 ∷ message 2 ∷ message 3 ∷ [])) (label.Stop 0 (1 ∷ 1 ∷ []))) ≡ Some (downed (message 1 ∷ []))

-- The stop that is due names them all.
abbrev pub OthersAreNotTakenBack : Type 0
OthersAreNotTakenBack = step pair (cut_by (Some 1) (Some to_b_twice) (message 1 ∷ message 2 ∷ message 3 ∷ [])) (label.Stop 0 (1 ∷ [])) ≡ None

-- A process that is down has its own label, and reads no clock.
abbrev pub DownStaysDown : Type 0
DownStaysDown = (first_of (step pair (downed []) (label.Down 0)) ≡ Some (downed [])) × (step pair (downed []) (label.Tick 0 5) ≡ None)

-- A message that waits does not keep b from being flooded; the action of a, which is always enabled, keeps a.
abbrev pub FloodAsksForNoReceive : Type 0
FloodAsksForNoReceive = leaves (message 1 ∷ []) 1 (label.Flood 1) (message 1 ∷ []) 1 × (step pair (flying (message 1 ∷ []) 1) (label.Flood 0) ≡ None)
