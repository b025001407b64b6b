-- Steps and fitting states, worked on small cases.
use Rattle.std.specs.Prelude.{◌≡◌, ℕ, ℤ, pos, true, false, List, [], ◌∷◌, Option, Some, None, IfSome}
use Rattle.std.specs.Option.{option_map}
use Rattle.tap_base.specs.Lists.{Each}
use Rattle.tap_base.specs.declared.system.Var.{Var}
use Rattle.tap_base.specs.declared.tree.Stmt.{Stmt}
use Rattle.tap_base.specs.declared.tree.Stmt.TheVariants as stmt
use Rattle.tap_base.specs.declared.wire.WireField.{WireField}
use Rattle.abstract_run.specs.declared.label.Label.TheVariants as label
use Rattle.abstract_run.specs.declared.state.State.{State}
use Rattle.byte_meaning.specs.declared.cell.Cell.{Cell}
use Rattle.byte_meaning.specs.declared.cell.Cell.TheVariants as cell
use Rattle.abstract_run.specs.declared.state.Falling.{Falling}
use Rattle.tap_exec.specs.declared.running.TimerState.{TimerState}
use Rattle.tap_exec.specs.declared.running.TimerState.TheVariants as timer
use Rattle.tap_exec.specs.Execution.{execution}
use Rattle.abstract_run.specs.Fits.{CellsFit, FallingFits, HasEntries, IsFitChannel, TimesFit, ValuesAreIn}
use Rattle.tap_exec.specs.Semantics.{ActionSemantics, Semantics, local, receive}
use Rattle.abstract_run.specs.Step.{After, step}
use Rattle.tap_exec.specs.Worked.{number}

-- ---- a system of two processes

-- a message of one field of 8 bits
abbrev pub byte_message : List WireField
byte_message = record { width = 8; fixed = None } ∷ []

abbrev pub truth_var : Var
truth_var = record { name = 120 ∷ []; range = record { lo = pos 0; hi = pos 1 }; cells = 1; initial = pos 0 }

-- what an action of the body does whenever it is tried
abbrev pub always : List Stmt → ActionSemantics
always body = record { guard = local (λ cells inputs. true); body = λ inputs values. execution (byte_message ∷ []) inputs values body }

-- a starts its timer and sends the message twice to b, which receives it
abbrev pub pair : Semantics
pair = record {
  messages = byte_message ∷ [];
  processes =
      record {
        name = 97 ∷ [];
        inputs = [];
        vars = truth_var ∷ [];
        timers = 1;
        actions = always (stmt.Start 0 (number 200) ∷ stmt.Send 0 (number 1 ∷ []) 1 ∷ stmt.Send 0 (number 2 ∷ []) 1 ∷ []) ∷ [];
      }
      ∷ record {
        name = 98 ∷ [];
        inputs = [];
        vars = [];
        timers = 0;
        actions = record { guard = receive 0 0; body = λ inputs values. execution (byte_message ∷ []) inputs values [] } ∷ [];
      }
      ∷ [];
}

-- a state of the pair
abbrev pub state : List (List ℤ) → List TimerState → List ℕ → List (Option ℕ) → Option Falling → List Cell → ℕ → State
state stores timers times cuts falling cells mark = record {
  inputs = record { of = [] ∷ [] ∷ [] };
  stores = stores;
  timers = timers ∷ [] ∷ [];
  times = times;
  down = false ∷ false ∷ [];
  cuts = cuts;
  falling = falling;
  channels = record { from = 0; to = 1; cells = cells; mark = mark } ∷ record { from = 1; to = 0; cells = []; mark = 0 } ∷ [];
}

abbrev pub stores : List (List ℤ)
stores = (pos 0 ∷ []) ∷ [] ∷ []

abbrev pub no_cuts : List (Option ℕ)
no_cuts = None ∷ None ∷ []

abbrev pub message : ℕ → Cell
message n = cell.Msg 0 (pos n ∷ [])

-- ---- steps

abbrev pub started : State
started = state stores (timer.Armed 200 ∷ []) (10 ∷ 0 ∷ []) no_cuts None (message 1 ∷ message 2 ∷ []) 0

-- An action that starts a timer arms it with its delay.
abbrev pub StartArms : Type 0
StartArms = option_map (λ (a : After). a.0) (step pair (state stores (timer.Off ∷ []) (10 ∷ 0 ∷ []) no_cuts None [] 0) (label.Act 0 0 [])) ≡ Some started

-- The next reading makes it due at the new time plus the delay.
abbrev pub ReadingMakesDue : Type 0
ReadingMakesDue = option_map (λ (a : After). a.0) (step pair started (label.Tick 0 15))
    ≡ Some (state stores (timer.Due 215 ∷ []) (15 ∷ 0 ∷ []) no_cuts None (message 1 ∷ message 2 ∷ []) 0)

-- An earlier reading leaves the time, and the timer becomes due at that time plus the delay.
abbrev pub TimeStays : Type 0
TimeStays = option_map (λ (a : After). a.0) (step pair started (label.Tick 0 5))
    ≡ Some (state stores (timer.Due 210 ∷ []) (10 ∷ 0 ∷ []) no_cuts None (message 1 ∷ message 2 ∷ []) 0)

-- A cut of 2 falls at the second send: both are in the channel still, and the second is to be taken back.
abbrev pub CutFalls : Type 0
CutFalls = option_map (λ (a : After). a.0) (step pair (state stores (timer.Off ∷ []) (10 ∷ 0 ∷ []) (Some 2 ∷ None ∷ []) None [] 0) (label.Act 0 0 []))
    ≡ Some (state stores (timer.Armed 200 ∷ []) (10 ∷ 0 ∷ []) (Some 2 ∷ None ∷ []) (Some (record { process = 0; receivers = 1 ∷ [] })) (message 1 ∷ message 2 ∷ []) 0)

-- A cut of 5 is 3 after two sends.
abbrev pub CutComesNearer : Type 0
CutComesNearer = option_map (λ (a : After). a.0) (step pair (state stores (timer.Off ∷ []) (10 ∷ 0 ∷ []) (Some 5 ∷ None ∷ []) None [] 0) (label.Act 0 0 []))
    ≡ Some (state stores (timer.Armed 200 ∷ []) (10 ∷ 0 ∷ []) (Some 3 ∷ None ∷ []) None (message 1 ∷ message 2 ∷ []) 0)

-- While a stop is falling no process reads its clock.
abbrev pub FallingComesFirst : Type 0
FallingComesFirst = step pair (state stores (timer.Off ∷ []) (10 ∷ 0 ∷ []) (Some 2 ∷ None ∷ []) (Some (record { process = 0; receivers = 1 ∷ [] })) (message 1 ∷ message 2 ∷ []) 0) (label.Tick 1 0) ≡ None

-- ---- fitting states

-- all that a fitting state has, each part by itself
abbrev pub FitsBut : Type 0 → Type 0 → Type 0 → Type 0 → Type 0 → Type 0 → Type 0
FitsBut entries values channels falling times cells = entries × values × channels × falling × times × cells

-- no time of b
abbrev pub lacks_entry : State
lacks_entry = state stores (timer.Off ∷ []) (10 ∷ []) no_cuts None [] 0

abbrev pub EntriesCount : Type 0
EntriesCount = FitsBut (HasEntries pair lacks_entry → ⊥) (ValuesAreIn pair lacks_entry) (Each IsFitChannel lacks_entry.channels)
    (IfSome lacks_entry.falling (FallingFits lacks_entry)) (TimesFit lacks_entry) (CellsFit pair lacks_entry.channels)

-- a cell of 2 in the range 0..1
abbrev pub leaves_range : State
leaves_range = state ((pos 2 ∷ []) ∷ [] ∷ []) (timer.Off ∷ []) (10 ∷ 0 ∷ []) no_cuts None [] 0

abbrev pub ValuesCount : Type 0
ValuesCount = FitsBut (HasEntries pair leaves_range) (ValuesAreIn pair leaves_range → ⊥) (Each IsFitChannel leaves_range.channels)
    (IfSome leaves_range.falling (FallingFits leaves_range)) (TimesFit leaves_range) (CellsFit pair leaves_range.channels)

-- a mark behind the only cell
abbrev pub marks_nothing : State
marks_nothing = state stores (timer.Off ∷ []) (10 ∷ 0 ∷ []) no_cuts None (message 1 ∷ []) 2

abbrev pub ChannelsCount : Type 0
ChannelsCount = FitsBut (HasEntries pair marks_nothing) (ValuesAreIn pair marks_nothing) (Each IsFitChannel marks_nothing.channels → ⊥)
    (IfSome marks_nothing.falling (FallingFits marks_nothing)) (TimesFit marks_nothing) (CellsFit pair marks_nothing.channels)

-- a falling stop that takes nothing back
abbrev pub falls_in_vain : State
falls_in_vain = state stores (timer.Off ∷ []) (10 ∷ 0 ∷ []) no_cuts (Some (record { process = 0; receivers = [] })) [] 0

abbrev pub FallingCounts : Type 0
FallingCounts = FitsBut (HasEntries pair falls_in_vain) (ValuesAreIn pair falls_in_vain) (Each IsFitChannel falls_in_vain.channels)
    (IfSome falls_in_vain.falling (FallingFits falls_in_vain) → ⊥) (TimesFit falls_in_vain) (CellsFit pair falls_in_vain.channels)

-- an armed delay of more than 32 bits
abbrev pub waits_too_long : State
waits_too_long = state stores (timer.Armed 4294967296 ∷ []) (10 ∷ 0 ∷ []) no_cuts None [] 0

abbrev pub TimesCount : Type 0
TimesCount = FitsBut (HasEntries pair waits_too_long) (ValuesAreIn pair waits_too_long) (Each IsFitChannel waits_too_long.channels)
    (IfSome waits_too_long.falling (FallingFits waits_too_long)) (TimesFit waits_too_long → ⊥) (CellsFit pair waits_too_long.channels)

-- a field of 8 bits that has 256
abbrev pub overflows_field : State
overflows_field = state stores (timer.Off ∷ []) (10 ∷ 0 ∷ []) no_cuts None (message 256 ∷ []) 0

abbrev pub CellsCount : Type 0
CellsCount = FitsBut (HasEntries pair overflows_field) (ValuesAreIn pair overflows_field) (Each IsFitChannel overflows_field.channels)
    (IfSome overflows_field.falling (FallingFits overflows_field)) (TimesFit overflows_field) (CellsFit pair overflows_field.channels → ⊥)
