-- A message on its way, and spellings, worked on small cases.
use Rattle.std.specs.Prelude.{◌≡◌, ℕ, pos, false, List, [], ◌∷◌, Some, None}
use Rattle.tap_base.specs.declared.tree.Expr.{Expr}
use Rattle.tap_base.specs.declared.tree.ExprKind.TheVariants as kind
use Rattle.tap_base.specs.declared.tree.Stmt.TheVariants as stmt
use Rattle.tap_base.specs.declared.wire.WireField.{WireField}
use Rattle.abstract_run.specs.declared.label.Label.TheVariants as label
use Rattle.byte_meaning.specs.declared.cell.Cell.{Cell}
use Rattle.abstract_run.specs.declared.state.State.{State}
use Rattle.tap_exec.specs.Execution.{execution}
use Rattle.tap_exec.specs.Semantics.{Semantics, receive}
use Rattle.abstract_run.specs.Run.{state_after}
use Rattle.byte_meaning.specs.Spelling.{spelling}
use Rattle.abstract_run.specs.Step.{step}
use Rattle.tap_exec.specs.Worked.{here, number, to_cell}
use Rattle.run_examples.specs.WorkedRuns.{always, byte_message, message}

-- ---- a message on its way

abbrev pub part_of : ℕ → Expr
part_of k = record { kind = kind.Part k; place = here }

-- a sends 7 to b, which keeps what it receives
abbrev pub sender : Semantics
sender = record {
  messages = byte_message ∷ [];
  processes =
      record { name = 97 ∷ []; inputs = []; vars = []; timers = 0; actions = always (stmt.Send 0 (number 7 ∷ []) 1 ∷ []) ∷ [] }
      ∷ record {
        name = 98 ∷ [];
        inputs = [];
        vars = [];
        timers = 0;
        actions = record { guard = receive 0 0; body = λ inputs values. execution (byte_message ∷ []) inputs values (stmt.Assign (to_cell 0 ∷ []) (part_of 0 ∷ []) ∷ []) } ∷ [];
      }
      ∷ [];
}

-- the state with this in the cell of b, and these cells and this mark in the channel from a to b
abbrev pub state : ℕ → List Cell → ℕ → State
state kept cells mark = record {
  inputs = record { of = [] ∷ [] ∷ [] };
  stores = [] ∷ (pos kept ∷ []) ∷ [];
  timers = [] ∷ [] ∷ [];
  times = 0 ∷ 0 ∷ [];
  down = false ∷ false ∷ [];
  cuts = None ∷ None ∷ [];
  falling = None;
  channels = record { from = 0; to = 1; cells = cells; mark = mark } ∷ record { from = 1; to = 0; cells = []; mark = 0 } ∷ [];
}

-- A send goes in behind what is there, and is told.
abbrev pub SendGoesIn : Type 0
SendGoesIn = step sender (state 0 (message 3 ∷ []) 0) (label.Act 0 0 []) ≡ Some (state 0 (message 3 ∷ message 7 ∷ []) 0, record { to = 1; message = 0; values = pos 7 ∷ [] } ∷ [])

-- The next cell in flight arrives.
abbrev pub CellArrives : Type 0
CellArrives = step sender (state 0 (message 3 ∷ message 7 ∷ []) 0) (label.Arrive 0 1) ≡ Some (state 0 (message 3 ∷ message 7 ∷ []) 1, [])

-- With no cell in flight nothing arrives.
abbrev pub NoneArrives : Type 0
NoneArrives = step sender (state 0 (message 3 ∷ []) 1) (label.Arrive 0 1) ≡ None

-- A receive takes the first cell, and its mark goes back by one.
abbrev pub FirstIsReceived : Type 0
FirstIsReceived = step sender (state 0 (message 3 ∷ message 7 ∷ []) 1) (label.Act 1 0 []) ≡ Some (state 3 (message 7 ∷ []) 0, [])

-- What has not arrived is not received.
abbrev pub FlightIsNotReceived : Type 0
FlightIsNotReceived = step sender (state 0 (message 3 ∷ []) 0) (label.Act 1 0 []) ≡ None

-- With two cells arrived the next place but one in flight is the fourth cell, which goes; the mark stays.
abbrev pub PlaceIsLost : Type 0
PlaceIsLost = step sender (state 0 (message 1 ∷ message 2 ∷ message 3 ∷ message 4 ∷ message 5 ∷ []) 2) (label.Lose 0 1 1)
    ≡ Some (state 0 (message 1 ∷ message 2 ∷ message 3 ∷ message 5 ∷ []) 2, [])

-- Behind the last cell nothing is lost, nor what has arrived.
abbrev pub NoneIsLost : Type 0
NoneIsLost = step sender (state 0 (message 3 ∷ message 7 ∷ []) 1) (label.Lose 0 1 1) ≡ None

-- Nothing is lost from a process to itself.
abbrev pub NoneToItself : Type 0
NoneToItself = step sender (state 0 (message 3 ∷ []) 0) (label.Lose 1 1 0) ≡ None

-- A message that is sent, arrives and is received.
abbrev pub MessageTravels : Type 0
MessageTravels = state_after sender (state 0 [] 0) (label.Act 0 0 [] ∷ label.Arrive 0 1 ∷ label.Act 1 0 [] ∷ label.Void ∷ []) ≡ Some (state 7 [] 0)

-- ---- spellings

abbrev pub field : ℕ → WireField
field width = record { width = width; fixed = None }

-- 258 in 16 bits and 65,539 in 24 bits: the most significant byte comes first.
abbrev pub BytesAreBigEndian : Type 0
BytesAreBigEndian = spelling (field 16 ∷ field 24 ∷ []) (pos 258 ∷ pos 65539 ∷ []) ≡ 1 ∷ 2 ∷ 1 ∷ 0 ∷ 3 ∷ []

-- 5 in 3 bits and 1 in 6 bits: 101 and 000001, and seven zeros.
abbrev pub ZerosFollow : Type 0
ZerosFollow = spelling (field 3 ∷ field 6 ∷ []) (pos 5 ∷ pos 1 ∷ []) ≡ 160 ∷ 128 ∷ []
