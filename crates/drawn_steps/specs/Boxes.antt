-- What an action sends and chooses.
use Rattle.std.specs.Prelude.{◌≡◌, ℕ, ◌+◌, ◌≤◌, ℤ, List, [], ◌∷◌, length, take, drop, map, max, slice_get, Some}
use Rattle.tap_base.specs.Lists.{Each}
use Rattle.tap_exec.specs.declared.running.Outgoing.{Outgoing}
use Rattle.register_code.specs.declared.code.Code.{Code}
use Rattle.register_code.specs.declared.code.CodeAction.{CodeAction}
use Rattle.register_code.specs.declared.code.CodeMessage.{CodeMessage}
use Rattle.register_code.specs.declared.code.CodeProcess.{CodeProcess}
use Rattle.register_code.specs.declared.instr.Instr.{Instr}
use Rattle.register_code.specs.Loops.{choices, sends}
use Rattle.action_code.specs.Using.{values}
use Rattle.drawn_steps.specs.declared.outbox.Sent.{Sent}

-- what was sent, the values of all fields of the sends, the choices used, and the room of each list
pub record Boxed : Type 0 where
  pub sent : List Sent
  pub values : List ℤ
  pub chosen : List ℤ
  pub sends_room : ℕ
  pub values_room : ℕ
  pub choices_room : ℕ

-- a send, with its values
abbrev pub outgoing : List ℤ → Sent → Outgoing
outgoing values s = record { to = s.to; message = s.message; values = take s.count (drop s.first values) }

abbrev pub sends_of : Boxed → List Outgoing
sends_of box = map (outgoing box.values) box.sent

-- The values of each send are there.
abbrev pub AreThere : Boxed → Type 0
AreThere box = Each (λ (s : Sent). s.first + s.count ≤ length box.values) box.sent

-- Nothing is sent and nothing is chosen.
pub record IsEmpty (box : Boxed) : Type 0 where
  pub sent : box.sent ≡ []
  pub values : box.values ≡ []
  pub chosen : box.chosen ≡ []

-- ---- room

-- There is room for all that a part sends and chooses.
pub record HasRoomFor (messages : List CodeMessage) (instrs : List Instr) (box : Boxed) : Type 0 where
  pub sends : sends instrs ≤ box.sends_room
  pub values : values messages instrs ≤ box.values_room
  pub choices : choices instrs ≤ box.choices_room

-- the greatest of some numbers; 0 of none
abbrev pub greatest : List ℕ → ℕ
greatest [] = 0
greatest (x ∷ xs) = max x (greatest xs)

abbrev pub most_sends : List CodeAction → ℕ
most_sends actions = greatest (map (λ (a : CodeAction). sends a.body) actions)

abbrev pub most_values : List CodeMessage → List CodeAction → ℕ
most_values messages actions = greatest (map (λ (a : CodeAction). values messages a.body) actions)

abbrev pub most_choices : List CodeAction → ℕ
most_choices actions = greatest (map (λ (a : CodeAction). choices a.body) actions)

-- Each list has the room that the bodies of a process ask for at most, and no more.
pub record IsOutboxOf (code : Code) (process : ℕ) (box : Boxed) : Type 0 where
  pub of_process : CodeProcess
  pub there : slice_get code.processes process ≡ Some of_process
  pub sends_room : box.sends_room ≡ most_sends of_process.actions
  pub values_room : box.values_room ≡ most_values code.messages of_process.actions
  pub choices_room : box.choices_room ≡ most_choices of_process.actions

-- as it is made for a process of code
pub record IsNewOutbox (code : Code) (process : ℕ) (box : Boxed) : Type 0 where
  pub empty : IsEmpty box
  pub room : IsOutboxOf code process box
