-- Which messages fit what is declared: of a field, of a message, and of who receives it from whom.
use Rattle.std.specs.Prelude.{◌≡◌, ◌≢◌, ℕ, ℤ, List, [], map, slice_get, Some}
use Rattle.tap_base.specs.declared.wire.WireField.{WireField}
use Rattle.tap_base.specs.Interval.{field_range}
use Rattle.tap_base.specs.Ranges.{AreAllIn}
use Rattle.tap_exec.specs.declared.running.Outgoing.{Outgoing}
use Rattle.tap_exec.specs.Semantics.{Semantics, ActionSemantics, GuardSemantics, local, receive, timeout, action_at}

-- one value for each field, within the field's range
abbrev pub AreFields : List WireField → List ℤ → Type 0
AreFields fields values = AreAllIn (map field_range fields) values

-- the values are those of a message that is declared
pub record AreValuesOf (messages : List (List WireField)) (m : ℕ) (values : List ℤ) : Type 0 where
  pub fields : List WireField
  pub declared : slice_get messages m ≡ Some fields
  pub fitting : AreFields fields values

-- p has an action that receives m from q
pub record Receives (semantics : Semantics) (p m q : ℕ) : Type 0 where
  pub number : ℕ
  pub action : ActionSemantics
  pub there : action_at semantics p number ≡ Some action
  pub guard : action.guard ≡ receive m q

-- p receives the message from q, and the values are those of it
pub record IsFitMessage (semantics : Semantics) (q p m : ℕ) (values : List ℤ) : Type 0 where
  pub received : Receives semantics p m q
  pub fitting : AreValuesOf semantics.messages m values

-- a send of p to another process, which receives this message from p, with fitting values of all fields
pub record IsFitSend (semantics : Semantics) (p : ℕ) (o : Outgoing) : Type 0 where
  pub message : IsFitMessage semantics p o.to o.message o.values
  pub other : o.to ≢ p

-- how many sends one run of a body has at most
abbrev pub most_sends : ℕ
most_sends = 64

-- the values that an action with a guard begins with: those of its message, or none where it receives none
abbrev pub AreReceived : List (List WireField) → GuardSemantics → List ℤ → Type 0
AreReceived messages (receive m q) values = AreValuesOf messages m values
AreReceived messages (local test) values = values ≡ []
AreReceived messages (timeout t) values = values ≡ []
