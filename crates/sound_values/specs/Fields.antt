-- The values of fields: of a message that is received, and of one that is sent.
use Rattle.std.specs.Prelude.{◌≡◌, ℕ, ℤ, List, map, slice_get, Some}
use Rattle.tap_base.specs.declared.system.Field.{Field}
use Rattle.tap_base.specs.declared.system.Guard.TheVariants as guard
use Rattle.tap_base.specs.declared.system.Message.{Message}
use Rattle.tap_base.specs.declared.system.Process.{Process}
use Rattle.tap_base.specs.declared.wire.WireField.{WireField}
use Rattle.tap_base.specs.Interval.{field_range}
use Rattle.tap_base.specs.Ranges.{AreAllIn}
use Rattle.tap_base.specs.Scope.{free_fields, scope_of, value_range}
use Rattle.tap_exec.specs.Filling.{filled, wire_field, wire_fields}

-- What fits the fields of a message is within what an action that receives the message can read.
abbrev pub ReceivedFieldsFit : Type 0
ReceivedFieldsFit =
    (messages : List Message) (process : Process) (m q : ℕ) (fields : List WireField) (values : List ℤ) → slice_get (map wire_fields messages) m ≡ Some fields
    → AreAllIn (map field_range fields) values → AreAllIn (scope_of messages process (guard.Receive m q)).fields values

-- what is given fills the fields with values that fit them
pub record FillsFields (fields : List WireField) (given : List ℤ) : Type 0 where
  pub values : List ℤ
  pub fills : filled fields given ≡ Some values
  pub fitting : AreAllIn (map field_range fields) values

-- Values within the free fields of a message are, with the fixed ones in their places, values of all its fields.
abbrev pub GivenFieldsFit : Type 0
GivenFieldsFit = (fields : List Field) (given : List ℤ) → AreAllIn (map value_range (free_fields fields)) given → FillsFields (map wire_field fields) given
