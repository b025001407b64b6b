-- The wire of a system: its messages, and who receives which message from whom.
use Rattle.std.specs.Prelude.{ℕ, List, [], ◌∷◌, map, flat_map, length}
use Rattle.tap_base.specs.declared.system.System.{System}
use Rattle.tap_base.specs.declared.system.Field.{Field}
use Rattle.tap_base.specs.declared.system.Action.{Action}
use Rattle.tap_base.specs.declared.system.Message.{Message}
use Rattle.tap_base.specs.declared.system.Process.{Process}
use Rattle.tap_base.specs.declared.system.Guard.{Guard}
use Rattle.tap_base.specs.declared.system.Guard.TheVariants as guard
use Rattle.tap_base.specs.declared.wire.Receive.{Receive}
use Rattle.tap_base.specs.declared.wire.Wire.{Wire}
use Rattle.tap_base.specs.declared.wire.WireField.{WireField}
use Rattle.tap_base.specs.ListWords.{by_number}

abbrev pub wire_field : Field → WireField
wire_field f = record { width = f.width; fixed = f.fixed }

abbrev pub wire_message : Message → List WireField
wire_message m = map wire_field m.fields

-- what the process numbered p receives by an action with the guard
abbrev pub receive_by : ℕ → Guard → List Receive
receive_by p (guard.Receive m q) = record { by = p; from = q; message = m } ∷ []
receive_by p _ = []

abbrev pub received_by_actions : ℕ → List Action → List Receive
received_by_actions p actions = flat_map (λ a. receive_by p a.guard) actions

abbrev pub received_by_process : ℕ → Process → List Receive
received_by_process n p = received_by_actions n p.actions

-- one `Receive` for each receive action of the processes, in text order
abbrev pub receives_of : List Process → List Receive
receives_of processes = by_number 0 received_by_process processes

abbrev pub wire_of : System → Wire
wire_of s = record { processes = length s.processes; messages = map wire_message s.messages; receives = receives_of s.processes }
