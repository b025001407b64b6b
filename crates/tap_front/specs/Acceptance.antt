-- What is written of an accepted text.
use Rattle.std.specs.Prelude.{ℕ, List, ◌++◌, codes, flat_map, length}
use Rattle.std.specs.Fmt.{decimal}
use Rattle.tap_base.specs.declared.system.Message.{Message}
use Rattle.tap_base.specs.declared.system.Process.{Process}
use Rattle.tap_base.specs.declared.system.System.{System}
use Rattle.tap_base.specs.Wires.{wire_message}
use Rattle.byte_meaning.specs.Apart.{byte_length}
use Rattle.width_check.specs.Cost.{process_cost}

-- the line of a process of a name, with how many actions it has and the greatest cost of one
abbrev pub line_of : List ℕ → ℕ → ℕ → List ℕ
line_of name actions cost = codes "process " ++ name ++ codes " " ++ decimal actions ++ codes " " ++ decimal cost ++ codes "\n"

-- that of a process; where it has no action, the cost is 0
abbrev pub process_line : Process → List ℕ
process_line p = line_of p.name (length p.actions) (process_cost p)

-- the line of a message: its name, and its length in bytes
abbrev pub message_line : Message → List ℕ
message_line m = codes "message " ++ m.name ++ codes " " ++ decimal (byte_length (wire_message m)) ++ codes "\n"

-- that it is accepted, and then a line for each message and each process
abbrev pub acceptance : System → List ℕ
acceptance system = codes "accepted\n" ++ flat_map message_line system.messages ++ flat_map process_line system.processes
