-- The wire of a program: its messages, and who receives which message from whom.
use Rattle.std.specs.Prelude.{ℕ, List, [], ◌∷◌, map, length}
use Rattle.std.specs.List.{flat_map}
use Rattle.tap_base.specs.declared.wire.Receive.{Receive}
use Rattle.tap_base.specs.declared.wire.Wire.{Wire}
use Rattle.tap_base.specs.ListWords.{by_number}
use Rattle.register_code.specs.declared.code.Code.{Code}
use Rattle.register_code.specs.declared.code.CodeAction.{CodeAction}
use Rattle.register_code.specs.declared.code.CodeKind.{CodeKind}
use Rattle.register_code.specs.declared.code.CodeKind.TheVariants as kind
use Rattle.register_code.specs.declared.code.CodeProcess.{CodeProcess}
use Rattle.register_code.specs.Fields.{code_message}

-- what an action of p receives
abbrev pub received_by : ℕ → CodeAction → List Receive
received_by p a = by_kind a.kind where
  by_kind : CodeKind → List Receive
  by_kind kind.Receive = record { by = p; from = a.b; message = a.a } ∷ []
  by_kind _ = []

-- one entry for each receive action of a process, in order
abbrev pub receives_of : ℕ → CodeProcess → List Receive
receives_of p process = flat_map (received_by p) process.actions

abbrev pub code_wire : Code → Wire
code_wire code = record { processes = length code.processes; messages = map code_message code.messages; receives = by_number 0 receives_of code.processes }
