-- Laws of trees and the systems that they name.
use Rattle.std.specs.Prelude.{◌≡◌, IsSome, [], map, Some}
use Rattle.tap_base.specs.declared.ast.Ast.{Ast}
use Rattle.tap_base.specs.declared.system.System.{System}
use Rattle.tap_names.specs.Declarations.{process_names}
use Rattle.tap_names.specs.MessageOffences.{message_names}
use Rattle.tap_types.specs.Offences.{offences_of}
use Rattle.tap_types.specs.Systems.{system_of}

-- A tree without an offence names a system.
abbrev pub NamesOne : Type 0
NamesOne = (tree : Ast) → offences_of tree ≡ [] → IsSome (system_of tree)

-- The messages and processes of the system have the names that the tree gives them.
abbrev pub KeepsNames : Type 0
KeepsNames = (tree : Ast) (s : System) → system_of tree ≡ Some s
    → (map (λ m. m.name) s.messages ≡ message_names tree.messages) × (map (λ p. p.name) s.processes ≡ process_names tree.processes)
