-- A tree without an offence names a system in which all is there.
use Rattle.std.specs.Prelude.{◌≡◌, [], Some}
use Rattle.tap_base.specs.declared.ast.Ast.{Ast}
use Rattle.tap_base.specs.declared.system.System.{System}
use Rattle.tap_types.specs.Given.{HasParts}
use Rattle.tap_types.specs.Offences.{offences_of}
use Rattle.tap_base.specs.Resolved.{IsResolved}
use Rattle.tap_types.specs.Systems.{system_of}

-- What a tree without an offence names is a resolved system.
abbrev pub ResolvesWhole : Type 0
ResolvesWhole = (tree : Ast) (system : System) → HasParts tree → offences_of tree ≡ [] → system_of tree ≡ Some system → IsResolved system
