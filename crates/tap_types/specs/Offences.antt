-- The offences of a tree: of its declarations, then of the uses of their names, then of its sends.
use Rattle.std.specs.Prelude.{List, ◌++◌}
use Rattle.tap_base.specs.declared.ast.Ast.{Ast}
use Rattle.tap_base.specs.declared.refusal.Refusal.{Refusal}
use Rattle.tap_types.specs.ActionOffences.{use_offences}
use Rattle.tap_names.specs.Declarations.{declaration_offences}
use Rattle.tap_types.specs.SendOffences.{unreceived_sends}

abbrev pub offences_of : Ast → List Refusal
offences_of tree = declaration_offences tree ++ use_offences tree ++ unreceived_sends tree
