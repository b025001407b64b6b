-- What an action can read, as the code holds it.
use Rattle.std.specs.Prelude.{List, map}
use Rattle.tap_base.specs.declared.system.Action.{Action}
use Rattle.tap_base.specs.declared.system.Message.{Message}
use Rattle.tap_base.specs.Scope.{Scope, received_fields, value_range}
use Rattle.width_check.specs.declared.reads.Reads.{Reads}

abbrev pub scope_in : Reads → Scope
scope_in r = record { cells = r.cells; inputs = r.inputs; fields = r.fields }

-- what an action reads of the same cells and inputs
abbrev pub reading : List Message → Reads → Action → Scope
reading messages r a = record { cells = r.cells; inputs = r.inputs; fields = map value_range (received_fields messages a.guard) }
