use Rattle.std.proofs.Common.{◌≡◌, ◌++◌, drop, map}
use Rattle.tap_base.specs.Wires.{wire_field}
use Rattle.tap_base.proofs.wire.wire_fields.Given as goal

abbrev pub invariant-fields : goal.invariant-fields
invariant-fields l = l.found ++ map wire_field (drop l.field-index l.fields) ≡ map wire_field l.fields
