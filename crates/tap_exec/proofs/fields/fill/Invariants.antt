use Rattle.std.proofs.Common.{◌≡◌, ◌++◌, drop, map}
use Rattle.std.specs.Option.{option_map}
use Rattle.tap_exec.specs.Filling.{filled, wire_field}
use Rattle.tap_exec.proofs.fields.fill.Given as goal

abbrev pub invariant-loop-field : goal.invariant-loop-field
invariant-loop-field l = option_map (λ rest. l.all ++ rest) (filled (map wire_field (drop l.field-index l.fields)) (drop l.next l.given)) ≡ filled (map wire_field l.fields) l.given
