use Rattle.std.proofs.Common.{◌≡◌, ◌++◌, drop, flat_map}
use Rattle.tap_base.specs.Lists.{Each}
use Rattle.byte_meaning.specs.Apart.{fixed_bits}
use Rattle.message_layout.specs.Wires.{IsField}
use Rattle.message_layout.proofs.shapes.pattern_of.Given as goal

abbrev pub invariant-fields : goal.invariant-fields
invariant-fields l = record {
  said : l.bits ++ flat_map (λ f. fixed_bits f.width f.fixed) (drop l.field-index l.fields) ≡ flat_map (λ f. fixed_bits f.width f.fixed) l.fields;
  fields : Each IsField (drop l.field-index l.fields);
}
