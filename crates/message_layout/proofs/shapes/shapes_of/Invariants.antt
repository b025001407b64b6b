use Rattle.std.proofs.Common.{◌≡◌, ◌++◌, drop, map}
use Rattle.tap_base.specs.Lists.{Each}
use Rattle.message_layout.specs.Wires.{AreShort, IsField}
use Rattle.message_layout.specs.inner.Rivals.{shape_of}
use Rattle.message_layout.proofs.shapes.shapes_of.Given as goal

abbrev pub invariant-messages : goal.invariant-messages
invariant-messages l = record {
  said : l.shapes ++ map shape_of (drop l.fields-index l.messages) ≡ map shape_of l.messages;
  fields : Each (λ fields. Each IsField fields) (drop l.fields-index l.messages);
  short : AreShort (drop l.fields-index l.messages);
}
