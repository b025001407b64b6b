use Rattle.std.proofs.Common.{◌≡◌, ◌++◌, drop, map}
use Rattle.byte_meaning.specs.Apart.{byte_length}
use Rattle.message_layout.specs.Wires.{AreShort}
use Rattle.message_layout.proofs.lengths.lengths_of.Given as goal

abbrev pub invariant-messages : goal.invariant-messages
invariant-messages l = record {
  said : l.lengths ++ map byte_length (drop l.fields-index l.messages) ≡ map byte_length l.messages;
  short : AreShort (drop l.fields-index l.messages);
}
