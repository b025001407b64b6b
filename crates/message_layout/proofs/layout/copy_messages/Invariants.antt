use Rattle.std.proofs.Common.{◌≡◌, ◌++◌, drop}
use Rattle.message_layout.proofs.layout.copy_messages.Given as goal

abbrev pub invariant-messages : goal.invariant-messages
invariant-messages l = l.copies ++ drop l.fields-index l.messages ≡ l.messages
