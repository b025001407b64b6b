use Rattle.std.proofs.Common.{◌≡◌, ◌≤◌, drop, take, map}
use Rattle.tap_base.specs.Lists.{Each}
use Rattle.tap_names.specs.MessageOffences.{message_names, message_offences, messages_offences}
use Rattle.tap_names.specs.Limits.{most_messages}
use Rattle.tap_base.specs.ListWords.{behind}
use Rattle.tap_names.specs.Names.{message_of}
use Rattle.tap_names.specs.Tables.{entries_of, names_in}
use Rattle.tap_names.specs.Messages.{HasFewFields}
use Rattle.tap_names.proofs.messages.declare_messages.Given as goal

abbrev pub invariant-messages : goal.invariant-messages
invariant-messages l = record {
  clear : behind (λ before m. message_offences (message_names before) m) (take l.at l.messages) (drop l.at l.messages) ≡ messages_offences l.messages;
  listed : names_in (entries_of l.table) ≡ message_names (take l.at l.messages);
  named : l.found ≡ map message_of (take l.at l.messages);
  few : l.at ≤ most_messages;
  fields : Each HasFewFields (take l.at l.messages);
}
