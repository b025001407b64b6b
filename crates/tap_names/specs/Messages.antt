-- What is answered of the messages that a tree declares.
use Rattle.std.specs.Prelude.{◌≡◌, ◌≤◌, List, [], map, length, Result, Ok, Err}
use Rattle.tap_base.specs.declared.ast.AstMessage.{AstMessage}
use Rattle.tap_base.specs.Lists.{Each}
use Rattle.tap_names.specs.declared.fault.TypeFault.{TypeFault}
use Rattle.tap_names.specs.declared.messages.DeclaredMessages.{DeclaredMessages}
use Rattle.tap_names.specs.Limits.{most_fields, most_messages}
use Rattle.tap_names.specs.MessageOffences.{message_names, messages_offences}
use Rattle.tap_names.specs.Names.{message_of}
use Rattle.tap_names.specs.Refusals.{Faults}
use Rattle.tap_names.specs.Tables.{entries_of, names_in}

-- no more fields than there may be
abbrev pub HasFewFields : AstMessage → Type 0
HasFewFields m = length m.fields ≤ most_fields

-- the messages with the table of their names, where none has an offence; else the first offence among them
abbrev pub DeclaresMessages : List AstMessage → Result DeclaredMessages TypeFault → Type 0
DeclaresMessages messages (Ok d) =
    (messages_offences messages ≡ []) × (names_in (entries_of d.table) ≡ message_names messages) × (d.messages ≡ map message_of messages)
    × (length messages ≤ most_messages) × Each HasFewFields messages
DeclaresMessages messages (Err e) = Faults (messages_offences messages) e
