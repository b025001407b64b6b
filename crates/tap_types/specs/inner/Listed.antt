-- The tables of the names of messages, of their fields, and of processes.
use Rattle.std.specs.Prelude.{◌≡◌, ℕ, ◌≤◌, List, [], length, map}
use Rattle.tap_base.specs.declared.ast.AstMessage.{AstMessage}
use Rattle.tap_base.specs.Lists.{Each}
use Rattle.tap_names.specs.declared.table.Table.{Table}
use Rattle.tap_names.specs.Limits.{most_messages, most_processes}
use Rattle.tap_names.specs.MessageOffences.{field_names, fields_offences, message_names}
use Rattle.tap_names.specs.Messages.{HasFewFields}
use Rattle.tap_names.specs.Tables.{entries_of, names_in}

-- the names of fields that a table lists
abbrev pub fields_in : Table (Unit {0}) → List (List ℕ)
fields_in table = names_in (entries_of table)

-- fields without an offence
abbrev pub HasFields : AstMessage → Type 0
HasFields m = fields_offences m.fields ≡ []

-- the table of messages and those of their fields have the names of each, and there are few of each
pub record AreListed (messages : List AstMessage) (message_table : Table (Unit {0})) (field_tables : List (Table (Unit {0}))) (process_table : Table (Unit {0})) : Type 0 where
  pub listed : names_in (entries_of message_table) ≡ message_names messages
  pub few : length messages ≤ most_messages
  pub named : map fields_in field_tables ≡ map (λ m. field_names m.fields) messages
  pub fields : Each HasFewFields messages
  pub processes : length (entries_of process_table) ≤ most_processes
