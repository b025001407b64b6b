use Rattle.std.proofs.Common.{◌≡◌, ◌++◌, drop}
use Rattle.std.specs.Option.{option_map}
use Rattle.tap_types.specs.ActionOffences.{process_uses}
use Rattle.tap_base.specs.ListWords.{by_number}
use Rattle.tap_names.specs.Processes.{AllDeclared}
use Rattle.tap_types.specs.Systems.{processes_of}
use Rattle.tap_names.specs.Tables.{entries_of, names_in}
use Rattle.tap_types.proofs.processes.type_processes.Given as goal

abbrev pub invariant-processes : goal.invariant-processes
invariant-processes l = record {
  clear : by_number l.at (process_uses l.messages (names_in (entries_of l.process_table))) (drop l.at l.processes) ≡ by_number 0 (process_uses l.messages (names_in (entries_of l.process_table))) l.processes;
  named : option_map (λ rest. l.found ++ rest) (processes_of l.messages (names_in (entries_of l.process_table)) l.at (drop l.at l.processes)) ≡ processes_of l.messages (names_in (entries_of l.process_table)) 0 l.processes;
  all : AllDeclared (drop l.at l.processes) l.rest;
}
