use Rattle.std.proofs.Common.{◌≡◌, ◌≤◌, drop, take, []}
use Rattle.tap_names.specs.Declarations.{process_names}
use Rattle.tap_names.specs.Limits.{most_processes}
use Rattle.tap_base.specs.ListWords.{behind}
use Rattle.tap_names.specs.Processes.{AllDeclared, judged_process}
use Rattle.tap_names.specs.Tables.{entries_of, names_in}
use Rattle.tap_names.proofs.declared.declare_processes.Given as goal

abbrev pub invariant-processes : goal.invariant-processes
invariant-processes l = record {
  clear : behind (judged_process (names_in (entries_of l.messages))) (take l.at l.processes) (drop l.at l.processes) ≡ behind (judged_process (names_in (entries_of l.messages))) [] l.processes;
  names : names_in (entries_of l.table) ≡ process_names (take l.at l.processes);
  «declared» : AllDeclared (take l.at l.processes) l.declared;
  few : l.at ≤ most_processes;
}
