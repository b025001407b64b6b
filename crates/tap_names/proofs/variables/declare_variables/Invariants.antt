use Rattle.std.proofs.Common.{◌≡◌, ◌≤◌, [], ◌++◌, take, drop}
use Rattle.std.specs.Option.{option_map}
use Rattle.tap_names.specs.VariableOffences.{cells_among, var_names}
use Rattle.tap_names.specs.inner.Declares.{judged_variable}
use Rattle.tap_base.specs.Option.{each}
use Rattle.tap_names.specs.Limits.{most_cells}
use Rattle.tap_base.specs.ListWords.{behind}
use Rattle.tap_names.specs.Names.{var_of, variable_names}
use Rattle.tap_names.specs.Tables.{entries_of, names_in}
use Rattle.tap_names.proofs.variables.declare_variables.Given as goal

abbrev pub invariant-vars : goal.invariant-vars
invariant-vars l = record {
  clear : behind (judged_variable (entries_of l.constants) (names_in (entries_of l.initial.table))) (take l.at l.vars) (drop l.at l.vars) ≡ behind (judged_variable (entries_of l.constants) (names_in (entries_of l.initial.table))) [] l.vars;
  names : names_in (entries_of l.table) ≡ names_in (entries_of l.initial.table) ++ var_names (take l.at l.vars);
  listed : option_map (λ rest. entries_of l.table ++ rest) (variable_names (entries_of l.constants) l.cells (drop l.at l.vars)) ≡ option_map (λ rest. entries_of l.initial.table ++ rest) (variable_names (entries_of l.constants) 0 l.vars);
  named : option_map (λ rest. l.found ++ rest) (each (var_of (entries_of l.constants)) (drop l.at l.vars)) ≡ each (var_of (entries_of l.constants)) l.vars;
  cells : l.cells ≡ cells_among (take l.at l.vars);
  few : l.cells ≤ most_cells;
}
