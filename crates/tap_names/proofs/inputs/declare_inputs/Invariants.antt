use Rattle.std.proofs.Common.{◌≡◌, ◌≤◌, [], ◌++◌, take, drop}
use Rattle.std.specs.Option.{option_map}
use Rattle.tap_names.specs.VariableOffences.{var_names}
use Rattle.tap_names.specs.inner.Declares.{judged_input}
use Rattle.tap_base.specs.Option.{each}
use Rattle.tap_names.specs.Limits.{most_inputs}
use Rattle.tap_base.specs.ListWords.{behind}
use Rattle.tap_names.specs.Names.{input_names, input_of}
use Rattle.tap_names.specs.Tables.{entries_of, names_in}
use Rattle.tap_names.proofs.inputs.declare_inputs.Given as goal

abbrev pub invariant-inputs : goal.invariant-inputs
invariant-inputs l = record {
  clear : behind (judged_input (entries_of l.constants)) (take l.at l.inputs) (drop l.at l.inputs) ≡ behind (judged_input (entries_of l.constants)) [] l.inputs;
  names : names_in (entries_of l.table) ≡ var_names (take l.at l.inputs);
  listed : entries_of l.table ++ input_names l.at (drop l.at l.inputs) ≡ input_names 0 l.inputs;
  named : option_map (λ rest. l.found ++ rest) (each (input_of (entries_of l.constants)) (drop l.at l.inputs)) ≡ each (input_of (entries_of l.constants)) l.inputs;
  few : l.at ≤ most_inputs;
}
