use Rattle.std.proofs.Common.{◌≡◌, take, drop}
use Rattle.tap_names.specs.Declarations.{consts_offences}
use Rattle.tap_names.specs.VariableOffences.{const_names, const_offences}
use Rattle.tap_base.specs.ListWords.{behind}
use Rattle.tap_names.specs.Names.{constants}
use Rattle.tap_names.specs.Tables.{entries_of}
use Rattle.tap_names.proofs.inputs.declare_constants.Given as goal

abbrev pub invariant-consts : goal.invariant-consts
invariant-consts l = record {
  clear : behind (λ before k. const_offences (const_names before) k) (take l.at l.consts) (drop l.at l.consts) ≡ consts_offences l.consts;
  listed : entries_of l.table ≡ constants (take l.at l.consts);
}
