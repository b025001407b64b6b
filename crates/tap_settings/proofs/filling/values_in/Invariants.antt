use Rattle.std.proofs.Common.{◌≡◌, ◌++◌, drop}
use Rattle.std.specs.Option.{option_map}
use Rattle.std.specs.Prelude.{is_none}
use Rattle.tap_settings.specs.declared.refusals.SettingCode.TheVariants as code
use Rattle.tap_base.specs.ListWords.{by_number, each_by_number}
use Rattle.tap_settings.specs.Offences.{missing_in}
use Rattle.tap_settings.specs.Refusals.{where_}
use Rattle.tap_settings.specs.inner.Table.{held_at}
use Rattle.tap_settings.proofs.filling.values_in.Given as goal

-- the inputs so far have values, which were found
abbrev pub invariant-inputs : goal.invariant-inputs
invariant-inputs l = record {
  clear : by_number l.at (λ j v. where_ (is_none (held_at l.rows l.number j)) code.I3 l.process.name v.name) (drop l.at l.inputs) ≡ missing_in l.process.name (held_at l.rows l.number) l.inputs;
  found : option_map (λ rest. l.found ++ rest) (each_by_number l.at (λ j v. held_at l.rows l.number j) (drop l.at l.inputs)) ≡ each_by_number 0 (λ j v. held_at l.rows l.number j) l.inputs;
}
