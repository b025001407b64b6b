use Rattle.std.proofs.Common.{◌≡◌, ◌++◌, drop}
use Rattle.std.specs.Option.{option_map}
use Rattle.tap_base.specs.ListWords.{by_number, each_by_number}
use Rattle.tap_settings.specs.Offences.{missing_among, missing_in}
use Rattle.tap_settings.specs.inner.Table.{held_at, values_among}
use Rattle.tap_settings.proofs.filling.values_of.Given as goal

-- the inputs of the processes so far have values, which were found
abbrev pub invariant-processes : goal.invariant-processes
invariant-processes l = record {
  clear : by_number l.at (λ i p. missing_in p.name (held_at l.rows i) p.inputs) (drop l.at l.processes) ≡ missing_among (held_at l.rows) l.processes;
  found : option_map (λ rest. l.found ++ rest) (each_by_number l.at (λ i p. each_by_number 0 (λ j v. held_at l.rows i j) p.inputs) (drop l.at l.processes)) ≡ values_among (held_at l.rows) l.processes;
}
