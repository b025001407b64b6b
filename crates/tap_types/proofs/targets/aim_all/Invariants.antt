use Rattle.std.proofs.Common.{◌≡◌, ◌++◌, drop, map, Some}
use Rattle.std.specs.Prelude.{flat_map}
use Rattle.std.specs.Option.{option_map}
use Rattle.tap_base.specs.Option.{each}
use Rattle.tap_types.specs.StmtOffences.{target_offences, kinds_of}
use Rattle.tap_types.specs.Systems.{target_of}
use Rattle.tap_types.specs.inner.Typing.{scope_of}
use Rattle.tap_types.proofs.targets.aim_all.Given as goal

abbrev pub invariant-targets : goal.invariant-targets
invariant-targets l = record {
  clear : flat_map (target_offences (scope_of l.names)) (drop l.target-index l.targets) ≡ flat_map (target_offences (scope_of l.names)) l.targets;
  kinds : map Some l.kinds ++ kinds_of (scope_of l.names) (drop l.target-index l.targets) ≡ kinds_of (scope_of l.names) l.targets;
  named : option_map (λ rest. l.found ++ rest) (each (target_of (scope_of l.names)) (drop l.target-index l.targets)) ≡ each (target_of (scope_of l.names)) l.targets;
}
