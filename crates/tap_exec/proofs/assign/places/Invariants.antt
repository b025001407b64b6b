use Rattle.std.proofs.Common.{◌≡◌, [], ◌++◌, drop}
use Rattle.std.specs.Option.{option_map}
use Rattle.tap_exec.specs.Computed.{computed}
use Rattle.tap_exec.specs.Sourced as spec
use Rattle.tap_base.specs.Option.{each}
use Rattle.tap_exec.proofs.assign.places.Given as goal

abbrev pub invariant-loop-target : goal.invariant-loop-target
invariant-loop-target g l = option_map (λ rest. l.all ++ rest) (each (spec.place_in computed [] l.inputs l.received l.r) (drop l.target-index l.targets)) ≡ each (spec.place_in computed [] l.inputs l.received l.r) l.targets
