use Rattle.std.proofs.Common.{◌≡◌, ◌<◌, ◌^◌, [], ◌++◌, drop, map}
use Rattle.tap_base.specs.Lists.{Each}
use Rattle.std.specs.Option.{option_map}
use Rattle.tap_exec.specs.Computed.{computed}
use Rattle.tap_exec.specs.Sourced as spec
use Rattle.tap_exec.proofs.execute.open_branches.Given as goal

abbrev pub invariant-loop-at : goal.invariant-loop-at
invariant-loop-at g l =
    (option_map (λ rest. l.all ++ rest) (spec.open_from l.at (map (spec.alternative computed [] l.inputs l.received g.C.Choices.takes) (drop l.at l.branches)) l.r) ≡ spec.open_from 0 (map (spec.alternative computed [] l.inputs l.received g.C.Choices.takes) l.branches) l.r)
    × Each (λ n. n < 2 ^ 63) l.all
