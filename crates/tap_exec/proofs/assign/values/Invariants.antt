use Rattle.std.proofs.Common.{◌≡◌, [], ◌++◌, drop}
use Rattle.std.specs.Option.{option_map}
use Rattle.tap_exec.specs.Computed.{computed}
use Rattle.tap_exec.specs.Sourced as spec
use Rattle.tap_base.specs.Option.{each}
use Rattle.tap_exec.proofs.assign.values.Given as goal

abbrev pub invariant-loop-expr : goal.invariant-loop-expr
invariant-loop-expr g l = option_map (λ rest. l.all ++ rest) (each (spec.value_in computed [] l.inputs l.received l.r) (drop l.expr-index l.exprs)) ≡ each (spec.value_in computed [] l.inputs l.received l.r) l.exprs
