use Rattle.std.proofs.Common.{◌≡◌, ◌++◌, drop}
use Rattle.std.specs.Prelude.{flat_map}
use Rattle.std.specs.Option.{option_map}
use Rattle.tap_types.specs.ExprOffences.{value_offences}
use Rattle.tap_base.specs.Option.{each}
use Rattle.tap_types.specs.Systems.{expr_of}
use Rattle.tap_types.specs.inner.Typing.{scope_of}
use Rattle.tap_types.proofs.exprs.type_values.Given as goal

abbrev pub invariant-values : goal.invariant-values
invariant-values l = record {
  clear : flat_map (value_offences (scope_of l.names) l.due) (drop l.value-index l.values) ≡ flat_map (value_offences (scope_of l.names) l.due) l.values;
  named : option_map (λ rest. l.found ++ rest) (each (expr_of (scope_of l.names)) (drop l.value-index l.values)) ≡ each (expr_of (scope_of l.names)) l.values;
}
