use Rattle.std.proofs.Common.{◌≡◌, ◌++◌, drop, map, Some}
use Rattle.std.specs.Option.{option_map}
use Rattle.tap_types.specs.ExprOffences.{judged_in}
use Rattle.tap_base.specs.Option.{each}
use Rattle.tap_base.specs.ListWords.{by_number}
use Rattle.tap_types.specs.StmtOffences.{value_to, kind_at}
use Rattle.tap_types.specs.Systems.{expr_of}
use Rattle.tap_types.specs.inner.Typing.{scope_of}
use Rattle.tap_types.proofs.assigns.type_values_to.Given as goal

abbrev pub invariant-values : goal.invariant-values
invariant-values l = record {
  clear : by_number l.at (λ i e. value_to (kind_at (map Some l.kinds) i) (judged_in (scope_of l.names) e)) (drop l.at l.values) ≡ by_number 0 (λ i e. value_to (kind_at (map Some l.kinds) i) (judged_in (scope_of l.names) e)) l.values;
  named : option_map (λ rest. l.found ++ rest) (each (expr_of (scope_of l.names)) (drop l.at l.values)) ≡ each (expr_of (scope_of l.names)) l.values;
}
