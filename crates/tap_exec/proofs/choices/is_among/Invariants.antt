use Rattle.std.proofs.Common.{◌≡◌, drop, map, pos}
use Rattle.std.specs.List.{list_any}
use Rattle.std.specs.Ordering.{int_eq}
use Rattle.tap_exec.proofs.choices.is_among.Given as goal

abbrev pub invariant-loop-number : goal.invariant-loop-number
invariant-loop-number l = list_any (int_eq l.x) (map pos (drop l.number-index l.numbers)) ≡ list_any (int_eq l.x) (map pos l.numbers)
