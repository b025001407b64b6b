use Rattle.std.proofs.Common.{◌≡◌, drop, map}
use Rattle.tap_exec.specs.Filling.{wire_field}
use Rattle.byte_meaning.specs.inner.Packing.{IsPacked, all_packed}
use Rattle.byte_meaning.specs.Spelling.{all_digits}
use Rattle.byte_meaning.proofs.spelling.push_fields.Given as goal

abbrev pub invariant-loop-at : goal.invariant-loop-at
invariant-loop-at l = record {
  packed : IsPacked l.packed;
  rest : all_packed (all_digits (map wire_field (drop l.at l.fields)) (drop l.at l.values)) l.packed ≡ all_packed (all_digits (map wire_field l.fields) l.values) l.fn.packed;
}
