use Rattle.std.proofs.Common.{◌≡◌, ◌-◌}
use Rattle.byte_meaning.specs.inner.Packing.{IsPacked, all_packed}
use Rattle.byte_meaning.specs.Spelling.{digits}
use Rattle.byte_meaning.proofs.spelling.push_value.Given as goal

abbrev pub invariant-loop-at : goal.invariant-loop-at
invariant-loop-at l = record {
  packed : IsPacked l.packed;
  rest : all_packed (digits (l.width - l.at) l.value) l.packed ≡ all_packed (digits l.width l.value) l.fn.packed;
}
