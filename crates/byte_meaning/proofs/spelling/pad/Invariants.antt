use Rattle.std.proofs.Common.{◌≡◌, ◌-◌, ◌%◌, replicate}
use Rattle.byte_meaning.specs.inner.Packing.{IsPacked, all_packed}
use Rattle.byte_meaning.proofs.spelling.pad.Given as goal

abbrev pub invariant-loop-i : goal.invariant-loop-i
invariant-loop-i l = record {
  packed : IsPacked l.packed;
  rest : all_packed (replicate ((8 - l.fn.packed.count) % 8 - l._i) 0) l.packed ≡ all_packed (replicate ((8 - l.fn.packed.count) % 8) 0) l.fn.packed;
}
