use Rattle.std.proofs.Common.{◌≡◌, ◌<◌, drop, get_or, length, max}
use Rattle.tap_base.specs.Lists.{Each}
use Rattle.message_layout.specs.Lengths.{longest_of}
use Rattle.message_layout.proofs.lengths.longest_among.Given as goal

abbrev pub invariant-receives : goal.invariant-receives
invariant-receives l = record {
  greatest : max l.longest (longest_of (λ m. get_or l.lengths m 0) l.to (drop l.receive-index l.receives)) ≡ longest_of (λ m. get_or l.lengths m 0) l.to l.receives;
  there : Each (λ r. r.message < length l.lengths) (drop l.receive-index l.receives);
}
