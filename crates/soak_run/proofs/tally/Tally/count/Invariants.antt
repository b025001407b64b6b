use Rattle.std.proofs.Common.{◌≡◌, drop, length}
use Rattle.soak_run.specs.inner.Counting.{HasRoom, counted}
use Rattle.soak_run.proofs.tally.Tally.count.Given as goal

abbrev pub invariant-loop-label : goal.invariant-loop-label
invariant-loop-label l = record {
  told : counted l.self (drop l.label-index l.labels) 0 ≡ counted l.fn.self l.labels 0;
  room : HasRoom l.self (length (drop l.label-index l.labels)) l.sents;
}
