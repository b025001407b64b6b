use Rattle.std.proofs.Common.{◌≡◌, ◌++◌, drop, map}
use Rattle.message_layout.specs.inner.Arrivals.{arrival_of}
use Rattle.message_layout.proofs.arrivals.each_arrival.Given as goal

abbrev pub invariant-receives : goal.invariant-receives
invariant-receives l = l.found.items ++ map arrival_of (drop l.receive-index l.receives) ≡ map arrival_of l.receives
