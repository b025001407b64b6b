use Rattle.std.proofs.Common.{◌≡◌, ◌-◌}
use Rattle.std.specs.List.{list_any, range_with_len}
use Rattle.abstract_run.specs.inner.Among.{is_waiting}
use Rattle.abstract_run.proofs.channels.any_waiting.Given as goal

abbrev pub invariant-loop-from : goal.invariant-loop-from
invariant-loop-from l = list_any (is_waiting l.state l.process) (range_with_len l.from (l.count - l.from)) ≡ list_any (is_waiting l.state l.process) (range_with_len 0 l.count)
