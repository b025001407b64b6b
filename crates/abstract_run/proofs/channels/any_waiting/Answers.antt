use Rattle.std.proofs.Common.{sym, ◌∙◌}
use Rattle.abstract_run.specs.inner.Among.{is_waiting}
use Rattle.abstract_run.proofs.Idle.{any_next}
use Rattle.abstract_run.proofs.channels.any_waiting.Goals as goal

pub loop-from-preserved : goal.loop-from-preserved
loop-from-preserved c =
    any_next (is_waiting c.args.state.now c.args.process) c.loop-from.from c.len-count.result c.loop-from-test.true (sym c.is_waiting.ensures ∙ c.if-is_waiting.false)
    ∙ c.loop-from.invariant
