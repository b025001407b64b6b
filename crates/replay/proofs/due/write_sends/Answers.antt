use Rattle.replay.specs.inner.Judging.{said_by}
use Rattle.replay.proofs.Sent.{sent_more}
use Rattle.replay.proofs.due.write_sends.Goals as goal

pub loop-send-preserved : goal.loop-send-preserved
loop-send-preserved c =
    sent_more (said_by c.args.given.now) c.args.sends.now c.loop-send.send-index c.send-item.result _ _ _ c.loop-send-test.true c.send-item.is c.loop-send.invariant c.in_ok-write_send.ensures
