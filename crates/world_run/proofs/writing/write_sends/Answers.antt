use Rattle.tap_exec.specs.Semantics.{semantics_of}
use Rattle.world_run.proofs.Lines.{sent_more}
use Rattle.world_run.proofs.writing.write_sends.Goals as goal

pub loop-send-preserved : goal.loop-send-preserved
loop-send-preserved c =
    sent_more (semantics_of c.args.world.now.system) c.args.sends.now c.loop-send.send-index c.send-item.result _ _ _ c.loop-send-test.true c.send-item.is c.loop-send.invariant c.in_ok-write_send.ensures
