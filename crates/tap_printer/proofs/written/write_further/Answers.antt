use Rattle.tap_printer.proofs.Loops.{one_further}
use Rattle.tap_printer.proofs.written.write_further.Goals as goal

pub loop-item-preserved : goal.loop-item-preserved
loop-item-preserved g c =
    one_further g.T.Written.tokens c.args.separator c.args.items.now c.loop-item.item-index c.item-item.result _ c.loop-item.pen c.mark.new.self c.write.new.pen c.loop-item-test.true c.item-item.is c.loop-item.invariant (c.in_ok-mark.ensures) (c.in_ok-write.ensures)
