use Rattle.tap_printer.proofs.Loops.{one_more}
use Rattle.tap_printer.proofs.written.write_all.Goals as goal

pub loop-item-preserved : goal.loop-item-preserved
loop-item-preserved g c =
    one_more g.T.Written.tokens c.args.items.now c.loop-item.item-index c.item-item.result _ c.loop-item.pen c.write.new.pen c.loop-item-test.true c.item-item.is c.loop-item.invariant (c.in_ok-write.ensures)
