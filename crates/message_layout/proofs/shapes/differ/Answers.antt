use Rattle.message_layout.proofs.Marks.{differ_nowhere}
use Rattle.message_layout.proofs.shapes.differ.Goals as goal

pub returns : goal.returns
returns c = differ_nowhere c.args.one.now c.args.other.now c.loop-at.at c.loop-at-test.false c.loop-at.invariant
