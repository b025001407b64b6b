use Rattle.std.proofs.Common.{ap, arith, length, [], ◌∷◌}
use Rattle.std.proofs.Common.{length-append}
use Rattle.message_layout.proofs.Rows.{all_marked, next_mark}
use Rattle.message_layout.proofs.rivals.marked_rivals.Goals as goal

pub loop-n-preserved : goal.loop-n-preserved
loop-n-preserved c = record {
  counted = (let e = ap length c.in_ok-push.ensures.ok in let l = length-append c.loop-n.row (c.are_rivals.result ∷ []) in omega arith);
  marked = next_mark c.args.shapes.now c.args.m c.loop-n.n c.loop-n.row c.push.new.self _ c.loop-n.invariant.counted c.in_ok-push.ensures.ok c.are_rivals.ensures c.loop-n.invariant.marked;
}

pub returns : goal.returns
returns c = all_marked c.args.shapes.now c.args.m c.loop-n.n c.loop-n.row c.loop-n-test.false c.loop-n.invariant.marked
