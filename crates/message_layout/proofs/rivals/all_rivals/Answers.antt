use Rattle.std.proofs.Common.{ap, arith, length, [], ◌∷◌, length-append}
use Rattle.message_layout.proofs.Rows.{next_row}
use Rattle.message_layout.proofs.rivals.all_rivals.Goals as goal

pub loop-m-preserved : goal.loop-m-preserved
loop-m-preserved c = record {
  counted = (let e = ap length c.in_ok-push.ensures.ok in let l = length-append c.loop-m.rivals (c.in_ok-rivals_of.field-0 ∷ []) in omega arith);
  marked = next_row c.args.shapes.now c.loop-m.m c.loop-m.rivals c.push.new.self c.in_ok-rivals_of.field-0 c.loop-m.invariant.counted c.in_ok-push.ensures.ok c.in_ok-rivals_of.ensures c.loop-m.invariant.marked;
}
