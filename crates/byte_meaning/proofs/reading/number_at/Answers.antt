use Rattle.std.proofs.Common.{◌+◌, ◌*◌, ◌/◌, ◌%◌, ◌^◌, ◌-◌, ap, ◌∙◌, arith, get_or}
use Rattle.byte_meaning.proofs.Read.{number_next, small_next}
use Rattle.byte_meaning.proofs.reading.number_at.Goals as goal

pub loop-i-preserved : goal.loop-i-preserved
loop-i-preserved c =
    let byte = get_or c.args.bytes.now ((c.args.at + c.loop-i.i) / 8) 0 / 2 ^ (7 - (c.args.at + c.loop-i.i) % 8) in
    record {
      number = ap (λ n. 2 * n + byte % 2) c.loop-i.invariant.number ∙ number_next c.args.bytes.now c.args.at c.loop-i.i (omega arith);
      small = small_next c.loop-i.number c.loop-i.i byte c.loop-i.invariant.small;
    }
