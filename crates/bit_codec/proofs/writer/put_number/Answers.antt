use Rattle.std.proofs.Common.{take, [], ◌∷◌, subst, arith, ◌-◌, ◌/◌, ◌%◌, ◌^◌}
use Rattle.byte_meaning.specs.Spelling.{digits}
use Rattle.bit_codec.specs.inner.Puts.{Puts}
use Rattle.bit_codec.proofs.Bits.{puts_more, digit_taken, digits_taken, length_digits_taken}
use Rattle.bit_codec.proofs.writer.put_number.Goals as goal

pub put_bit-q-requires-clause-room : goal.put_bit-q-requires-clause-room
put_bit-q-requires-clause-room c =
    let place = c.loop-i.invariant.place in
    let i = length_digits_taken c.args.width c.args.number c.loop-i.i (omega arith) in omega arith

pub loop-i-preserved : goal.loop-i-preserved
loop-i-preserved c =
    puts_more c.args.room.now c.args.p (take c.loop-i.i (digits c.args.width c.args.number)) c.loop-i.room c.loop-i.q
    (c.args.number / 2 ^ (c.args.width - 1 - c.loop-i.i) % 2 ∷ []) c.put_bit-q.new.room c.put_bit-q.result _
    c.loop-i.invariant c.put_bit-q.ensures (digit_taken c.args.width c.args.number c.loop-i.i c.loop-i-test.true)

pub returns : goal.returns
returns c = subst (λ bits. Puts c.args.room.now c.args.p bits c.loop-i.room c.loop-i.q) (digits_taken c.args.width c.args.number c.loop-i.i c.loop-i-test.false) c.loop-i.invariant
