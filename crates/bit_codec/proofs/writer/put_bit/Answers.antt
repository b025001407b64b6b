use Rattle.bit_codec.proofs.Bits.{put_full, put_waits}
use Rattle.bit_codec.proofs.writer.put_bit.Goals as goal

pub returns-then-p-eq7 : goal.returns-then-p-eq7
returns-then-p-eq7 c = put_full c.args.room.now c.args.p c.args.bit c.requires.bit c.if-p-eq7.true c.requires.room

pub returns : goal.returns
returns c = put_waits c.args.room.now c.args.p c.args.bit c.requires.bit c.requires.ready c.if-p-eq7.false
