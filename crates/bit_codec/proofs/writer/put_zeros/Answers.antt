use Rattle.std.proofs.Common.{arith}
use Rattle.bit_codec.proofs.Bits.{filled, filled_whole}
use Rattle.bit_codec.proofs.writer.put_zeros.Goals as goal

pub returns-then-p-gt0 : goal.returns-then-p-gt0
returns-then-p-gt0 c = filled c.args.room.now c.args.p c.put_number-q.new.room c.put_number-q.result c.requires.ready c.if-p-gt0.true c.requires.room (omega arith) c.put_number-q.ensures

pub returns : goal.returns
returns c = filled_whole c.args.room.now c.args.p (omega arith) c.requires.room
