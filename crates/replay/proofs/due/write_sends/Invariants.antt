use Rattle.std.proofs.Common.{take, string_bytes}
use Rattle.replay.specs.inner.Judging.{Wrote, said_by, sends_text}
use Rattle.replay.proofs.due.write_sends.Given as goal

-- the lines of the datagrams so far were written
abbrev pub invariant-loop-send : goal.invariant-loop-send
invariant-loop-send l = Wrote (sends_text (said_by l.given) (take l.send-index l.sends)) (string_bytes l.fn.text) (string_bytes l.text)
