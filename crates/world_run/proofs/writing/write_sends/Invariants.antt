use Rattle.std.proofs.Common.{take, string_bytes}
use Rattle.tap_exec.specs.Semantics.{semantics_of}
use Rattle.world_run.specs.inner.Writing.{Wrote, sends_text}
use Rattle.world_run.proofs.writing.write_sends.Given as goal

-- the lines of the datagrams so far were written
abbrev pub invariant-loop-send : goal.invariant-loop-send
invariant-loop-send l = Wrote (sends_text (semantics_of l.world.system) (take l.send-index l.sends)) (string_bytes l.fn.text) (string_bytes l.text)
