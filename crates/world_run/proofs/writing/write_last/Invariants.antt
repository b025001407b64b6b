use Rattle.std.proofs.Common.{take, string_bytes}
use Rattle.tap_exec.specs.Semantics.{semantics_of}
use Rattle.world_run.specs.inner.Writing.{Wrote, labels_text}
use Rattle.world_run.proofs.writing.write_last.Given as goal

-- the lines of the labels so far were written
abbrev pub invariant-loop-label : goal.invariant-loop-label
invariant-loop-label l = Wrote (labels_text (semantics_of l.world.system) l.world.last.sent (take l.label-index l.label-items)) (string_bytes l.fn.text) (string_bytes l.text)
