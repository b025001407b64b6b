use Rattle.std.proofs.Common.{◌<◌, length}
use Rattle.run_text.specs.Operands.{words_left}
use Rattle.run_text.specs.TraceText.{name_at}
use Rattle.trace_entries.proofs.TailFacts.{Reached}
use Rattle.trace_entries.proofs.open.read_names.Given as goal

abbrev pub invariant-loop-left : goal.invariant-loop-left
invariant-loop-left l = Reached (λ p. p < length l.names) (name_at l.names) (words_left l.words) l.processes (words_left l.left)

abbrev pub decreases-loop-left : goal.decreases-loop-left
decreases-loop-left l = length (words_left l.left)
