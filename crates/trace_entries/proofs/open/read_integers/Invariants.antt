use Rattle.std.proofs.Common.{FitsSigned, length}
use Rattle.std.specs.Fmt.{signed_decimal}
use Rattle.std.specs.Int.{w64}
use Rattle.run_text.specs.Operands.{words_left}
use Rattle.trace_entries.proofs.TailFacts.{Reached}
use Rattle.trace_entries.proofs.open.read_integers.Given as goal

abbrev pub invariant-loop-left : goal.invariant-loop-left
invariant-loop-left l = Reached (FitsSigned w64) signed_decimal (words_left l.words) l.values (words_left l.left)

abbrev pub decreases-loop-left : goal.decreases-loop-left
decreases-loop-left l = length (words_left l.left)
