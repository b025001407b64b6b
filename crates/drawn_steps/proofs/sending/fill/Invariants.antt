use Rattle.drawn_steps.proofs.SentOut.{IsFilling}
use Rattle.drawn_steps.proofs.sending.fill.Given as goal

abbrev pub invariant-loop-at : goal.invariant-loop-at
invariant-loop-at l = IsFilling l.fields l.given l.fn.out l.at l.used l.out
