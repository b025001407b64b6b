use Rattle.sound_code.proofs.Falls.{still_counts}
use Rattle.register_code.specs.Loops.{one_step}
use Rattle.code_steps.specs.Guarding.{ComesTo, IsInGuard, KeepsFirst}
use Rattle.code_steps.proofs.guard.finish.Given as goal

abbrev pub invariant-instrs : goal.invariant-instrs
invariant-instrs l = record {
  guards : IsInGuard l.instrs l.core;
  keeps : KeepsFirst l.instrs l.fn.core l.core;
  comes : ComesTo l.instrs l.fn.core l.core;
}

abbrev pub decreases-instrs : goal.decreases-instrs
decreases-instrs l = still_counts one_step l.instrs l.core.counters l.core.next
