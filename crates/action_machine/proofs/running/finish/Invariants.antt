use Rattle.register_code.specs.Loops.{one_step}
use Rattle.sound_code.proofs.Falls.{still_counts}
use Rattle.drawn_steps.specs.Acting.{scene}
use Rattle.action_machine.specs.Runs.{Begins}
use Rattle.action_machine.proofs.Coming.{CameSome}
use Rattle.action_machine.proofs.running.finish.Given as goal

abbrev pub invariant-instrs : goal.invariant-instrs
invariant-instrs g l =
    (b : Begins l.messages l.instrs l.received (scene l.fn.core l.fn.timers l.fn.out l.fn.generator))
    → CameSome b.task (scene l.fn.core l.fn.timers l.fn.out l.fn.generator) (scene l.core l.timers l.out l.generator) l.fn.steps.book.total l.steps.book.total

abbrev pub decreases-instrs : goal.decreases-instrs
decreases-instrs g l = still_counts one_step l.instrs l.core.counters l.core.next
