use Rattle.drawn_steps.specs.Acting.{scene}
use Rattle.action_machine.proofs.Coming.{here, past, some_can, some_first, some_last, some_less, some_on, some_there}
use Rattle.action_machine.proofs.running.finish.Goals as goal

pub instrs-init : goal.instrs-init
instrs-init g c = λ b. some_first c.args.messages.now c.args.instrs.now c.args.received.now (scene c.args.core.now c.args.timers.now c.args.out.now c.args.generator.now) b c.args.steps.now.book.total

pub act-requires-clause-can : goal.act-requires-clause-can
act-requires-clause-can g c =
    some_can c.args.messages.now c.args.instrs.now c.args.received.now (scene c.args.core.now c.args.timers.now c.args.out.now c.args.generator.now) c.requires (scene c.instrs.core c.instrs.timers c.instrs.out c.instrs.generator) c.args.steps.now.book.total c.instrs.steps.book.total c.instr_at-instr.result (c.instrs.invariant c.requires) (here c.args.instrs.now c.instrs.core.next c.next-in-instrs.result c.instr_at-instr.result c.next-in-instrs.ensures c.instr_at-instr.ensures)

pub act-requires-clause-there : goal.act-requires-clause-there
act-requires-clause-there g c =
    some_there c.args.messages.now c.args.instrs.now c.args.received.now (scene c.args.core.now c.args.timers.now c.args.out.now c.args.generator.now) c.requires (scene c.instrs.core c.instrs.timers c.instrs.out c.instrs.generator) c.args.steps.now.book.total c.instrs.steps.book.total c.instr_at-instr.result (c.instrs.invariant c.requires) (here c.args.instrs.now c.instrs.core.next c.next-in-instrs.result c.instr_at-instr.result c.next-in-instrs.ensures c.instr_at-instr.ensures)

pub instrs-smaller : goal.instrs-smaller
instrs-smaller g c =
    some_less c.args.messages.now c.args.instrs.now c.args.received.now (scene c.args.core.now c.args.timers.now c.args.out.now c.args.generator.now) c.requires (scene c.instrs.core c.instrs.timers c.instrs.out c.instrs.generator) c.args.steps.now.book.total c.instrs.steps.book.total c.instr_at-instr.result (c.instrs.invariant c.requires) (here c.args.instrs.now c.instrs.core.next c.next-in-instrs.result c.instr_at-instr.result c.next-in-instrs.ensures c.instr_at-instr.ensures)
    (scene c.act.new.core c.act.new.timers c.act.new.out c.act.new.generator) c.tick.new.self.book.total c.act.ensures c.tick.ensures

pub instrs-preserved : goal.instrs-preserved
instrs-preserved g c = λ b.
    some_on c.args.messages.now c.args.instrs.now c.args.received.now (scene c.args.core.now c.args.timers.now c.args.out.now c.args.generator.now) b (scene c.instrs.core c.instrs.timers c.instrs.out c.instrs.generator) c.args.steps.now.book.total c.instrs.steps.book.total c.instr_at-instr.result (c.instrs.invariant b) (here c.args.instrs.now c.instrs.core.next c.next-in-instrs.result c.instr_at-instr.result c.next-in-instrs.ensures c.instr_at-instr.ensures)
    (scene c.act.new.core c.act.new.timers c.act.new.out c.act.new.generator) c.tick.new.self.book.total c.act.ensures c.tick.ensures

pub returns : goal.returns
returns g c = λ b.
    some_last c.args.messages.now c.args.instrs.now c.args.received.now (scene c.args.core.now c.args.timers.now c.args.out.now c.args.generator.now) b (scene c.instrs.core c.instrs.timers c.instrs.out c.instrs.generator) c.args.steps.now.book.total c.instrs.steps.book.total (c.instrs.invariant b) (past c.args.instrs.now c.instrs.core.next c.next.result c.next.ensures c.instrs-test.false)
