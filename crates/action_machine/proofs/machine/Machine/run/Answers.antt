use Rattle.std.proofs.Common.{ap, length, sym}
use Rattle.action_machine.proofs.Bodies.{begins_found, opened_is, played}
use Rattle.action_machine.proofs.machine.Machine.run.Goals as goal

pub finish-requires : goal.finish-requires
finish-requires g c =
    let core_is = opened_is c.action_of-action.result.now c.self.inside.kept c.self.inside.core c.open.new.self c.as_slice.result.now (length c.as_slice-instrs.result.now) c.open.ensures c.as_slice.ensures (ap length c.as_slice-instrs.ensures) in
    begins_found c.args.code.now c.code-code.result.now c.args.self.now c.args.action c.self.inside.cells c.self.inside.kept c.self.inside.process c.args.message.now c.self.inside.core c.open.new.self c.process_of-process.result.now c.action_of-action.result.now
    c.as_slice-messages.result.now c.as_slice-instrs.result.now c.args.timers.now c.args.draw.now c.args.out.now c.code-code.ensures.verified c.requires.machine c.requires.can c.time-time.ensures.fit c.code-code.ensures.value (sym c.self.view_is) c.self.invariant.1
    c.process_of-process.ensures c.action_of-action.ensures core_is c.as_slice-messages.ensures c.as_slice-instrs.ensures

pub invariant_of-self : goal.invariant_of-self
invariant_of-self g c =
    let core_is = opened_is c.action_of-action.result.now c.self.inside.kept c.self.inside.core c.open.new.self c.as_slice.result.now (length c.as_slice-instrs.result.now) c.open.ensures c.as_slice.ensures (ap length c.as_slice-instrs.ensures) in (
      c.self.invariant.0,
      (played c.args.code.now c.code-code.result.now c.args.self.now c.args.action c.self.inside.cells c.self.inside.kept c.self.inside.process c.args.message.now c.self.inside.core c.open.new.self c.finish.new.core c.process_of-process.result.now
          c.action_of-action.result.now c.as_slice-messages.result.now c.as_slice-instrs.result.now c.args.timers.now c.finish.new.timers c.args.draw.now c.finish.new.generator c.args.out.now c.finish.new.out c.args.steps.now.book.total c.finish.new.steps.book.total
          c.code-code.ensures.verified c.requires.machine c.requires.can c.time-time.ensures.fit c.code-code.ensures.value (sym c.self.view_is) c.self.invariant.0 c.self.invariant.1 c.process_of-process.ensures c.action_of-action.ensures core_is c.as_slice-messages.ensures c.as_slice-instrs.ensures
          c.finish.ensures).inside,
    )

pub returns-clause-runs : goal.returns-clause-runs
returns-clause-runs g c =
    let core_is = opened_is c.action_of-action.result.now c.self.inside.kept c.self.inside.core c.open.new.self c.as_slice.result.now (length c.as_slice-instrs.result.now) c.open.ensures c.as_slice.ensures (ap length c.as_slice-instrs.ensures) in
    (played c.args.code.now c.code-code.result.now c.args.self.now c.args.action c.self.inside.cells c.self.inside.kept c.self.inside.process c.args.message.now c.self.inside.core c.open.new.self c.finish.new.core c.process_of-process.result.now
    c.action_of-action.result.now c.as_slice-messages.result.now c.as_slice-instrs.result.now c.args.timers.now c.finish.new.timers c.args.draw.now c.finish.new.generator c.args.out.now c.finish.new.out c.args.steps.now.book.total c.finish.new.steps.book.total
    c.code-code.ensures.verified c.requires.machine c.requires.can c.time-time.ensures.fit c.code-code.ensures.value (sym c.self.view_is) c.self.invariant.0 c.self.invariant.1 c.process_of-process.ensures c.action_of-action.ensures core_is c.as_slice-messages.ensures c.as_slice-instrs.ensures
    c.finish.ensures).runs

pub returns-clause-machine : goal.returns-clause-machine
returns-clause-machine g c =
    let core_is = opened_is c.action_of-action.result.now c.self.inside.kept c.self.inside.core c.open.new.self c.as_slice.result.now (length c.as_slice-instrs.result.now) c.open.ensures c.as_slice.ensures (ap length c.as_slice-instrs.ensures) in
    (played c.args.code.now c.code-code.result.now c.args.self.now c.args.action c.self.inside.cells c.self.inside.kept c.self.inside.process c.args.message.now c.self.inside.core c.open.new.self c.finish.new.core c.process_of-process.result.now
    c.action_of-action.result.now c.as_slice-messages.result.now c.as_slice-instrs.result.now c.args.timers.now c.finish.new.timers c.args.draw.now c.finish.new.generator c.args.out.now c.finish.new.out c.args.steps.now.book.total c.finish.new.steps.book.total
    c.code-code.ensures.verified c.requires.machine c.requires.can c.time-time.ensures.fit c.code-code.ensures.value (sym c.self.view_is) c.self.invariant.0 c.self.invariant.1 c.process_of-process.ensures c.action_of-action.ensures core_is c.as_slice-messages.ensures c.as_slice-instrs.ensures
    c.finish.ensures).machine
