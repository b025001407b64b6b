use Rattle.std.proofs.Common.{◌≡◌, Some, slice_get}
use Rattle.code_steps.proofs.Guards.{guard_can, guard_plain, guard_steps, guard_fits}
use Rattle.code_steps.proofs.Kept.{keeps_first}
use Rattle.code_steps.proofs.guard.step.Goals as goal

pub move_on-requires-clause-can : goal.move_on-requires-clause-can
move_on-requires-clause-can c =
    let n = c.next.ensures in
    let at : slice_get c.args.instrs.now c.args.core.now.next ≡ Some c.instr_at.result = cc in guard_can c.args.instrs.now c.args.core.now c.instr_at.result c.requires.guards at

pub move_on-requires-clause-plain : goal.move_on-requires-clause-plain
move_on-requires-clause-plain c =
    let n = c.next.ensures in
    let at : slice_get c.args.instrs.now c.args.core.now.next ≡ Some c.instr_at.result = cc in guard_plain c.args.instrs.now c.args.core.now c.instr_at.result c.requires.guards at

pub returns-clause-guards : goal.returns-clause-guards
returns-clause-guards c =
    let n = c.next.ensures in
    let at : slice_get c.args.instrs.now c.args.core.now.next ≡ Some c.instr_at.result = cc in
    guard_fits c.args.instrs.now c.args.core.now c.move_on.new.core c.requires.guards (guard_steps c.args.instrs.now c.args.core.now c.move_on.new.core c.instr_at.result at c.move_on.ensures)

pub returns-clause-comes : goal.returns-clause-comes
returns-clause-comes c =
    let n = c.next.ensures in
    let at : slice_get c.args.instrs.now c.args.core.now.next ≡ Some c.instr_at.result = cc in guard_steps c.args.instrs.now c.args.core.now c.move_on.new.core c.instr_at.result at c.move_on.ensures

pub returns-clause-keeps : goal.returns-clause-keeps
returns-clause-keeps c =
    let n = c.next.ensures in
    let at : slice_get c.args.instrs.now c.args.core.now.next ≡ Some c.instr_at.result = cc in keeps_first c.args.instrs.now c.args.core.now c.move_on.new.core c.instr_at.result at c.move_on.ensures
