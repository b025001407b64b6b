use Rattle.std.proofs.Common.{ap, sym}
use Rattle.action_machine.specs.Machines.{Placed}
use Rattle.action_machine.proofs.Placing.{found, holds, starts_found, tells_found}
use Rattle.action_machine.proofs.machine.Machine.guard.Goals as goal

pub judge-requires : goal.judge-requires
judge-requires c =
    let process_is = ap (λ (p : Placed). p.process) c.self.view_is in
    let a = found c.args.code.now c.code-code.result.now c.args.self.now c.self.inside.process c.args.action c.process_of-process.result.now c.action_of-action.result.now c.code-code.ensures.value process_is c.process_of-process.ensures c.action_of-action.ensures in
    let held = holds c.args.self.now c.self.inside.cells c.self.inside.kept c.self.inside.process c.self.inside.core c.self.invariant.1 (sym c.self.view_is) in
    starts_found c.args.code.now c.args.self.now c.args.action c.self.inside.kept c.self.inside.core c.code-code.ensures.verified c.requires.machine c.requires.guard a held

pub returns-clause-value : goal.returns-clause-value
returns-clause-value c = λ b.
    let process_is = ap (λ (p : Placed). p.process) c.self.view_is in
    let a = found c.args.code.now c.code-code.result.now c.args.self.now c.self.inside.process c.args.action c.process_of-process.result.now c.action_of-action.result.now c.code-code.ensures.value process_is c.process_of-process.ensures c.action_of-action.ensures in
    let held = holds c.args.self.now c.self.inside.cells c.self.inside.kept c.self.inside.process c.self.inside.core c.self.invariant.1 (sym c.self.view_is) in
    tells_found c.args.code.now c.args.self.now c.args.action c.self.inside.kept c.self.inside.core c.judge.result c.code-code.ensures.verified c.requires.machine c.requires.guard a b held c.judge.ensures.value
