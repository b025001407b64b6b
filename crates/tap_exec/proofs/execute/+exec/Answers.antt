use Rattle.std.proofs.Common.{◌≡◌, ◌+◌, ◌-◌, suc, map, ap, sym, ◌∙◌, arith}
use Rattle.tap_exec.specs.Computed.{computed}
use Rattle.tap_exec.specs.Sourced.{alternative, rounds}
use Rattle.tap_exec.specs.Filling.{wire_fields}
use Rattle.tap_exec.proofs.Alternatives.{branch_done, branch_undone, open_same, rounds_closed, rounds_step, rounds_end, rounds_undone}
use Rattle.tap_exec.proofs.execute.+exec.Goals as goal

pub run_branch-returns-then-done : goal.run_branch-returns-then-done
run_branch-returns-then-done g t c =
    branch_done g.C.Choices.takes (map wire_fields c.args.messages.now) c.args.inputs.now c.args.received.now c.args.branches.now c.args.at c.in-Some.chosen.now c.args.r.now _ c.in_ok-done.done _
    (sym c.in-Some.ensures) c.as_slice.ensures c.in_ok-done.ensures c.if-done.true

pub run_branch-returns-else-done : goal.run_branch-returns-else-done
run_branch-returns-else-done g t c =
    branch_undone g.C.Choices.takes (map wire_fields c.args.messages.now) c.args.inputs.now c.args.received.now c.args.branches.now c.args.at c.in-Some.chosen.now c.args.r.now _ c.in_ok-done.done _
    (sym c.in-Some.ensures) c.as_slice.ensures c.in_ok-done.ensures c.if-done.false

pub rounds-returns-in_default : goal.rounds-returns-in_default
rounds-returns-in_default g t c =
    let ms = map wire_fields c.args.messages.now in
    let bs = map (alternative computed ms c.args.inputs.now c.args.received.now g.C.Choices.takes) c.args.branches.now in
    let left : c.args.count - c.loop-i._i ≡ suc (c.args.count - (c.loop-i._i + 1)) = omega arith in
    sym c.loop-i.invariant
    ∙ ap (λ k. rounds g.C.Choices.takes k bs c.loop-i.r) left
    ∙ rounds_closed g.C.Choices.takes (c.args.count - (c.loop-i._i + 1)) bs c.loop-i.r
    (open_same g.C.Choices.takes ms c.args.inputs.now c.args.received.now 0 c.args.branches.now c.loop-i.r ∙ sym c.in_ok-ready.ensures.ready ∙ c.in_default.is)

pub rounds-returns-in-None : goal.rounds-returns-in-None
rounds-returns-in-None g t c =
    let ms = map wire_fields c.args.messages.now in
    let bs = map (alternative computed ms c.args.inputs.now c.args.received.now g.C.Choices.takes) c.args.branches.now in
    let left : c.args.count - c.loop-i._i ≡ suc (c.args.count - (c.loop-i._i + 1)) = omega arith in
    sym c.loop-i.invariant
    ∙ ap (λ k. rounds g.C.Choices.takes k bs c.loop-i.r) left
    ∙ rounds_undone g.C.Choices.takes (c.args.count - (c.loop-i._i + 1)) bs c.in-Some.ready _ c.loop-i.r c.round.new.r c.in_ok-round.field-0
    (open_same g.C.Choices.takes ms c.args.inputs.now c.args.received.now 0 c.args.branches.now c.loop-i.r ∙ sym c.in_ok-ready.ensures.ready ∙ c.in-Some.is) c.as_slice-ready.ensures c.in_ok-round.ensures c.in-None.is

pub rounds-returns-in-Some-false : goal.rounds-returns-in-Some-false
rounds-returns-in-Some-false g t c =
    let ms = map wire_fields c.args.messages.now in
    let bs = map (alternative computed ms c.args.inputs.now c.args.received.now g.C.Choices.takes) c.args.branches.now in
    let left : c.args.count - c.loop-i._i ≡ suc (c.args.count - (c.loop-i._i + 1)) = omega arith in
    sym c.loop-i.invariant
    ∙ ap (λ k. rounds g.C.Choices.takes k bs c.loop-i.r) left
    ∙ rounds_end g.C.Choices.takes (c.args.count - (c.loop-i._i + 1)) bs c.in-Some.ready _ c.loop-i.r c.round.new.r c.in_ok-round.field-0 c.in-Some-false.field-0
    (open_same g.C.Choices.takes ms c.args.inputs.now c.args.received.now 0 c.args.branches.now c.loop-i.r ∙ sym c.in_ok-ready.ensures.ready ∙ c.in-Some.is) c.as_slice-ready.ensures c.in_ok-round.ensures c.in-Some-false.is c.in-Some-false.field-0-test

pub rounds-loop-i-preserved : goal.rounds-loop-i-preserved
rounds-loop-i-preserved g t c =
    let ms = map wire_fields c.args.messages.now in
    let bs = map (alternative computed ms c.args.inputs.now c.args.received.now g.C.Choices.takes) c.args.branches.now in
    let left : c.args.count - c.loop-i._i ≡ suc (c.args.count - (c.loop-i._i + 1)) = omega arith in
    sym (rounds_step g.C.Choices.takes (c.args.count - (c.loop-i._i + 1)) bs c.in-Some.ready _ c.loop-i.r c.round.new.r c.in_ok-round.field-0 c.in-Some-true.field-0
    (open_same g.C.Choices.takes ms c.args.inputs.now c.args.received.now 0 c.args.branches.now c.loop-i.r ∙ sym c.in_ok-ready.ensures.ready ∙ c.in-Some.is) c.as_slice-ready.ensures c.in_ok-round.ensures c.in-Some-true.is c.in-Some-true.field-0-test)
    ∙ ap (λ k. rounds g.C.Choices.takes k bs c.loop-i.r) (sym left)
    ∙ c.loop-i.invariant
