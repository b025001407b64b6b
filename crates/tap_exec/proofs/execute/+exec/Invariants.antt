use Rattle.std.proofs.Common.{◌≡◌, ◌-◌, drop, map}
use Rattle.tap_exec.specs.Computed.{computed}
use Rattle.tap_exec.specs.Sourced as spec
use Rattle.tap_exec.specs.Filling.{wire_fields}
use Rattle.tap_exec.proofs.execute.+exec.Given as goal

abbrev pub invariant-rounds-loop-i : goal.invariant-rounds-loop-i
invariant-rounds-loop-i g l =
    let bs = map (spec.alternative computed (map wire_fields l.messages) l.inputs l.received g.C.Choices.takes) l.branches in
    spec.rounds g.C.Choices.takes (l.count - l._i) bs l.r ≡ spec.rounds g.C.Choices.takes l.count bs l.fn.r

abbrev pub invariant-exec_all-loop-stmt : goal.invariant-exec_all-loop-stmt
invariant-exec_all-loop-stmt g l =
    let ms = map wire_fields l.messages in
    spec.exec_all computed ms l.inputs l.received g.C.Choices.takes (drop l.stmt-index l.stmts) l.r ≡ spec.exec_all computed ms l.inputs l.received g.C.Choices.takes l.stmts l.fn.r
