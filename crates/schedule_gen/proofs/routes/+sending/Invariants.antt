use Rattle.std.proofs.Common.{◌≡◌, drop, map}
use Rattle.tap_base.specs.Parts.{all_deeds, branch_deeds, joined}
use Rattle.schedule_gen.specs.Sending.{send_to_among}
use Rattle.schedule_gen.proofs.routes.+sending.Given as goal

abbrev pub invariant-branches_send_to-loop-branch : goal.invariant-branches_send_to-loop-branch
invariant-branches_send_to-loop-branch l = send_to_among l.to (joined (map branch_deeds (drop l.branch-index l.branches))) ≡ send_to_among l.to (joined (map branch_deeds l.branches))

abbrev pub invariant-body_sends_to-loop-stmt : goal.invariant-body_sends_to-loop-stmt
invariant-body_sends_to-loop-stmt l = send_to_among l.to (all_deeds (drop l.stmt-index l.stmts)) ≡ send_to_among l.to (all_deeds l.stmts)
