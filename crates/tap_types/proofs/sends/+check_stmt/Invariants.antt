use Rattle.std.proofs.Common.{◌≡◌, drop, map}
use Rattle.tap_base.specs.ListWords.{joined}
use Rattle.tap_types.specs.SendOffences.{unreceived_behind, unreceived_in}
use Rattle.tap_types.specs.inner.Receiving.{is_taken}
use Rattle.tap_types.proofs.sends.+check_stmt.Given as goal

abbrev pub invariant-check_body-body : goal.invariant-check_body-body
invariant-check_body-body l = joined (map (unreceived_in (is_taken l.receivers l.sender)) (drop l.stmt-index l.body)) ≡ joined (map (unreceived_in (is_taken l.receivers l.sender)) l.body)

abbrev pub invariant-check_branches-branches : goal.invariant-check_branches-branches
invariant-check_branches-branches l = joined (map (unreceived_behind (is_taken l.receivers l.sender)) (drop l.branch-index l.branches)) ≡ joined (map (unreceived_behind (is_taken l.receivers l.sender)) l.branches)
