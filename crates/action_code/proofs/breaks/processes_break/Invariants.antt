use Rattle.std.proofs.Common.{◌≡◌}
use Rattle.register_code.specs.Verified.{process_breaks}
use Rattle.action_code.proofs.Firsts.{left}
use Rattle.action_code.proofs.breaks.processes_break.Given as goal

abbrev pub invariant-loop-at : goal.invariant-loop-at
invariant-loop-at l = left (process_breaks l.code) l.code.processes l.at ≡ left (process_breaks l.code) l.code.processes 0
