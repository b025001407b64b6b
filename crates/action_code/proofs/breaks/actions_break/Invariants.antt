use Rattle.std.proofs.Common.{◌≡◌}
use Rattle.register_code.specs.Verified.{action_breaks}
use Rattle.code_rules.specs.Places.{IsInProcess}
use Rattle.action_code.proofs.Firsts.{left}
use Rattle.action_code.proofs.breaks.actions_break.Given as goal

abbrev pub invariant-loop-at : goal.invariant-loop-at
invariant-loop-at l = record {
  first : left (action_breaks l.code l.number l.process) l.process.actions l.at ≡ left (action_breaks l.code l.number l.process) l.process.actions 0;
  place : IsInProcess l.number l.process l.place;
}
