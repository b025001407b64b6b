use Rattle.std.proofs.Common.{◌≡◌}
use Rattle.code_rules.specs.Places.{seen}
use Rattle.register_code.specs.Verified.{instr_breaks}
use Rattle.action_code.proofs.Firsts.{left}
use Rattle.action_code.proofs.breaks.instr_break.Given as goal

abbrev pub invariant-loop-at : goal.invariant-loop-at
invariant-loop-at l = left (instr_breaks (seen l.code l.instrs l.place) l.action) l.instrs l.at ≡ left (instr_breaks (seen l.code l.instrs l.place) l.action) l.instrs 0
