use Rattle.std.proofs.Common.{take}
use Rattle.run_text.specs.ScheduleText.{Lacks}
use Rattle.run_text.proofs.splits.split_at_first.Given as goal

-- the byte has not come yet
abbrev pub invariant-loop-at : goal.invariant-loop-at
invariant-loop-at l = Lacks l.byte (take l.at l.text)
