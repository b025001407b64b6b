use Rattle.std.proofs.Common.{take}
use Rattle.run_text.specs.ScheduleText.{Lacks}
use Rattle.replay.proofs.reader.split_line.Given as goal

-- no line feed has come yet
abbrev pub invariant-loop-at : goal.invariant-loop-at
invariant-loop-at l = Lacks 10 (take l.at l.text)
