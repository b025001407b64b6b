use Rattle.std.proofs.Common.{◌≡◌, ◌++◌, ◌-◌, None, replicate}
use Rattle.message_layout.proofs.shapes.push_free.Given as goal

abbrev pub invariant-loop-i : goal.invariant-loop-i
invariant-loop-i l = l.bits ++ replicate (l.width - l._i) None ≡ l.initial.bits ++ replicate l.width None
