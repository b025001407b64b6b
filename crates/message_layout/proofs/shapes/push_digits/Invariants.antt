use Rattle.std.proofs.Common.{◌≡◌, ◌++◌, ◌-◌, Some, map}
use Rattle.byte_meaning.specs.Spelling.{digits}
use Rattle.message_layout.proofs.shapes.push_digits.Given as goal

abbrev pub invariant-loop-at : goal.invariant-loop-at
invariant-loop-at l = l.bits ++ map Some (digits (l.width - l.at) l.number) ≡ l.initial.bits ++ map Some (digits l.width l.number)
