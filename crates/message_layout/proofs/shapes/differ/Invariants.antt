use Rattle.std.proofs.Common.{ℕ, ◌<◌}
use Rattle.byte_meaning.specs.Apart.{DifferAt}
use Rattle.message_layout.proofs.shapes.differ.Given as goal

abbrev pub invariant-loop-at : goal.invariant-loop-at
invariant-loop-at l = (k : ℕ) → k < l.at → DifferAt l.one l.other k → ⊥
