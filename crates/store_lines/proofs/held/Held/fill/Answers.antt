use Rattle.std.proofs.Common.{rules}
use Rattle.std.proofs.KnownBytes.{Keeps-refl}
use Rattle.store_lines.proofs.Moved.{some_held}
use Rattle.store_lines.proofs.held.Held.fill.Goals as goal

pub returns-then-self-clause-fills : goal.returns-then-self-clause-fills
returns-then-self-clause-fills g c = (
  λ none. some_held c.self.inside.piece.items c.self.inside.start c.self.inside.end c.if-self.true c.self.invariant.1 (search rules),
  Keeps-refl _,
)
