use Rattle.std.proofs.Common.{◌-◌, ◌≤◌, length}
use Rattle.tap_lexer.specs.Lexeme.{lexemes}
use Rattle.tap_expr.proofs.ExprDepth.{Passed}
use Rattle.tap_expr.proofs.depth.first_too_deep.Given as goal

abbrev pub invariant-tokens : goal.invariant-tokens
invariant-tokens l = record {
  within : l.at ≤ length l.source.tokens.now;
  passed : Passed (lexemes l.source.text.now l.source.tokens.now) l.at l.opened l.closed;
}

abbrev pub decreases-tokens : goal.decreases-tokens
decreases-tokens l = length l.source.tokens.now - l.at
