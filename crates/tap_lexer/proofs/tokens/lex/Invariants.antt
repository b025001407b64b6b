use Rattle.std.proofs.Common.{◌+◌, ◌-◌, ◌≤◌, drop, length}
use Rattle.tap_lexer.specs.Tokens.{Lexes, Outcome, before}
use Rattle.tap_lexer.specs.Bytes.{start}
use Rattle.tap_lexer.proofs.tokens.lex.Given as goal

abbrev pub invariant-pieces : goal.invariant-pieces
invariant-pieces l = record {
  within : l.at ≤ length l.text;
  line : l.place.line ≤ l.at + 1;
  column : l.place.column ≤ l.at + 1;
  goes : (r : Outcome) → Lexes l.at l.place (drop l.at l.text) r → Lexes 0 start l.text (before l.tokens r);
}

abbrev pub decreases-pieces : goal.decreases-pieces
decreases-pieces l = length l.text - l.at
