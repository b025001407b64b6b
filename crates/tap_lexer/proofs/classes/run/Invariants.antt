use Rattle.std.proofs.Common.{◌≡◌, ◌+◌, drop}
use Rattle.std.specs.List.{prefix_len}
use Rattle.tap_lexer.specs.inner.Lexing.{belongs}
use Rattle.tap_lexer.proofs.classes.run.Given as goal

abbrev pub invariant-loop-byte : goal.invariant-loop-byte
invariant-loop-byte l = (l.count ≡ l.byte-index) × (l.count + prefix_len (belongs l.class) (drop l.byte-index l.bytes) ≡ prefix_len (belongs l.class) l.bytes)
