use Rattle.std.proofs.lemmas.Str.{IsUtf8-from_ascii}
use Rattle.tap_lexer.proofs.source.Source.name.Goals as goal

pub returns : goal.returns
returns c = c.in_ok-from_utf8_lossy.ensures.ok (IsUtf8-from_ascii _ c.requires.ascii)
