use Rattle.std.proofs.Common.{sym}
use Rattle.tap_lexer.proofs.Pieces.{two_longest, one_longest, none_there}
use Rattle.tap_lexer.proofs.longest.longest_symbol.Goals as goal

pub returns-then-starts_symbol : goal.returns-then-starts_symbol
returns-then-starts_symbol c = two_longest c.args.text.now c.args.first c.requires.there c.requires.no_letter c.requires.no_digit (sym c.if-starts_symbol.ensures)

pub returns-then-starts_symbol-2 : goal.returns-then-starts_symbol-2
returns-then-starts_symbol-2 c = one_longest c.args.text.now c.args.first c.requires.there c.requires.no_letter c.requires.no_digit (sym c.if-starts_symbol.ensures) (sym c.if-starts_symbol-2.ensures)

pub returns : goal.returns
returns c = none_there c.args.text.now c.args.first c.requires.there c.requires.no_letter c.requires.no_digit (sym c.if-starts_symbol.ensures) (sym c.if-starts_symbol-2.ensures)
