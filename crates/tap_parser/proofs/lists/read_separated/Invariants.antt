use Rattle.std.proofs.Common.{◌-◌, length}
use Rattle.tap_lexer.specs.Lexeme.{lexemes}
use Rattle.tap_parser.proofs.TextBlocks.{Steps, Lists}
use Rattle.tap_parser.proofs.TextLists.{Leads}
use Rattle.tap_parser.proofs.lists.read_separated.Given as goal

abbrev pub invariant-items : goal.invariant-items
invariant-items g l = Leads (Steps g.F.Form.spelled g.F.Form.stops l.separator) (Lists g.F.Form.spelled g.F.Form.stops l.separator) g.F.Form.stops l.separator (lexemes l.source.text.now l.source.tokens.now) l.at l.next l.value

abbrev pub decreases-items : goal.decreases-items
decreases-items g l = length l.source.tokens.now - l.next
