use Rattle.std.proofs.Common.{ap}
use Rattle.tap_base.specs.declared.token.Sign.TheVariants as sign
use Rattle.tap_lexer.specs.Lexeme.{lexemes}
use Rattle.tap_lexer.specs.inner.Reading.{Lacks}
use Rattle.tap_parser.specs.declared.kept.Kept.TheVariants.{Whole}
use Rattle.tap_parser.proofs.TextParts.{valued}
use Rattle.tap_parser.proofs.TextBlocks.{same_kept}
use Rattle.tap_parser.proofs.TextDeclared.{message_begins, message_longer}
use Rattle.tap_parser.proofs.TextProcesses.{MessageRows, no_rows_answers, rows_answers}
use Rattle.tap_parser.proofs.processes.read_messages.Goals as goal

pub read_row-requires-clause-begun : goal.read_row-requires-clause-begun
read_row-requires-clause-begun c = λ n a ts us r. message_begins a ts us r

pub returns-then-shows : goal.returns-then-shows
returns-then-shows c = let xs = lexemes c.args.source.now.text.now c.args.source.now.tokens.now in same_kept MessageRows (Lacks sign.Message) xs c.args.at c.read_row.result (rows_answers xs c.args.at c.read_row.result (c.shows.ensures.there c.if-shows.true) c.read_row.ensures)

pub returns : goal.returns
returns c = let xs = lexemes c.args.source.now.text.now c.args.source.now.tokens.now in valued MessageRows (Lacks sign.Message) xs c.args.at c.args.at _ _ (ap (λ l. Whole l) c.new.ensures) (no_rows_answers xs c.args.at (c.shows.ensures.lacks c.if-shows.false))

pub read_row-requires-clause-longer : goal.read_row-requires-clause-longer
read_row-requires-clause-longer c = λ n a x us r. message_longer a x us r
