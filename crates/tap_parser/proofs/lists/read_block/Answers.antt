use Rattle.std.proofs.Common.{ap}
use Rattle.tap_lexer.specs.Lexeme.{lexemes}
use Rattle.tap_parser.proofs.TextBlocks.{Blocks, BlockStops, block_answers, no_block_answers, same_kept}
use Rattle.tap_parser.proofs.TextParts.{valued}
use Rattle.tap_parser.specs.declared.kept.Kept.TheVariants.{Whole}
use Rattle.tap_parser.proofs.lists.read_block.Goals as goal

pub returns-then-shows : goal.returns-then-shows
returns-then-shows g c =
    let xs = lexemes c.args.source.now.text.now c.args.source.now.tokens.now in
    let I = g.F.Form.spelled in
    let S = g.F.Form.stops in
    let s = c.args.separator in
    let w = c.args.word in
    same_kept (Blocks I S s w) (BlockStops I S s w) xs c.args.at _ (block_answers I S s w xs c.args.at _ (c.shows.ensures.there c.if-shows.true) c.read_separated.ensures)

pub returns : goal.returns
returns g c =
    let xs = lexemes c.args.source.now.text.now c.args.source.now.tokens.now in
    let I = g.F.Form.spelled in
    let S = g.F.Form.stops in
    let s = c.args.separator in
    let w = c.args.word in
    valued (Blocks I S s w) (BlockStops I S s w) xs c.args.at c.args.at _ _ (ap (λ l. Whole l) c.new.ensures) (no_block_answers I S s w xs c.args.at (c.shows.ensures.lacks c.if-shows.false))
