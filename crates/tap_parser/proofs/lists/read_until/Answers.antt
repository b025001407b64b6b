use Rattle.std.proofs.Common.{◌+◌, ap, Ok, Err}
use Rattle.tap_lexer.specs.Lexeme.{lexemes}
use Rattle.tap_lexer.specs.inner.Reading.{Free}
use Rattle.tap_parser.proofs.TextBlocks.{Lists, ListStops, Untils, none_answers, until_answers, same_kept}
use Rattle.tap_parser.proofs.TextParts.{passed, closed_answers, closed_lacks, closed_stuck, valued}
use Rattle.tap_parser.specs.declared.kept.Kept.TheVariants.{Whole}
use Rattle.tap_parser.proofs.lists.read_until.Goals as goal

pub returns-then-shows : goal.returns-then-shows
returns-then-shows g c =
    let xs = lexemes c.args.source.now.text.now c.args.source.now.tokens.now in
    valued (Untils g.F.Form.spelled g.F.Form.stops c.args.separator c.args.close c.requires.apart) Free xs c.args.at (c.args.at + 1) _ _ (ap (λ l. Whole l) c.new.ensures) (none_answers g.F.Form.spelled g.F.Form.stops c.args.separator c.args.close c.requires.apart xs c.args.at (c.shows.ensures.there c.if-shows.true))

pub returns-in_err-items : goal.returns-in_err-items
returns-in_err-items g c =
    let xs = lexemes c.args.source.now.text.now c.args.source.now.tokens.now in
    let I = g.F.Form.spelled in
    let S = g.F.Form.stops in
    let s = c.args.separator in
    let k = c.args.close in
    passed (Untils I S s k c.requires.apart) Free xs c.args.at _ _ c.from_residual.ensures.1 (until_answers I S s k c.requires.apart xs c.args.at (Err _) (c.shows.ensures.lacks c.if-shows.false) (closed_stuck (Lists I S s) (ListStops I S s) k c.requires.closed xs c.args.at _ c.in_err-items.ensures))

pub returns-in_err-next : goal.returns-in_err-next
returns-in_err-next g c =
    let xs = lexemes c.args.source.now.text.now c.args.source.now.tokens.now in
    let I = g.F.Form.spelled in
    let S = g.F.Form.stops in
    let s = c.args.separator in
    let k = c.args.close in
    passed (Untils I S s k c.requires.apart) Free xs c.args.at _ _ c.from_residual-in_err-next.ensures.1 (until_answers I S s k c.requires.apart xs c.args.at (Err _) (c.shows.ensures.lacks c.if-shows.false) (closed_lacks (Lists I S s) (ListStops I S s) k c.requires.closed xs c.args.at c.in_ok-items.items _ c.in_ok-items.ensures c.in_err-next.ensures))

pub returns : goal.returns
returns g c =
    let xs = lexemes c.args.source.now.text.now c.args.source.now.tokens.now in
    let I = g.F.Form.spelled in
    let S = g.F.Form.stops in
    let s = c.args.separator in
    let k = c.args.close in
    same_kept (Untils I S s k c.requires.apart) Free xs c.args.at (Ok (record { value = c.in_ok-items.items.value; next = c.in_ok-next.next })) (until_answers I S s k c.requires.apart xs c.args.at (Ok (record { value = c.in_ok-items.items.value; next = c.in_ok-next.next })) (c.shows.ensures.lacks c.if-shows.false) (closed_answers (Lists I S s) (ListStops I S s) k c.requires.closed xs c.args.at c.in_ok-next.next c.in_ok-items.items c.in_ok-items.ensures c.in_ok-next.ensures))
