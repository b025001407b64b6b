use Rattle.std.proofs.Common.{Ok, Err, arith}
use Rattle.tap_lexer.specs.Lexeme.{lexemes}
use Rattle.tap_lexer.specs.inner.Reading.{Lacks}
use Rattle.tap_parser.proofs.TextBlocks.{RowLists, to_row, of_row, row_stops, same_kept, beyond}
use Rattle.tap_parser.proofs.TextLists.{leads_first, first_stuck, leads_more, leads_stuck, leads_last}
use Rattle.tap_parser.proofs.TextParts.{passed}
use Rattle.tap_parser.proofs.lists.read_row.Goals as goal

pub returns-in_err-first : goal.returns-in_err-first
returns-in_err-first g c =
    let xs = lexemes c.args.source.now.text.now c.args.source.now.tokens.now in
    let I = g.F.Form.spelled in
    let S = g.F.Form.stops in
    let w = c.args.word in
    passed (RowLists I S w) (Lacks w) xs c.args.at _ _ c.from_residual.ensures.1 (row_stops I S w c.requires.free xs c.args.at (Err _) (first_stuck I I (RowLists I S w) S w (λ ts b. c.requires.free ts) c.requires.begun (to_row I S w) (of_row I S w) xs c.args.at _ c.in_err-first.ensures))

pub items-init : goal.items-init
items-init g c =
    let xs = lexemes c.args.source.now.text.now c.args.source.now.tokens.now in
    let I = g.F.Form.spelled in
    let S = g.F.Form.stops in
    let w = c.args.word in
    leads_first I I (RowLists I S w) S w (λ ts b. c.requires.free ts) c.requires.begun (to_row I S w) (of_row I S w) xs c.args.at c.in_ok-first.first _ c.in_ok-value.ensures c.in_ok-first.ensures

pub returns-in_err-item : goal.returns-in_err-item
returns-in_err-item g c =
    let xs = lexemes c.args.source.now.text.now c.args.source.now.tokens.now in
    let I = g.F.Form.spelled in
    let S = g.F.Form.stops in
    let w = c.args.word in
    passed (RowLists I S w) (Lacks w) xs c.args.at _ _ c.from_residual-in_err-item.ensures.1 (row_stops I S w c.requires.free xs c.args.at (Err _) (leads_stuck I I (RowLists I S w) S w (λ ts b. c.requires.free ts) c.requires.begun (to_row I S w) (of_row I S w) xs c.args.at c.items.next c.items.value _ c.items.invariant (c.shows.ensures.there c.items-test.true) c.in_err-item.ensures))

pub items-smaller : goal.items-smaller
items-smaller g c =
    let xs = lexemes c.args.source.now.text.now c.args.source.now.tokens.now in
    let further = beyond g.F.Form.spelled g.F.Form.stops c.args.word c.requires.longer xs c.items.next c.in_ok-item.item (c.shows.ensures.there c.items-test.true) c.in_ok-item.ensures in
    let within = c.shows.ensures.within c.items-test.true in
    omega arith

pub items-preserved : goal.items-preserved
items-preserved g c =
    let xs = lexemes c.args.source.now.text.now c.args.source.now.tokens.now in
    let I = g.F.Form.spelled in
    let S = g.F.Form.stops in
    let w = c.args.word in
    leads_more I I (RowLists I S w) S w (λ ts b. c.requires.free ts) c.requires.begun (to_row I S w) (of_row I S w) xs c.args.at c.items.next c.items.value _ c.in_ok-item.item c.items.invariant (c.shows.ensures.there c.items-test.true) c.in_ok-item.ensures c.in_ok-value-2.ensures

pub returns : goal.returns
returns g c =
    let xs = lexemes c.args.source.now.text.now c.args.source.now.tokens.now in
    let I = g.F.Form.spelled in
    let S = g.F.Form.stops in
    let w = c.args.word in
    same_kept (RowLists I S w) (Lacks w) xs c.args.at (Ok (record { value = c.items.value; next = c.items.next })) (row_stops I S w c.requires.free xs c.args.at (Ok (record { value = c.items.value; next = c.items.next })) (leads_last I I (RowLists I S w) S w (λ ts b. c.requires.free ts) c.requires.begun (to_row I S w) (of_row I S w) xs c.args.at c.items.next c.items.value c.items.invariant (c.shows.ensures.lacks c.items-test.false)))
