use Rattle.std.proofs.Common.{Ok, Err, arith}
use Rattle.tap_lexer.specs.Lexeme.{lexemes}
use Rattle.tap_parser.proofs.TextBlocks.{Steps, Lists, ListStops, parts, separated_starts, to_separated, of_separated}
use Rattle.tap_parser.proofs.TextLists.{leads_first, first_stuck, leads_more, leads_stuck, leads_last}
use Rattle.tap_parser.proofs.TextParts.{passed, shown_answers}
use Rattle.tap_parser.proofs.lists.read_separated.Goals as goal

pub returns-in_err-first : goal.returns-in_err-first
returns-in_err-first g c =
    let xs = lexemes c.args.source.now.text.now c.args.source.now.tokens.now in
    let I = g.F.Form.spelled in
    let S = g.F.Form.stops in
    let s = c.args.separator in
    passed (Lists I S s) (ListStops I S s) xs c.args.at _ _ c.from_residual.ensures.1 (first_stuck I (Steps I S s) (Lists I S s) S s (parts I S s c.requires.parted) (separated_starts I S s) (to_separated I S s) (of_separated I S s) xs c.args.at _ c.in_err-first.ensures)

pub items-init : goal.items-init
items-init g c =
    let xs = lexemes c.args.source.now.text.now c.args.source.now.tokens.now in
    let I = g.F.Form.spelled in
    let S = g.F.Form.stops in
    let s = c.args.separator in
    leads_first I (Steps I S s) (Lists I S s) S s (parts I S s c.requires.parted) (separated_starts I S s) (to_separated I S s) (of_separated I S s) xs c.args.at c.in_ok-first.first _ c.in_ok-value.ensures c.in_ok-first.ensures

pub returns-in_err-item : goal.returns-in_err-item
returns-in_err-item g c =
    let xs = lexemes c.args.source.now.text.now c.args.source.now.tokens.now in
    let I = g.F.Form.spelled in
    let S = g.F.Form.stops in
    let s = c.args.separator in
    let x = c.shows.ensures.there c.items-test.true in
    passed (Lists I S s) (ListStops I S s) xs c.args.at _ _ c.from_residual-in_err-item.ensures.1 (leads_stuck I (Steps I S s) (Lists I S s) S s (parts I S s c.requires.parted) (separated_starts I S s) (to_separated I S s) (of_separated I S s) xs c.args.at c.items.next c.items.value _ c.items.invariant x (shown_answers s I S xs c.items.next (Err _) x c.in_err-item.ensures))

pub items-smaller : goal.items-smaller
items-smaller g c = let onward = c.in_ok-item.ensures.0 in let within = c.shows.ensures.within c.items-test.true in omega arith

pub items-preserved : goal.items-preserved
items-preserved g c =
    let xs = lexemes c.args.source.now.text.now c.args.source.now.tokens.now in
    let I = g.F.Form.spelled in
    let S = g.F.Form.stops in
    let s = c.args.separator in
    let x = c.shows.ensures.there c.items-test.true in
    leads_more I (Steps I S s) (Lists I S s) S s (parts I S s c.requires.parted) (separated_starts I S s) (to_separated I S s) (of_separated I S s) xs c.args.at c.items.next c.items.value _ c.in_ok-item.item c.items.invariant x (shown_answers s I S xs c.items.next (Ok c.in_ok-item.item) x c.in_ok-item.ensures) c.in_ok-value-2.ensures

pub returns : goal.returns
returns g c =
    let xs = lexemes c.args.source.now.text.now c.args.source.now.tokens.now in
    let I = g.F.Form.spelled in
    let S = g.F.Form.stops in
    let s = c.args.separator in
    leads_last I (Steps I S s) (Lists I S s) S s (parts I S s c.requires.parted) (separated_starts I S s) (to_separated I S s) (of_separated I S s) xs c.args.at c.items.next c.items.value c.items.invariant (c.shows.ensures.lacks c.items-test.false)
