use Rattle.std.proofs.Common.{min, length}
use Rattle.tap_lexer.specs.Lexeme.{lexemes}
use Rattle.tap_lexer.proofs.Spans.{spelled_texts}
use Rattle.tap_expr.proofs.ExprPlaced.{are_placed}
use Rattle.tap_parser.specs.Systems.{IsUntold, IsTooLarge, SpellsText, SpellsTo}
use Rattle.tap_parser.proofs.TextEnds.{deep_at, untold_at, large_at}
use Rattle.tap_parser.proofs.whole.parse.Goals as goal

pub first_too_deep-requires : goal.first_too_deep-requires
first_too_deep-requires c = spelled_texts c.args.text.now _ c.args.tokens.now c.requires.lexed

pub place_at-requires-clause-texts : goal.place_at-requires-clause-texts
place_at-requires-clause-texts c = spelled_texts c.args.text.now _ c.args.tokens.now c.requires.lexed

pub read_whole-requires-clause-texts : goal.read_whole-requires-clause-texts
read_whole-requires-clause-texts c = spelled_texts c.args.text.now _ c.args.tokens.now c.requires.lexed

pub place_at-requires-in-Ok-Large-clause-texts : goal.place_at-requires-in-Ok-Large-clause-texts
place_at-requires-in-Ok-Large-clause-texts c = spelled_texts c.args.text.now _ c.args.tokens.now c.requires.lexed

pub place_at-requires-in-Err-At-clause-texts : goal.place_at-requires-in-Err-At-clause-texts
place_at-requires-in-Err-At-clause-texts c = spelled_texts c.args.text.now _ c.args.tokens.now c.requires.lexed

pub place_at-requires-clause-placed : goal.place_at-requires-clause-placed
place_at-requires-clause-placed c = are_placed c.args.text.now c.args.tokens.now c.requires.lexed

pub place_at-requires-in-Ok-Large-clause-placed : goal.place_at-requires-in-Ok-Large-clause-placed
place_at-requires-in-Ok-Large-clause-placed c = are_placed c.args.text.now c.args.tokens.now c.requires.lexed

pub place_at-requires-in-Err-At-clause-placed : goal.place_at-requires-in-Err-At-clause-placed
place_at-requires-in-Err-At-clause-placed c = are_placed c.args.text.now c.args.tokens.now c.requires.lexed

pub returns-in-Some : goal.returns-in-Some
returns-in-Some c = deep_at c.args.text.now c.args.tokens.now c.in-Some.at _ c.place_at.ensures c.in-Some.ensures

pub returns-in-Ok-Whole : goal.returns-in-Ok-Whole
returns-in-Ok-Whole c =
    let xs = lexemes c.args.text.now c.args.tokens.now in
    let h : SpellsText xs c.in-Ok-Whole.tree × SpellsTo (length xs) xs c.in-Ok-Whole.tree = rw c.in-Ok-Whole.field-0-is at c.in-Ok-Whole.ensures in
    record { shallow = c.in_default.ensures; spelled = h.0; small = h.1 }

pub returns-in-Ok-Large : goal.returns-in-Ok-Large
returns-in-Ok-Large c =
    let h : IsTooLarge (lexemes c.args.text.now c.args.tokens.now) c.in-Ok-Large.at = rw c.in-Ok-Large.field-0-is at c.in-Ok-Large.ensures in
    large_at c.args.text.now c.args.tokens.now c.in-Ok-Large.at _ c.place_at-in-Ok-Large.ensures c.in_default.ensures h

pub returns-in-Err-At : goal.returns-in-Err-At
returns-in-Err-At c =
    let xs = lexemes c.args.text.now c.args.tokens.now in
    let h : IsUntold xs (min c.in-Err-At.at (length xs)) = rw c.in-Err-At.field-0-is at c.in-Err-At.ensures in
    untold_at c.args.text.now c.args.tokens.now c.in-Err-At.at _ c.place_at-in-Err-At.ensures c.in_default.ensures h
