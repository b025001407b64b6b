use Rattle.std.proofs.Common.{Ok, ◌∙◌, Err, ◌+◌, Some, None}
use Rattle.tap_base.specs.declared.token.Sign.TheVariants as sign
use Rattle.tap_lexer.specs.Lexeme.{lexemes}
use Rattle.tap_lexer.specs.inner.Reading.{Lacks}
use Rattle.tap_expr.specs.Grammar.{expression}
use Rattle.tap_expr.specs.inner.ExprReading.{Stops}
use Rattle.tap_parser.specs.Systems.{Sized}
use Rattle.tap_parser.proofs.TextBodies.{bracket_stops}
use Rattle.tap_parser.proofs.TextBounds.{Name, first_stuck, followed}
use Rattle.tap_parser.proofs.TextExprs.{Index, Targets, bare_answers, index_answers, target_answers, target_value}
use Rattle.tap_parser.proofs.TextParts.{closed_answers, closed_lacks, closed_stuck, joined, passed, renamed, sound, valued}
use Rattle.tap_parser.specs.declared.kept.Kept.TheVariants.{Whole}
use Rattle.tap_parser.proofs.exprs.read_target.Goals as goal

pub returns-in_err-name : goal.returns-in_err-name
returns-in_err-name c = let xs = lexemes c.args.source.now.text.now c.args.source.now.tokens.now in passed Targets (Lacks sign.OpenIndex) xs c.args.at _ _ c.from_residual.ensures.1 (target_answers xs c.args.at (Err _) (first_stuck Name Index (Lacks sign.OpenIndex) xs c.args.at _ c.in_err-name.ensures))

pub returns-in_err-index : goal.returns-in_err-index
returns-in_err-index c = let xs = lexemes c.args.source.now.text.now c.args.source.now.tokens.now in passed Targets (Lacks sign.OpenIndex) xs c.args.at _ _ c.from_residual-in_err-index.ensures.1 (target_answers xs c.args.at (Err _) (followed Name Index (Lacks sign.OpenIndex) xs c.args.at (sound c.in_ok-name.name) (Err _) c.in_ok-name.ensures (index_answers xs c.in_ok-name.name.next (Err _) (c.shows.ensures.there c.if-shows.true) (closed_stuck Sized (Stops expression) sign.CloseIndex bracket_stops xs (c.in_ok-name.name.next + 1) _ c.in_err-index.ensures))))

pub returns-in_err-next : goal.returns-in_err-next
returns-in_err-next c = let xs = lexemes c.args.source.now.text.now c.args.source.now.tokens.now in passed Targets (Lacks sign.OpenIndex) xs c.args.at _ _ c.from_residual-in_err-next.ensures.1 (target_answers xs c.args.at (Err _) (followed Name Index (Lacks sign.OpenIndex) xs c.args.at (sound c.in_ok-name.name) (Err _) c.in_ok-name.ensures (index_answers xs c.in_ok-name.name.next (Err _) (c.shows.ensures.there c.if-shows.true) (closed_lacks Sized (Stops expression) sign.CloseIndex bracket_stops xs (c.in_ok-name.name.next + 1) c.in_ok-index.index _ c.in_ok-index.ensures c.in_err-next.ensures))))

pub returns-then-shows : goal.returns-then-shows
returns-then-shows c = let xs = lexemes c.args.source.now.text.now c.args.source.now.tokens.now in let f = Ok (record { value = c.in_ok-index.index.value; next = c.in_ok-next.next }) in valued Targets (Lacks sign.OpenIndex) xs c.args.at c.in_ok-next.next _ _ (c.element.ensures ∙ target_value c.in_ok-name.name.value c.in_ok-index.index.value) (target_answers xs c.args.at (joined (λ a b. (a, b)) (Whole c.in_ok-name.name.value) (renamed (λ a. Some a) f)) (followed Name Index (Lacks sign.OpenIndex) xs c.args.at (sound c.in_ok-name.name) (renamed (λ a. Some a) f) c.in_ok-name.ensures (index_answers xs c.in_ok-name.name.next f (c.shows.ensures.there c.if-shows.true) (closed_answers Sized (Stops expression) sign.CloseIndex bracket_stops xs (c.in_ok-name.name.next + 1) c.in_ok-next.next c.in_ok-index.index c.in_ok-index.ensures c.in_ok-next.ensures))))

pub returns : goal.returns
returns c = let xs = lexemes c.args.source.now.text.now c.args.source.now.tokens.now in let f = Ok (record { value = Whole None; next = c.in_ok-name.name.next }) in valued Targets (Lacks sign.OpenIndex) xs c.args.at c.in_ok-name.name.next _ _ c.whole_target.ensures (target_answers xs c.args.at (joined (λ a b. (a, b)) (Whole c.in_ok-name.name.value) f) (followed Name Index (Lacks sign.OpenIndex) xs c.args.at (sound c.in_ok-name.name) f c.in_ok-name.ensures (bare_answers xs c.in_ok-name.name.next (c.shows.ensures.lacks c.if-shows.false))))
