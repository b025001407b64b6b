use Rattle.std.proofs.Common.{◌+◌, refl, sym, ◌∙◌, ap, arith, rules}
use Rattle.std.proofs.lemmas.Int.{ints, to_z-of_z}
use Rattle.tap_base.specs.declared.ast.AstKind.TheVariants as kind
use Rattle.tap_base.specs.declared.token.Sign.TheVariants as sign
use Rattle.tap_lexer.specs.Lexeme.{lexeme, lexemes}
use Rattle.tap_lexer.proofs.TokenPlaces.{lacks_past}
use Rattle.tap_expr.specs.Grammar.{part_of, negation, factor, atom}
use Rattle.tap_expr.specs.inner.ExprSigns.{starting}
use Rattle.tap_expr.proofs.ExprLevels.{valued, levelled, nothing_there, denied_passes, denied_answers, plain_answers, negative_passes, negative_answers, positive_answers, single_passes, single_answers, related_passes, related_answers, first_passes, carries_first, more_passes, carries_more, joined_answers}
use Rattle.tap_expr.proofs.ExprKinds.{unstarted, number_answers, truth_answers, group_passes, group_open_answers, group_answers, unopened_answers, left_passes, no_comma_answers, right_passes, unclosed_answers, choice_answers, name_answers, part_open_answers, part_answers, index_passes, element_open_answers, element_answers}
use Rattle.tap_expr.proofs.+expr.Goals as goal
use Rattle.tap_expr.proofs.+expr.Goals.{atoms::read_atom-in-Number, atoms::read_atom-in-Truth}

pub atoms::read_atom-returns-in_default : goal.atoms::read_atom-returns-in_default
atoms::read_atom-returns-in_default t c = let xs = lexemes c.args.source.now.text.now c.args.source.now.tokens.now in nothing_there xs c.args.at atom c.in_default.ensures.seen

pub atoms::read_atom-sign-requires : goal.atoms::read_atom-sign-requires
atoms::read_atom-sign-requires t c = c.requires.texts c.args.at c.in-Some.token (sym c.in-Some.ensures.value)

pub atoms::read_atom-returns-in-Nothing : goal.atoms::read_atom-returns-in-Nothing
atoms::read_atom-returns-in-Nothing t c = let xs = lexemes c.args.source.now.text.now c.args.source.now.tokens.now in let x = lexeme c.args.source.now.text.now c.in-Some.token in unstarted xs c.args.at x c.in-Some.ensures.seen (ap starting (sym c.sign.ensures) ∙ sym c.starting.ensures ∙ c.in-Nothing.is)

pub atoms::read_atom-returns : goal.atoms::read_atom-returns
atoms::read_atom-returns t c = let xs = lexemes c.args.source.now.text.now c.args.source.now.tokens.now in let x = lexeme c.args.source.now.text.now c.in-Some.token in elim c.match-starting.branch [
  | atoms::read_atom-in-Number w ↦ valued atom xs c.args.at (c.args.at + 1) _ _ c.leaf.ensures (number_answers xs c.args.at x _ c.in-Some.ensures.seen (ap starting (sym c.sign.ensures) ∙ sym c.starting.ensures ∙ w.in-Number.is) (w.kind-is ∙ ap (λ v. kind.Number v) (grind (arith, ints, to_z-of_z))))
  | atoms::read_atom-in-Truth w ↦ valued atom xs c.args.at (c.args.at + 1) _ _ c.leaf.ensures (truth_answers xs c.args.at x w.in-Truth.truth _ c.in-Some.ensures.seen (ap starting (sym c.sign.ensures) ∙ sym c.starting.ensures ∙ w.in-Truth.is) w.kind-is)
]

pub atoms::read_choice-returns-then-not-shows : goal.atoms::read_choice-returns-then-not-shows
atoms::read_choice-returns-then-not-shows t c = let xs = lexemes c.args.source.now.text.now c.args.source.now.tokens.now in let x = lexeme c.args.source.now.text.now c.args.token in unopened_answers xs c.args.at x c.args.op c.requires.stands c.requires.choice (c.shows.ensures.lacks c.if-not-shows.true)

pub atoms::read_choice-returns-in_err-left : goal.atoms::read_choice-returns-in_err-left
atoms::read_choice-returns-in_err-left t c = let xs = lexemes c.args.source.now.text.now c.args.source.now.tokens.now in let x = lexeme c.args.source.now.text.now c.args.token in left_passes xs c.args.at x c.args.op c.requires.stands c.requires.choice (c.shows.ensures.there c.if-not-shows.false) _ _ c.from_residual.ensures.1 c.in_err-left.ensures

pub atoms::read_choice-returns-then-not-shows-2 : goal.atoms::read_choice-returns-then-not-shows-2
atoms::read_choice-returns-then-not-shows-2 t c = let xs = lexemes c.args.source.now.text.now c.args.source.now.tokens.now in let x = lexeme c.args.source.now.text.now c.args.token in no_comma_answers xs c.args.at x c.args.op c.requires.stands c.requires.choice (c.shows.ensures.there c.if-not-shows.false) c.in_ok-left.left c.in_ok-left.ensures (c.shows-2.ensures.lacks c.if-not-shows-2.true)

pub atoms::read_choice-read_joined-requires-2 : goal.atoms::read_choice-read_joined-requires-2
atoms::read_choice-read_joined-requires-2 t c = let xs = lexemes c.args.source.now.text.now c.args.source.now.tokens.now in let further = (c.in_ok-left.ensures xs refl).1.further in let within = c.shows-2.ensures.within c.if-not-shows-2.false in search rules

pub atoms::read_choice-returns-in_err-right : goal.atoms::read_choice-returns-in_err-right
atoms::read_choice-returns-in_err-right t c = let xs = lexemes c.args.source.now.text.now c.args.source.now.tokens.now in let x = lexeme c.args.source.now.text.now c.args.token in right_passes xs c.args.at x c.args.op c.requires.stands c.requires.choice (c.shows.ensures.there c.if-not-shows.false) c.in_ok-left.left c.in_ok-left.ensures (c.shows-2.ensures.there c.if-not-shows-2.false) _ _ c.from_residual-in_err-right.ensures.1 c.in_err-right.ensures

pub atoms::read_choice-returns-then-not-shows-3 : goal.atoms::read_choice-returns-then-not-shows-3
atoms::read_choice-returns-then-not-shows-3 t c = let xs = lexemes c.args.source.now.text.now c.args.source.now.tokens.now in let x = lexeme c.args.source.now.text.now c.args.token in unclosed_answers xs c.args.at x c.args.op c.requires.stands c.requires.choice (c.shows.ensures.there c.if-not-shows.false) c.in_ok-left.left c.in_ok-left.ensures (c.shows-2.ensures.there c.if-not-shows-2.false) c.in_ok-right.right c.in_ok-right.ensures (c.shows-3.ensures.lacks c.if-not-shows-3.true)

pub atoms::read_choice-returns : goal.atoms::read_choice-returns
atoms::read_choice-returns t c = let xs = lexemes c.args.source.now.text.now c.args.source.now.tokens.now in let x = lexeme c.args.source.now.text.now c.args.token in choice_answers xs c.args.at x c.args.op c.requires.stands c.requires.choice (c.shows.ensures.there c.if-not-shows.false) c.in_ok-left.left c.in_ok-left.ensures (c.shows-2.ensures.there c.if-not-shows-2.false) c.in_ok-right.right _ c.in_ok-right.ensures (c.shows-3.ensures.there c.if-not-shows-3.false) c.in_ok-operation.ensures

pub atoms::read_group-returns-in_err-inner : goal.atoms::read_group-returns-in_err-inner
atoms::read_group-returns-in_err-inner t c = let xs = lexemes c.args.source.now.text.now c.args.source.now.tokens.now in let x = lexeme c.args.source.now.text.now c.args.token in group_passes xs c.args.at x c.requires.stands c.requires.open _ _ c.from_residual.ensures.1 c.in_err-inner.ensures

pub atoms::read_group-returns-then-not-shows : goal.atoms::read_group-returns-then-not-shows
atoms::read_group-returns-then-not-shows t c = let xs = lexemes c.args.source.now.text.now c.args.source.now.tokens.now in let x = lexeme c.args.source.now.text.now c.args.token in group_open_answers xs c.args.at x c.requires.stands c.requires.open c.in_ok-inner.inner c.in_ok-inner.ensures (c.shows.ensures.lacks c.if-not-shows.true)

pub atoms::read_group-returns : goal.atoms::read_group-returns
atoms::read_group-returns t c = let xs = lexemes c.args.source.now.text.now c.args.source.now.tokens.now in let x = lexeme c.args.source.now.text.now c.args.token in group_answers xs c.args.at x c.requires.stands c.requires.open c.in_ok-inner.inner c.in_ok-inner.ensures (c.shows.ensures.there c.if-not-shows.false)

pub atoms::read_named-name-requires : goal.atoms::read_named-name-requires
atoms::read_named-name-requires t c = c.requires.texts c.args.at c.args.token c.requires.there

pub atoms::read_named-returns-in_err-index : goal.atoms::read_named-returns-in_err-index
atoms::read_named-returns-in_err-index t c = let xs = lexemes c.args.source.now.text.now c.args.source.now.tokens.now in let x = lexeme c.args.source.now.text.now c.args.token in index_passes xs c.args.at x c.requires.stands c.requires.name (c.shows.ensures.there c.if-shows.true) _ _ c.from_residual-in_err-index.ensures.1 c.in_err-index.ensures

pub atoms::read_named-returns-then-not-shows : goal.atoms::read_named-returns-then-not-shows
atoms::read_named-returns-then-not-shows t c = let xs = lexemes c.args.source.now.text.now c.args.source.now.tokens.now in let x = lexeme c.args.source.now.text.now c.args.token in element_open_answers xs c.args.at x c.requires.stands c.requires.name (c.shows.ensures.there c.if-shows.true) c.in_ok-index.index c.in_ok-index.ensures (c.shows-then-shows.ensures.lacks c.if-not-shows.true)

pub atoms::read_named-returns-then-shows : goal.atoms::read_named-returns-then-shows
atoms::read_named-returns-then-shows t c = let xs = lexemes c.args.source.now.text.now c.args.source.now.tokens.now in let x = lexeme c.args.source.now.text.now c.args.token in element_answers xs c.args.at x c.requires.stands c.requires.name (c.shows.ensures.there c.if-shows.true) c.in_ok-index.index _ _ c.in_ok-name.ensures c.in_ok-index.ensures (c.shows-then-shows.ensures.there c.if-not-shows.false) c.in_ok-element.ensures

pub atoms::read_named-returns-in_default : goal.atoms::read_named-returns-in_default
atoms::read_named-returns-in_default t c = let xs = lexemes c.args.source.now.text.now c.args.source.now.tokens.now in let x = lexeme c.args.source.now.text.now c.args.token in part_open_answers xs c.args.at x c.requires.stands c.requires.name (c.shows-2.ensures.there c.if-shows-2.true) (lacks_past sign.Name xs (c.args.at + 2) c.in_default.ensures.seen)

pub atoms::read_named-returns-then-not-shows-2 : goal.atoms::read_named-returns-then-not-shows-2
atoms::read_named-returns-then-not-shows-2 t c = let xs = lexemes c.args.source.now.text.now c.args.source.now.tokens.now in let x = lexeme c.args.source.now.text.now c.args.token in part_open_answers xs c.args.at x c.requires.stands c.requires.name (c.shows-2.ensures.there c.if-shows-2.true) (c.shows-then-shows-2.ensures.lacks c.if-not-shows-2.true)

pub atoms::read_named-name-requires-then-shows-2 : goal.atoms::read_named-name-requires-then-shows-2
atoms::read_named-name-requires-then-shows-2 t c = c.requires.texts (c.args.at + 2) c.in-Some.field (sym c.in-Some.ensures.value)

pub atoms::read_named-returns-then-shows-2 : goal.atoms::read_named-returns-then-shows-2
atoms::read_named-returns-then-shows-2 t c = let xs = lexemes c.args.source.now.text.now c.args.source.now.tokens.now in let x = lexeme c.args.source.now.text.now c.args.token in let z = lexeme c.args.source.now.text.now c.in-Some.field in valued atom xs c.args.at (c.args.at + 3) _ _ c.leaf.ensures (part_answers xs c.args.at x c.requires.stands c.requires.name z _ _ (c.shows-2.ensures.there c.if-shows-2.true) c.in-Some.ensures.seen (c.shows-then-shows-2.ensures.there c.if-not-shows-2.false) (c.name-2.view_is ∙ c.in_ok-name.ensures) c.in_ok-name-2.ensures)

pub atoms::read_named-returns : goal.atoms::read_named-returns
atoms::read_named-returns t c = let xs = lexemes c.args.source.now.text.now c.args.source.now.tokens.now in let x = lexeme c.args.source.now.text.now c.args.token in valued atom xs c.args.at (c.args.at + 1) _ _ c.leaf-2.ensures (name_answers xs c.args.at x c.requires.stands c.requires.name _ c.in_ok-name.ensures (c.shows.ensures.lacks c.if-shows.false) (c.shows-2.ensures.lacks c.if-shows-2.false))

pub chains::read_factor-returns-in_default : goal.chains::read_factor-returns-in_default
chains::read_factor-returns-in_default t c = let xs = lexemes c.args.source.now.text.now c.args.source.now.tokens.now in nothing_there xs c.args.at factor c.in_default.ensures.seen

pub chains::read_factor-returns-in_err-inner : goal.chains::read_factor-returns-in_err-inner
chains::read_factor-returns-in_err-inner t c = let xs = lexemes c.args.source.now.text.now c.args.source.now.tokens.now in let x = lexeme c.args.source.now.text.now c.in-Some.token in negative_passes xs c.args.at x _ _ c.from_residual.ensures.1 c.in-Some.ensures.seen (c.shows.ensures.there c.if-shows.true) c.in_err-inner.ensures

pub chains::read_factor-returns-then-shows : goal.chains::read_factor-returns-then-shows
chains::read_factor-returns-then-shows t c = let xs = lexemes c.args.source.now.text.now c.args.source.now.tokens.now in let x = lexeme c.args.source.now.text.now c.in-Some.token in negative_answers xs c.args.at x c.in_ok-inner.inner _ c.in-Some.ensures.seen (c.shows.ensures.there c.if-shows.true) c.in_ok-inner.ensures c.in_ok-opposite.ensures

pub chains::read_factor-returns : goal.chains::read_factor-returns
chains::read_factor-returns t c = let xs = lexemes c.args.source.now.text.now c.args.source.now.tokens.now in let x = lexeme c.args.source.now.text.now c.in-Some.token in positive_answers xs c.args.at x _ c.in-Some.ensures.seen (c.shows.ensures.lacks c.if-shows.false) c.read_atom-2.ensures

pub chains::read_negation-returns-in_default : goal.chains::read_negation-returns-in_default
chains::read_negation-returns-in_default t c = let xs = lexemes c.args.source.now.text.now c.args.source.now.tokens.now in nothing_there xs c.args.at negation c.in_default.ensures.seen

pub chains::read_negation-returns-in_err-inner : goal.chains::read_negation-returns-in_err-inner
chains::read_negation-returns-in_err-inner t c = let xs = lexemes c.args.source.now.text.now c.args.source.now.tokens.now in let x = lexeme c.args.source.now.text.now c.in-Some.token in denied_passes xs c.args.at x _ _ c.from_residual.ensures.1 c.in-Some.ensures.seen (c.shows.ensures.there c.if-shows.true) c.in_err-inner.ensures

pub chains::read_negation-returns-then-shows : goal.chains::read_negation-returns-then-shows
chains::read_negation-returns-then-shows t c = let xs = lexemes c.args.source.now.text.now c.args.source.now.tokens.now in let x = lexeme c.args.source.now.text.now c.in-Some.token in denied_answers xs c.args.at x c.in_ok-inner.inner _ c.in-Some.ensures.seen (c.shows.ensures.there c.if-shows.true) c.in_ok-inner.ensures c.in_ok-denial.ensures

pub chains::read_negation-returns : goal.chains::read_negation-returns
chains::read_negation-returns t c = let xs = lexemes c.args.source.now.text.now c.args.source.now.tokens.now in let x = lexeme c.args.source.now.text.now c.in-Some.token in plain_answers xs c.args.at x _ c.in-Some.ensures.seen (c.shows.ensures.lacks c.if-shows.false) c.read_relation-2.ensures

pub chains::read_joined-returns-in_err-value : goal.chains::read_joined-returns-in_err-value
chains::read_joined-returns-in_err-value t c = let xs = lexemes c.args.source.now.text.now c.args.source.now.tokens.now in first_passes xs c.args.at c.args.join _ _ c.from_residual.ensures.1 c.in_err-value.ensures

pub chains::read_joined-parts-init : goal.chains::read_joined-parts-init
chains::read_joined-parts-init t c = let xs = lexemes c.args.source.now.text.now c.args.source.now.tokens.now in record {
  further = (c.in_ok-value.ensures xs refl).1.further;
  kept = carries_first xs c.args.at c.args.join c.in_ok-value.field-0 c.in_ok-value.ensures;
}

pub chains::read_joined-returns-in_err-right : goal.chains::read_joined-returns-in_err-right
chains::read_joined-returns-in_err-right t c = let xs = lexemes c.args.source.now.text.now c.args.source.now.tokens.now in let x = lexeme c.args.source.now.text.now c.in-Some.token in more_passes xs c.args.at c.args.join x c.in-Some.op c.parts.next c.parts.value _ _ c.from_residual-in_err-right.ensures.1 c.parts.invariant.further c.parts.invariant.kept c.in-Some.ensures.is.0 c.in-Some.ensures.is.1 c.in_err-right.ensures

pub chains::read_joined-parts-smaller : goal.chains::read_joined-parts-smaller
chains::read_joined-parts-smaller t c = let xs = lexemes c.args.source.now.text.now c.args.source.now.tokens.now in let further = (c.in_ok-right.ensures xs refl).1.further in let within = c.in-Some.ensures.within in omega arith

pub chains::read_joined-parts-preserved : goal.chains::read_joined-parts-preserved
chains::read_joined-parts-preserved t c = let xs = lexemes c.args.source.now.text.now c.args.source.now.tokens.now in let x = lexeme c.args.source.now.text.now c.in-Some.token in let came = c.parts.invariant.further in let beyond = (c.in_ok-right.ensures xs refl).1.further in record {
  further = omega arith;
  kept = carries_more xs c.args.at c.args.join x c.in-Some.op c.parts.next c.parts.value _ c.in_ok-right.right c.parts.invariant.kept c.in-Some.ensures.is.0 c.in-Some.ensures.is.1 c.in_ok-right.ensures c.in_ok-value-2.ensures;
}

pub chains::read_joined-returns : goal.chains::read_joined-returns
chains::read_joined-returns t c = let xs = lexemes c.args.source.now.text.now c.args.source.now.tokens.now in joined_answers xs c.args.at c.args.join c.parts.next c.parts.value c.parts.invariant.further c.parts.invariant.kept c.in_default.ensures.is

pub chains::read_part-returns-in-Disjunction : goal.chains::read_part-returns-in-Disjunction
chains::read_part-returns-in-Disjunction t c = let xs = lexemes c.args.source.now.text.now c.args.source.now.tokens.now in levelled _ _ xs c.args.at _ (ap part_of c.in-Disjunction.is) c.read_joined.ensures

pub chains::read_part-returns-in-Conjunction : goal.chains::read_part-returns-in-Conjunction
chains::read_part-returns-in-Conjunction t c = let xs = lexemes c.args.source.now.text.now c.args.source.now.tokens.now in levelled _ _ xs c.args.at _ (ap part_of c.in-Conjunction.is) c.read_negation.ensures

pub chains::read_part-returns-in-Sum : goal.chains::read_part-returns-in-Sum
chains::read_part-returns-in-Sum t c = let xs = lexemes c.args.source.now.text.now c.args.source.now.tokens.now in levelled _ _ xs c.args.at _ (ap part_of c.in-Sum.is) c.read_joined-in-Sum.ensures

pub chains::read_part-returns-in-Term : goal.chains::read_part-returns-in-Term
chains::read_part-returns-in-Term t c = let xs = lexemes c.args.source.now.text.now c.args.source.now.tokens.now in levelled _ _ xs c.args.at _ (ap part_of c.in-Term.is) c.read_factor.ensures

pub chains::read_relation-returns-in_err-left : goal.chains::read_relation-returns-in_err-left
chains::read_relation-returns-in_err-left t c = let xs = lexemes c.args.source.now.text.now c.args.source.now.tokens.now in single_passes xs c.args.at _ _ c.from_residual.ensures.1 c.in_err-left.ensures

pub chains::read_relation-returns-in_default : goal.chains::read_relation-returns-in_default
chains::read_relation-returns-in_default t c = let xs = lexemes c.args.source.now.text.now c.args.source.now.tokens.now in single_answers xs c.args.at c.in_ok-left.left c.in_ok-left.ensures c.in_default.ensures.is

pub chains::read_relation-read_joined-requires-2 : goal.chains::read_relation-read_joined-requires-2
chains::read_relation-read_joined-requires-2 t c = let xs = lexemes c.args.source.now.text.now c.args.source.now.tokens.now in let further = (c.in_ok-left.ensures xs refl).1.further in let within = c.in-Some.ensures.within in search rules

pub chains::read_relation-returns-in_err-right : goal.chains::read_relation-returns-in_err-right
chains::read_relation-returns-in_err-right t c = let xs = lexemes c.args.source.now.text.now c.args.source.now.tokens.now in let x = lexeme c.args.source.now.text.now c.in-Some.token in related_passes xs c.args.at x c.in-Some.op c.in_ok-left.left _ _ c.from_residual-in_err-right.ensures.1 c.in_ok-left.ensures c.in-Some.ensures.is.0 c.in-Some.ensures.is.1 c.in_err-right.ensures

pub chains::read_relation-returns : goal.chains::read_relation-returns
chains::read_relation-returns t c = let xs = lexemes c.args.source.now.text.now c.args.source.now.tokens.now in let x = lexeme c.args.source.now.text.now c.in-Some.token in related_answers xs c.args.at x c.in-Some.op c.in_ok-left.left c.in_ok-right.right _ c.in_ok-left.ensures c.in-Some.ensures.is.0 c.in-Some.ensures.is.1 c.in_ok-right.ensures c.in_ok-operation.ensures
