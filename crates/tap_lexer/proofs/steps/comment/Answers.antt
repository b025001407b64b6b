use Rattle.std.proofs.Common.{sym, ◌∙◌, ap, subst, rules, ℕ, List, ◌≤◌, length, drop}
use Rattle.std.specs.List.{prefix_len}
use Rattle.tap_base.specs.declared.place.Place.{Place}
use Rattle.tap_lexer.specs.Bytes.{in_comment}
use Rattle.tap_lexer.specs.Tokens.{Lexes, unread}
use Rattle.tap_lexer.proofs.Reading.{comment_end, comment_line, comment_odd, silent}
use Rattle.tap_lexer.proofs.steps.comment.Goals as goal

pub returns-in_default : goal.returns-in_default
returns-in_default c =
    silent c.args.text.now c.args.at c.run-count.result c.args.place c.along-place.result (let L : List ℕ → Type 0 = λ k. c.run-count.result ≤ length k in subst L c.from.ensures c.run-count.ensures.within) c.requires.within c.requires.line c.requires.column c.along-place.ensures
    (λ r. comment_end c.args.text.now c.args.at c.args.byte c.run-count.result c.args.place r c.requires.there c.requires.hash (c.run-count.ensures.count ∙ ap (prefix_len in_comment) c.from.ensures) (search rules))

pub returns-then-last-eq10 : goal.returns-then-last-eq10
returns-then-last-eq10 c =
    silent c.args.text.now c.args.at c.run-count.result c.args.place c.along-place.result (let L : List ℕ → Type 0 = λ k. c.run-count.result ≤ length k in subst L c.from.ensures c.run-count.ensures.within) c.requires.within c.requires.line c.requires.column c.along-place.ensures
    (λ r. comment_line c.args.text.now c.args.at c.args.byte c.run-count.result c.in-Some.last c.args.place r c.requires.there c.requires.hash (c.run-count.ensures.count ∙ ap (prefix_len in_comment) c.from.ensures) (sym c.in-Some.ensures) c.if-last-eq10.true)

pub returns : goal.returns
returns c =
    let P : Place → Type 0 = λ q. Lexes c.args.at c.args.place (drop c.args.at c.args.text.now) (unread q) in
    subst P (sym c.along-place.ensures) (comment_odd c.args.text.now c.args.at c.args.byte c.run-count.result c.in-Some.last c.args.place c.requires.there c.requires.hash (c.run-count.ensures.count ∙ ap (prefix_len in_comment) c.from.ensures) (sym c.in-Some.ensures) c.if-last-eq10.false)
