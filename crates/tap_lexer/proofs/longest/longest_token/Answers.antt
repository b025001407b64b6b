use Rattle.std.proofs.Common.{ℕ, Option, take, sym, ◌∙◌, ap, subst}
use Rattle.tap_base.specs.declared.token.TokenKind.{TokenKind}
use Rattle.tap_base.specs.declared.token.TokenKind.TheVariants.{Number}
use Rattle.tap_lexer.specs.Tokens.{Longest}
use Rattle.tap_lexer.specs.inner.Lexing.{Begins, word_kind}
use Rattle.tap_lexer.proofs.Pieces.{word_longest, number_longest, none_at_end}
use Rattle.tap_lexer.proofs.longest.longest_token.Goals as goal

pub returns-in_err-first : goal.returns-in_err-first
returns-in_err-first c =
    let P : Option (TokenKind × ℕ) → Type 0 = λ v. Begins c.args.text.now v in
    subst P (sym c.from_residual.ensures) (none_at_end c.args.text.now (sym c.byte_at.ensures ∙ c.in_err-first.was))

pub returns-then-is_ascii_alphabetic : goal.returns-then-is_ascii_alphabetic
returns-then-is_ascii_alphabetic c =
    let text = c.args.text.now in
    let K : TokenKind → Type 0 = λ k. Longest k c.run-count.result text in
    let N : ℕ → Type 0 = λ n. Longest (word_kind (take n text)) n text in
    subst K (sym (c.word_kind.ensures ∙ ap word_kind c.front.ensures))
    (subst N (sym c.run-count.ensures.count) (word_longest text c.in_ok-first.first (sym c.byte_at.ensures ∙ c.in_ok-first.was) (sym c.if-is_ascii_alphabetic.ensures.value)))

pub returns-then-is_ascii_digit : goal.returns-then-is_ascii_digit
returns-then-is_ascii_digit c =
    let N : ℕ → Type 0 = λ n. Longest Number n c.args.text.now in
    subst N (sym c.run.ensures.count) (number_longest c.args.text.now c.in_ok-first.first (sym c.byte_at.ensures ∙ c.in_ok-first.was) (sym c.if-is_ascii_digit.ensures.value))
