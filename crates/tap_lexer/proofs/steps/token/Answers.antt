use Rattle.std.proofs.Common.{◌≡◌, None, sym, ◌∙◌, ap, subst, arith, ℕ, List, ◌+◌, drop, take}
use Rattle.std.proofs.lemmas.Int.{ints, to_z-of_z}
use Rattle.tap_base.specs.declared.token.TokenKind.{TokenKind}
use Rattle.tap_base.specs.declared.token.TokenKind.TheVariants.{Number}
use Rattle.tap_base.specs.declared.token.Token.{Token}
use Rattle.tap_lexer.specs.Tokens.{Longest, NoToken, value}
use Rattle.tap_lexer.proofs.Reading.{token_none, token_large, token_steps, value_none}
use Rattle.tap_lexer.proofs.steps.token.Goals as goal

pub returns-in_default : goal.returns-in_default
returns-in_default c = token_none c.args.text.now c.args.at c.args.byte c.args.place c.requires.there c.requires.no_blank c.requires.no_hash (let P : List ℕ → Type 0 = λ k. NoToken k in subst P c.from-rest.ensures c.in_default.ensures)

pub returns-in_default-token_value : goal.returns-in_default-token_value
returns-in_default-token_value c =
    let bytes = drop c.args.at c.args.text.now in
    let e : value c.in-Some.kind (take c.in-Some.count bytes) ≡ None = sym (ap (λ k. value c.in-Some.kind (take c.in-Some.count k)) c.from-rest.ensures) ∙ sym (ap (value c.in-Some.kind) c.front.ensures) ∙ sym c.token_value.ensures ∙ c.in_default-token_value.is in
    let k : c.in-Some.kind ≡ Number = value_none c.in-Some.kind (take c.in-Some.count bytes) e in
    let P : TokenKind → Type 0 = λ k. Longest k c.in-Some.count bytes in
    let Q : TokenKind → Type 0 = λ k. value k (take c.in-Some.count bytes) ≡ None in
    token_large c.args.text.now c.args.at c.args.byte c.args.place c.requires.there c.in-Some.count (subst P k (let R : List ℕ → Type 0 = λ k. Longest c.in-Some.kind c.in-Some.count k in subst R c.from-rest.ensures c.in-Some.ensures)) (subst Q k e)

pub returns : goal.returns
returns c =
    token_steps c.args.text.now c.args.at c.args.byte c.in-Some.count c.args.place c.along.result c.in-Some.kind c.in-Some-token_value.value _ c.requires.there c.requires.within c.requires.line c.requires.column (let R : List ℕ → Type 0 = λ k. Longest c.in-Some.kind c.in-Some.count k in subst R c.from-rest.ensures c.in-Some.ensures)
    (sym (ap (λ k. value c.in-Some.kind (take c.in-Some.count k)) c.from-rest.ensures) ∙ sym (ap (value c.in-Some.kind) c.front.ensures) ∙ sym c.token_value.ensures ∙ c.in-Some-token_value.is) c.along.ensures
    (ap (λ v. let t : Token = record { kind = c.in-Some.kind; start = c.args.at; end = c.args.at + c.in-Some.count; value = v; place = c.args.place } in t) (grind (arith, ints, to_z-of_z)))
