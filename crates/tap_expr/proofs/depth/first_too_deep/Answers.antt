use Rattle.std.proofs.Common.{◌≡◌, ◌+◌, true, false, sym, ◌∙◌, ap, arith}
use Rattle.tap_lexer.specs.Depth.{opens, closes, one_if}
use Rattle.tap_lexer.specs.Lexeme.{lexeme, lexemes}
use Rattle.tap_expr.proofs.ExprDepth.{byte_is, byte_small, passed_bounds, passed_as, passed_more, too_deep, all_shallow, at_token}
use Rattle.tap_expr.proofs.depth.first_too_deep.Goals as goal
use Rattle.tap_expr.proofs.depth.first_too_deep.Goals.{else-opens-via-then-opens+else-opened-closed, else-opens-via-else-opens}

pub sign-sign-requires : goal.sign-sign-requires
sign-sign-requires c = c.requires c.tokens.at c.in-Some.token (sym c.in-Some.ensures.value)

pub overflow_add-opened : goal.overflow_add-opened
overflow_add-opened c = let b = passed_bounds _ _ _ _ c.tokens.invariant.passed in let w = c.in-Some.ensures.within in omega (arith, b.0, w)

pub overflow_add-closed : goal.overflow_add-closed
overflow_add-closed c = let b = passed_bounds _ _ _ _ c.tokens.invariant.passed in let w = c.in-Some.ensures.within in omega (arith, b.1, w)

pub returns-then-opened-closed : goal.returns-then-opened-closed
returns-then-opened-closed c =
    let text = c.args.source.now.text.now in
    let tokens = c.args.source.now.tokens.now in
    let x = lexeme text c.in-Some.token in
    too_deep (lexemes text tokens) c.tokens.at c.tokens.opened c.tokens.closed c.tokens.invariant.passed x (at_token text tokens c.tokens.at c.in-Some.token c.in-Some.ensures.value) (ap opens (sym c.sign-sign.ensures) ∙ sym c.opens.ensures ∙ c.if-opens.true) c.if-opened-closed.true

pub overflow_add-opened-in-Some : goal.overflow_add-opened-in-Some
overflow_add-opened-in-Some c =
    let b = passed_bounds _ _ _ _ c.tokens.invariant.passed in
    let w = c.in-Some.ensures.within in
    let s = byte_small c.from-opened.result c.opens-in-Some.result c.from-opened.ensures in
    omega (arith, b.0, w, s)

pub overflow_add-closed-in-Some : goal.overflow_add-closed-in-Some
overflow_add-closed-in-Some c =
    let b = passed_bounds _ _ _ _ c.tokens.invariant.passed in
    let w = c.in-Some.ensures.within in
    let s = byte_small c.from-closed.result c.closes.result c.from-closed.ensures in
    omega (arith, b.1, w, s)

pub tokens-preserved : goal.tokens-preserved
tokens-preserved c =
    let text = c.args.source.now.text.now in
    let tokens = c.args.source.now.tokens.now in
    let x = lexeme text c.in-Some.token in
    let passes : opens x.sign ≡ true → c.tokens.opened + 1 ≡ c.tokens.closed + 33 → ⊥ = λ o e. elim c.else-opens.branch [
      | else-opens-via-then-opens+else-opened-closed w ↦ w.if-opened-closed.false e
      | else-opens-via-else-opens w ↦ let f : false ≡ opens c.sign-sign.result = w.if-opens.ensures in let g : opens c.sign-sign.result ≡ true = ap opens c.sign-sign.ensures ∙ o in absurd cc
    ] in
    let opened : c.from-opened.result ≡ one_if (opens x.sign) = c.from-opened.ensures ∙ byte_is c.opens-in-Some.result ∙ ap one_if (c.opens-in-Some.ensures ∙ ap opens c.sign-sign.ensures) in
    let closed : c.from-closed.result ≡ one_if (closes x.sign) = c.from-closed.ensures ∙ byte_is c.closes.result ∙ ap one_if (c.closes.ensures ∙ ap closes c.sign-sign.ensures) in
    let within = c.in-Some.ensures.within in
    record {
      within = omega (arith, within);
      passed = passed_as (lexemes text tokens) (c.tokens.at + 1) _ _ _ _ (ap (λ k. c.tokens.opened + k) opened) (ap (λ k. c.tokens.closed + k) closed)
          (passed_more (lexemes text tokens) c.tokens.at c.tokens.opened c.tokens.closed c.tokens.invariant.passed x (at_token text tokens c.tokens.at c.in-Some.token c.in-Some.ensures.value) passes);
    }

pub returns : goal.returns
returns c = all_shallow _ _ _ _ c.tokens.invariant.passed c.in_default.ensures.seen
