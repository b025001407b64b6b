use Rattle.std.proofs.Common.{rules, sym, subst, ℕ, List, [], Ok, append-nil}
use Rattle.std.proofs.lemmas.List.{drop_all}
use Rattle.tap_base.specs.declared.token.Token.{Token}
use Rattle.tap_lexer.specs.Tokens.{Lexes, Outcome, end}
use Rattle.tap_lexer.specs.Bytes.{start}
use Rattle.tap_lexer.proofs.Spans.{spelled_texts, spelled_order}
use Rattle.tap_lexer.proofs.Standing.{shown}
use Rattle.tap_lexer.proofs.tokens.lex.Goals as goal

pub returns : goal.returns
returns c =
    let P : List ℕ → Type 0 = λ k. Lexes c.pieces.at c.pieces.place k (let o : Outcome = Ok [] in o) in
    let Q : List Token → Type 0 = λ k. Lexes 0 start c.args.text.now (let o : Outcome = Ok k in o) in
    let spelled = subst Q (append-nil c.pieces.tokens) (c.pieces.invariant.goes (Ok []) (subst P (sym (drop_all c.pieces.at c.args.text.now c.pieces-test.false)) end)) in
    record {
      outcome = spelled;
      spans = shown c.args.text.now (Ok c.pieces.tokens) spelled;
      texts = spelled_texts c.args.text.now start c.pieces.tokens spelled;
      order = spelled_order c.args.text.now start c.pieces.tokens spelled;
    }

pub returns-in_err-piece-clause-spans : goal.returns-in_err-piece-clause-spans
returns-in_err-piece-clause-spans c = shown c.args.text.now c.from_residual.result (search rules)
