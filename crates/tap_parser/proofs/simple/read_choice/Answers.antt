use Rattle.std.proofs.Common.{Ok, Err}
use Rattle.tap_base.specs.declared.token.Sign.TheVariants as sign
use Rattle.tap_lexer.specs.Lexeme.{lexemes}
use Rattle.tap_lexer.specs.inner.Reading.{Lacks}
use Rattle.tap_parser.proofs.TextExprs.{Targets}
use Rattle.tap_parser.proofs.TextParts.{after_answers, after_lacks, passed, valued}
use Rattle.tap_parser.proofs.TextStatements.{Stmts, choose_answers}
use Rattle.tap_parser.specs.inner.Forms.{StmtStops}
use Rattle.tap_parser.proofs.simple.read_choice.Goals as goal

pub returns-in_err-behind : goal.returns-in_err-behind
returns-in_err-behind c = let xs = lexemes c.args.source.now.text.now c.args.source.now.tokens.now in passed Stmts StmtStops xs c.args.at _ _ c.from_residual.ensures.1 (choose_answers xs c.args.at (Err _) c.requires.shows (after_lacks sign.Choose Targets (Lacks sign.OpenIndex) xs c.args.at _ c.in_err-behind.ensures))

pub returns-in_err-target : goal.returns-in_err-target
returns-in_err-target c = let xs = lexemes c.args.source.now.text.now c.args.source.now.tokens.now in passed Stmts StmtStops xs c.args.at _ _ c.from_residual-in_err-target.ensures.1 (choose_answers xs c.args.at (Err _) c.requires.shows (after_answers sign.Choose Targets (Lacks sign.OpenIndex) xs c.args.at c.in_ok-behind.behind (Err _) c.in_ok-behind.ensures c.in_err-target.ensures))

pub returns : goal.returns
returns c = let xs = lexemes c.args.source.now.text.now c.args.source.now.tokens.now in valued Stmts StmtStops xs c.args.at c.in_ok-target.target.next _ _ (c.choice.ensures) (choose_answers xs c.args.at (Ok c.in_ok-target.target) c.requires.shows (after_answers sign.Choose Targets (Lacks sign.OpenIndex) xs c.args.at c.in_ok-behind.behind (Ok c.in_ok-target.target) c.in_ok-behind.ensures c.in_ok-target.ensures))
