-- Of items that were read there is one, so the tokens of those behind a separator begin with it.
use Rattle.std.proofs.Common.{◌≡◌, refl, List, ◌∷◌, map}
use Rattle.tap_base.specs.declared.ast.AstBranch.{AstBranch}
use Rattle.tap_base.specs.declared.ast.AstExpr.{AstExpr}
use Rattle.tap_base.specs.declared.ast.AstStmt.{AstStmt}
use Rattle.tap_base.specs.declared.token.Sign.{Sign}
use Rattle.tap_base.specs.declared.token.Sign.TheVariants as sign
use Rattle.tap_lexer.specs.Lexeme.{Lexeme}
use Rattle.tap_lexer.specs.Rows.{Separated, last, more}
use Rattle.tap_parser.specs.Statements.{AreBranches, AreStmts}
use Rattle.tap_parser.specs.Statements as form
use Rattle.tap_printer.specs.Canonical.{further, separated, block, stmt_tokens, branch_tokens}
use Rattle.tap_printer.specs.Printed.{Printed, mark}

module _ {A : Type 0} (f : A → List Printed) (Item : A → List Lexeme → List Lexeme → Type 0) where
  pub further_is : {s : Sign} {items : List A} {ts us : List Lexeme} → Separated Item s items ts us → further s (map f items) ≡ mark s ∷ separated s (map f items)
  further_is (last i) = refl
  further_is (more i e r) = refl

  pub block_is : (word : Sign) {s : Sign} {items : List A} {ts us : List Lexeme} → Separated Item s items ts us → block word s (map f items) ≡ mark word ∷ separated s (map f items)
  block_is word (last i) = refl
  block_is word (more i e r) = refl

module _ (E : AstExpr → List Lexeme → List Lexeme → Type 0) where
  pub stmts_further : {ss : List AstStmt} {ts us : List Lexeme} → AreStmts E ss ts us → further sign.Semicolon (map stmt_tokens ss) ≡ mark sign.Semicolon ∷ separated sign.Semicolon (map stmt_tokens ss)
  stmts_further (form.AreStmts.last i) = refl
  stmts_further (form.AreStmts.more i e r) = refl

  pub branches_further : {bs : List AstBranch} {ts us : List Lexeme} → AreBranches E bs ts us → further sign.Box (map branch_tokens bs) ≡ mark sign.Box ∷ separated sign.Box (map branch_tokens bs)
  branches_further (form.AreBranches.final i) = refl
  branches_further (form.AreBranches.further i e r) = refl
