-- The trees that are spelled where nothing is asked of the size of expressions.
use Rattle.std.proofs.Common.{ℕ, List, Option, Some, None}
use Rattle.tap_base.specs.declared.ast.Ast.{Ast}
use Rattle.tap_base.specs.declared.ast.AstExpr.{AstExpr}
use Rattle.tap_lexer.specs.Lexeme.{Lexeme}
use Rattle.tap_expr.specs.Grammar.{Reads, expression}
use Rattle.tap_parser.specs.Systems.{SpellsOver, Sized, SpellsText}
use Rattle.tap_parser.proofs.Weaker.{weaker}

asked_less : (n : Option ℕ) (e : AstExpr) (ts us : List Lexeme) → Sized n e ts us → Reads expression e ts us
asked_less None e ts us r = r
asked_less (Some n) e ts us r = r.0

pub unasked : (n : Option ℕ) (ts : List Lexeme) (tree : Ast) → SpellsOver (Sized n) ts tree → SpellsText ts tree
unasked n ts tree r = weaker (Sized n) (Reads expression) (asked_less n) ts tree r

pub asked_none : (ts : List Lexeme) (tree : Ast) → SpellsText ts tree → SpellsOver (Sized None) ts tree
asked_none ts tree r = weaker (Reads expression) (Sized None) (λ e ks us q. q) ts tree r
