-- What reading a whole expression answers.
use Rattle.std.specs.Prelude.{◌≡◌, ℕ, ◌+◌, ◌≤◌, min, List, length, slice_get, Option, Some, None, Result, Ok, Err}
use Rattle.tap_base.specs.declared.ast.AstExpr.{AstExpr}
use Rattle.tap_base.specs.declared.token.Token.{Token}
use Rattle.tap_lexer.specs.Lexeme.{Lexeme, lexemes}
use Rattle.tap_lexer.specs.Depth.{IsTooDeep, IsShallow}
use Rattle.tap_expr.specs.Grammar.{Spells}
use Rattle.tap_expr.specs.ExprText.{IsExpr, IsUnspelled, ExprOffence}
use Rattle.tap_expr.specs.declared.found.Built.{Built}
use Rattle.tap_expr.specs.declared.found.Stuck.{Stuck}
use Rattle.tap_expr.specs.declared.found.Stuck.TheVariants as stuck
use Rattle.tap_expr.specs.declared.fault.ParseFault.{ParseFault}
use Rattle.tap_expr.specs.declared.fault.ParseFault.TheVariants as fault
use Rattle.tap_expr.specs.inner.ExprReading.{IsBuilt}

-- the first token that opens a bracket too deep, or that none does
abbrev pub Deepens : List Lexeme → Option ℕ → Type 0
Deepens xs (Some k) = IsTooDeep xs k
Deepens xs None = IsShallow xs

-- no column is more than one above the number of its byte
abbrev pub ArePlaced : List Token → Type 0
ArePlaced tokens = (k : ℕ) (t : Token) → slice_get tokens k ≡ Some t → t.place.column ≤ t.start + 1

-- what is kept of the expression that all the tokens spell, or that they spell none; a number beyond the tokens stands for their end
abbrev pub WholeAnswers : List Lexeme → Result Built Stuck → Type 0
WholeAnswers xs (Ok b) = (e : AstExpr) × Spells xs e × IsBuilt e b
WholeAnswers xs (Err (stuck.At k)) = IsUnspelled xs (min k (length xs))
WholeAnswers xs (Err stuck.NoMemory) = Unit {0}

-- the expression that all the tokens are, or their first offence
abbrev pub ExprAnswers : List ℕ → List Token → Result AstExpr ParseFault → Type 0
ExprAnswers text tokens (Ok e) = IsExpr (lexemes text tokens) e
ExprAnswers text tokens (Err (fault.Refused refusal)) = ExprOffence text tokens refusal
ExprAnswers text tokens (Err fault.NoMemory) = Unit {0}
