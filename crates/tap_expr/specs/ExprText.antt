-- What the tokens of an expression come to: the expression, or their first offence.
use Rattle.std.specs.Prelude.{◌≡◌, ℕ, ◌+◌, ◌<◌, ◌≤◌, List, ◌++◌, take, length}
use Rattle.tap_base.specs.declared.place.Place.{Place}
use Rattle.tap_base.specs.declared.ast.AstExpr.{AstExpr}
use Rattle.tap_base.specs.declared.refusal.Refusal.{Refusal}
use Rattle.tap_base.specs.declared.refusal.RefusalCode.{RefusalCode}
use Rattle.tap_base.specs.declared.refusal.RefusalCode.TheVariants as code
use Rattle.tap_base.specs.declared.token.Token.{Token}
use Rattle.tap_lexer.specs.Lexeme.{Lexeme, lexemes}
use Rattle.tap_lexer.specs.Depth.{IsTooDeep, IsShallow}
use Rattle.tap_lexer.specs.Places.{place_at}
use Rattle.tap_expr.specs.Grammar.{Spells}
use Rattle.tap_expr.specs.Nodes.{nodes, most_nodes}

-- The tokens are the expression, and keep both limits.
pub record IsExpr (xs : List Lexeme) (e : AstExpr) : Type 0 where
  pub shallow : IsShallow xs
  pub spelled : Spells xs e
  pub small : nodes e ≤ most_nodes

-- The tokens begin no spelled expression, whatever stands behind them.
abbrev pub BeginNone : List Lexeme → Type 0
BeginNone ts = (us : List Lexeme) (e : AstExpr) → Spells (ts ++ us) e → ⊥

-- The tokens spell no expression, and k is where this shows: at a token such that those up to and with it begin none, or where the tokens end.
pub record IsUnspelled (xs : List Lexeme) (k : ℕ) : Type 0 where
  -- a token, or the end
  pub within : k ≤ length xs
  pub none : (e : AstExpr) → Spells xs e → ⊥
  pub front : k < length xs → BeginNone (take (k + 1) xs)

abbrev pub refusal : RefusalCode → Place → Refusal
refusal c p = record { code = c; place = p }

-- The first offence: S2 where a bracket is too deep; S1 where no expression is spelled; S3, at the first
-- token, where one is spelled that has too many nodes.
pub data ExprOffence (text : List ℕ) (tokens : List Token) : Refusal → Type 0 where
  deep : {k : ℕ} → IsTooDeep (lexemes text tokens) k → ExprOffence text tokens (refusal code.S2 (place_at tokens k))
  unspelled : {k : ℕ} → IsShallow (lexemes text tokens) → IsUnspelled (lexemes text tokens) k → ExprOffence text tokens (refusal code.S1 (place_at tokens k))
  large : {e : AstExpr} → IsShallow (lexemes text tokens) → Spells (lexemes text tokens) e → most_nodes < nodes e → ExprOffence text tokens (refusal code.S3 (place_at tokens 0))

-- Where the place of S1 is a token, no list that agrees up to and with it spells an expression.
abbrev pub OneFront : Type 0
OneFront = (xs ys : List Lexeme) (k : ℕ) → IsUnspelled xs k → k < length xs → take (k + 1) xs ≡ take (k + 1) ys → (e : AstExpr) → Spells ys e → ⊥

-- Tokens that are an expression have no offence, and those with an offence have one of one code.
abbrev pub OneEnd : Type 0
OneEnd = (text : List ℕ) (tokens : List Token) (r : Refusal) → ExprOffence text tokens r → ((e : AstExpr) → IsExpr (lexemes text tokens) e → ⊥) × ((s : Refusal) → ExprOffence text tokens s → r.code ≡ s.code)
