-- Signs of expressions, where they stand.
use Rattle.std.specs.Prelude.{◌≡◌, ℕ, true, false, List, [], ◌∷◌, Option, Some, None, drop}
use Rattle.tap_base.specs.declared.join.Join.{Join}
use Rattle.tap_base.specs.declared.tree.Op.{Op}
use Rattle.tap_base.specs.declared.tree.Op.TheVariants as op
use Rattle.tap_base.specs.declared.token.Sign.{Sign}
use Rattle.tap_base.specs.declared.token.Sign.TheVariants as sign
use Rattle.tap_base.specs.declared.token.Token.{Token}
use Rattle.tap_lexer.specs.Lexeme.{Lexeme, lexeme, lexemes}
use Rattle.tap_lexer.specs.inner.Reading.{Stands}
use Rattle.tap_expr.specs.Grammar.{joining, relating}
use Rattle.tap_expr.specs.declared.start.Start.{Start}
use Rattle.tap_expr.specs.declared.start.Start.TheVariants.{Number, Truth, Name, Choice, Group, Nothing}

-- what an atom begins with, by its first sign
abbrev pub starting : Sign → Start
starting sign.Number = Number
starting sign.True = Truth true
starting sign.False = Truth false
starting sign.Name = Name
starting sign.Min = Choice op.Min
starting sign.Max = Choice op.Max
starting sign.Open = Group
starting _ = Nothing

-- no sign that joins the parts of such a chain stands first
abbrev pub Ends : Join → List Lexeme → Type 0
Ends j [] = Unit {0}
Ends j (x ∷ us) = joining j x.sign ≡ None

-- the token at a place with its operation, if it joins the parts of such a chain
abbrev pub Joins : Join → List ℕ → List Token → ℕ → Option (Op × Token) → Type 0
Joins j text tokens at None = Ends j (drop at (lexemes text tokens))
Joins j text tokens at (Some (o, t)) = Stands (lexemes text tokens) at (lexeme text t) × (joining j (lexeme text t).sign ≡ Some o)

-- no sign that compares stands first
abbrev pub NoRelation : List Lexeme → Type 0
NoRelation [] = Unit {0}
NoRelation (x ∷ us) = relating x.sign ≡ None

-- the token at a place with its operation, if it compares
abbrev pub Relates : List ℕ → List Token → ℕ → Option (Op × Token) → Type 0
Relates text tokens at None = NoRelation (drop at (lexemes text tokens))
Relates text tokens at (Some (o, t)) = Stands (lexemes text tokens) at (lexeme text t) × (relating (lexeme text t).sign ≡ Some o)
