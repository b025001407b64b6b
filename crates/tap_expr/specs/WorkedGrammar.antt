-- The grammar worked on small texts.
use Rattle.std.specs.Prelude.{◌≡◌, [], ◌∷◌}
use Rattle.tap_base.specs.declared.ast.AstExpr.{AstExpr}
use Rattle.tap_base.specs.declared.ast.AstKind.TheVariants as kind
use Rattle.tap_base.specs.declared.token.Sign.TheVariants as sign
use Rattle.tap_base.specs.declared.tree.Op.TheVariants as op
use Rattle.tap_lexer.specs.Lexeme.{Lexeme}
use Rattle.tap_lexer.specs.Leaves.{node}
use Rattle.tap_expr.specs.Grammar.{binary, Spells}

abbrev pub number : Lexeme → AstExpr
number x = node (kind.Number x.value) x.place

-- `1 - 2 - 3` is `(1 - 2) - 3`, and each operation stands at its `-`
abbrev pub GroupsFromTheLeft : Type 0
GroupsFromTheLeft = (x v y w z : Lexeme) → x.sign ≡ sign.Number → v.sign ≡ sign.Minus → y.sign ≡ sign.Number → w.sign ≡ sign.Minus → z.sign ≡ sign.Number →
    Spells (x ∷ v ∷ y ∷ w ∷ z ∷ []) (binary op.Sub (binary op.Sub (number x) (number y) v.place) (number z) w.place)

-- `(1)` is `1`, at the place of the number
abbrev pub ParenthesesLeaveNoNode : Type 0
ParenthesesLeaveNoNode = (x y z : Lexeme) → x.sign ≡ sign.Open → y.sign ≡ sign.Number → z.sign ≡ sign.Close → Spells (x ∷ y ∷ z ∷ []) (number y)
