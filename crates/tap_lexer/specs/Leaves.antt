-- What tokens leave in a tree: nodes and names, each with its place.
use Rattle.tap_base.specs.declared.ast.AstExpr.{AstExpr}
use Rattle.tap_base.specs.declared.ast.AstKind.{AstKind}
use Rattle.tap_base.specs.declared.ast.Ident.{Ident}
use Rattle.tap_base.specs.declared.place.Place.{Place}
use Rattle.tap_lexer.specs.Lexeme.{Lexeme}

-- a node of an expression where it stands
abbrev pub node : AstKind → Place → AstExpr
node k p = record { kind = k; place = p }

-- the name that a token is, where it stands
abbrev pub ident : Lexeme → Ident
ident x = record { text = x.text; place = x.place }
