-- Canonical tokens and texts worked on small trees.
use Rattle.std.specs.Prelude.{◌≡◌, ℕ, pos, true, List, [], ◌∷◌, codes, None}
use Rattle.tap_base.specs.declared.ast.Ast.{Ast}
use Rattle.tap_base.specs.declared.ast.AstExpr.{AstExpr}
use Rattle.tap_base.specs.declared.ast.AstGuard.TheVariants as guard
use Rattle.tap_base.specs.declared.ast.AstKind.TheVariants as kind
use Rattle.tap_base.specs.declared.ast.AstKind.{AstKind}
use Rattle.tap_base.specs.declared.ast.AstScalar.TheVariants as scalar
use Rattle.tap_base.specs.declared.ast.AstStmt.TheVariants as stmt
use Rattle.tap_base.specs.declared.ast.AstType.TheVariants as type_of
use Rattle.tap_base.specs.declared.ast.Bound.TheVariants as bound
use Rattle.tap_base.specs.declared.ast.Ident.{Ident}
use Rattle.tap_base.specs.declared.tree.Op.TheVariants as op
use Rattle.tap_lexer.specs.Bytes.{start}
use Rattle.tap_lexer.specs.Leaves.{node}
use Rattle.tap_expr.specs.Grammar.{binary}
use Rattle.tap_printer.specs.Canonical.{canonical}
use Rattle.tap_printer.specs.CanonicalExprs.{expr_tokens}
use Rattle.tap_printer.specs.Printed.{text_of}

-- an expression somewhere
abbrev at : AstKind → AstExpr
at k = node k start

abbrev called : List ℕ → AstExpr
called text = at (kind.Name text)

abbrev a : AstExpr
a = called (codes "a")

abbrev b : AstExpr
b = called (codes "b")

abbrev c : AstExpr
c = called (codes "c")

-- an expression's text, with the line feed at its end
abbrev pub text_of_expr : AstExpr → List ℕ
text_of_expr e = text_of (expr_tokens e)

-- `a - (b - c)` keeps its parentheses
abbrev pub RightKept : Type 0
RightKept = text_of_expr (binary op.Sub a (binary op.Sub b c start) start) ≡ codes "a - (b - c)\n"

-- `(a - b) - c` needs none
abbrev pub LeftDropped : Type 0
LeftDropped = text_of_expr (binary op.Sub (binary op.Sub a b start) c start) ≡ codes "a - b - c\n"

-- `-` takes an atom
abbrev pub MinusTakesAnAtom : Type 0
MinusTakesAnAtom = text_of_expr (at (kind.Neg (at (kind.Neg a)))) ≡ codes "- (- a)\n"

-- and a part of a sum may begin with it
abbrev pub MinusBehindMinus : Type 0
MinusBehindMinus = text_of_expr (binary op.Sub a (at (kind.Neg b)) start) ≡ codes "a - - b\n"

-- `(not a) = b` keeps its parentheses, and `not (a = b)` needs none
abbrev pub NotBelowARelation : Type 0
NotBelowARelation = text_of_expr (binary op.Eq (at (kind.Not a)) b start) ≡ codes "(not a) = b\n"

abbrev pub NotOfARelation : Type 0
NotOfARelation = text_of_expr (at (kind.Not (binary op.Eq a b start))) ≡ codes "not a = b\n"

-- a relation takes none without parentheses
abbrev pub RelationOfARelation : Type 0
RelationOfARelation = text_of_expr (binary op.Eq (binary op.Eq a b start) c start) ≡ codes "(a = b) = c\n"

-- what is chosen stands in parentheses of its own
abbrev pub ChoiceJoints : Type 0
ChoiceJoints = text_of_expr (binary op.Mul (binary op.Min a b start) (binary op.Add b c start) start) ≡ codes "min(a, b) * (b + c)\n"

abbrev pub IndexJoints : Type 0
IndexJoints = text_of_expr (at (kind.Index (codes "x") a)) ≡ codes "x [a]\n"

abbrev pub PartJoints : Type 0
PartJoints = text_of_expr (at (kind.Part (codes "m") (codes "f"))) ≡ codes "m.f\n"

-- a number has no leading zeros
abbrev pub NoLeadingZeros : Type 0
NoLeadingZeros = text_of_expr (at (kind.Number (pos 7))) ≡ codes "7\n"

-- ---- a whole text

abbrev ident : List ℕ → Ident
ident text = record { text = text; place = start }

-- `process a var x : k..l begin true -> send m(a) to b [] rcv n from c -> skip end`
abbrev pub small_tree : Ast
small_tree = record {
  messages = [];
  processes = record {
    name = ident (codes "a");
    consts = [];
    inputs = [];
    vars = record { name = ident (codes "x"); kind = type_of.Scalar (scalar.Between (bound.Name (ident (codes "k"))) (bound.Name (ident (codes "l")))); initial = None } ∷ [];
    timers = [];
    actions =
        record { guard = guard.Local (at (kind.Truth true)); body = stmt.Send (ident (codes "m")) (a ∷ []) (ident (codes "b")) ∷ []; place = start } ∷
        record { guard = guard.Receive (ident (codes "n")) (ident (codes "c")); body = stmt.Skip ∷ []; place = start } ∷
        [];
  } ∷ [];
}

abbrev pub LinesOfAProcess : Type 0
LinesOfAProcess = canonical small_tree ≡ codes "process a\nvar x : k..l\nbegin true -> send m (a) to b\n[] rcv n from c -> skip\nend\n"
