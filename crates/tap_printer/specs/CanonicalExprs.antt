-- The tokens of an expression with the fewest parentheses.
use Rattle.std.specs.Prelude.{ℕ, Bool, true, false, if◌then◌else◌, nat_lt, List, [], ◌∷◌, ◌++◌}
use Rattle.tap_base.specs.declared.ast.AstExpr.{AstExpr}
use Rattle.tap_base.specs.declared.ast.AstKind.TheFolds.{fold-AstExpr}
use Rattle.tap_base.specs.declared.ast.AstKind.TheOpen.{AstKind-F}
use Rattle.tap_base.specs.declared.join.Join.TheVariants.{Disjunction, Conjunction, Sum, Term}
use Rattle.tap_base.specs.declared.token.Sign.{Sign}
use Rattle.tap_base.specs.declared.token.Sign.TheVariants as sign
use Rattle.tap_base.specs.declared.tree.Op.{Op}
use Rattle.tap_base.specs.declared.tree.Op.TheVariants as op
use Rattle.tap_expr.specs.Grammar.{Level, joined, negation, relation, factor, atom, expression, part_of}
use Rattle.tap_printer.specs.Printed.{Printed, mark, name, number}

-- how far a level stands from the loosest
abbrev pub tightness : Level → ℕ
tightness (joined Disjunction) = 0
tightness (joined Conjunction) = 1
tightness negation = 2
tightness relation = 3
tightness (joined Sum) = 4
tightness (joined Term) = 5
tightness factor = 6
tightness atom = 7

-- an expression with its own level, and its tokens there
pub record Phrase : Type 0 where
  pub level : Level
  pub tokens : List Printed

abbrev pub parenthesized : List Printed → List Printed
parenthesized tokens = mark sign.Open ∷ tokens ++ mark sign.Close ∷ []

-- the tokens of an expression where one of a level is due: in parentheses exactly where its own level is looser
abbrev pub tokens_at : Level → Phrase → List Printed
tokens_at l phrase = if nat_lt (tightness phrase.level) (tightness l) then parenthesized phrase.tokens else phrase.tokens

-- ---- operations

abbrev pub operator : Op → Sign
operator op.Or = sign.Or
operator op.And = sign.And
operator op.Eq = sign.Equal
operator op.Ne = sign.NotEqual
operator op.Lt = sign.Less
operator op.Le = sign.LessEqual
operator op.Gt = sign.Greater
operator op.Ge = sign.GreaterEqual
operator op.Add = sign.Plus
operator op.Sub = sign.Minus
operator op.Mul = sign.Star
operator op.Div = sign.Div
operator op.Mod = sign.Mod
operator op.Min = sign.Min
operator op.Max = sign.Max

-- the level of an operation
abbrev pub level_of : Op → Level
level_of op.Or = joined Disjunction
level_of op.And = joined Conjunction
level_of op.Eq = relation
level_of op.Ne = relation
level_of op.Lt = relation
level_of op.Le = relation
level_of op.Gt = relation
level_of op.Ge = relation
level_of op.Add = joined Sum
level_of op.Sub = joined Sum
level_of op.Mul = joined Term
level_of op.Div = joined Term
level_of op.Mod = joined Term
level_of op.Min = atom
level_of op.Max = atom

-- the levels of its operands: a chain's left operand is at its own level and its right one a part of it, and a comparison has sums on both sides
abbrev pub left_of : Level → Level
left_of (joined j) = joined j
left_of _ = joined Sum

abbrev pub right_of : Level → Level
right_of (joined j) = part_of j
right_of _ = joined Sum

-- the choice of the lesser or the greater, which has whole expressions
abbrev pub is_choice : Op → Bool
is_choice op.Min = true
is_choice op.Max = true
is_choice _ = false

abbrev pub infix_tokens : Op → Phrase → Phrase → List Printed
infix_tokens o a b = tokens_at (left_of (level_of o)) a ++ mark (operator o) ∷ tokens_at (right_of (level_of o)) b

abbrev pub choice_tokens : Op → Phrase → Phrase → List Printed
choice_tokens o a b = mark (operator o) ∷ mark sign.Open ∷ tokens_at expression a ++ mark sign.Comma ∷ tokens_at expression b ++ mark sign.Close ∷ []

abbrev pub operation_tokens : Op → Phrase → Phrase → List Printed
operation_tokens o a b = if is_choice o then choice_tokens o a b else infix_tokens o a b

-- ---- expressions

abbrev pub phrase : Level → List Printed → Phrase
phrase l tokens = record { level = l; tokens = tokens }

abbrev pub truth_sign : Bool → Sign
truth_sign true = sign.True
truth_sign false = sign.False

-- a node, over the phrases of its parts: `not` takes a relation, `-` an atom, an index is a whole expression
abbrev pub phrase_step : AstKind-F Phrase Phrase → Phrase
phrase_step (AstKind-F.Number n) = phrase atom (number n ∷ [])
phrase_step (AstKind-F.Truth b) = phrase atom (mark (truth_sign b) ∷ [])
phrase_step (AstKind-F.Name t) = phrase atom (name t ∷ [])
phrase_step (AstKind-F.Index t i) = phrase atom (name t ∷ mark sign.OpenIndex ∷ tokens_at expression i ++ mark sign.CloseIndex ∷ [])
phrase_step (AstKind-F.Part m f) = phrase atom (name m ∷ mark sign.Dot ∷ name f ∷ [])
phrase_step (AstKind-F.Not e) = phrase negation (mark sign.Not ∷ tokens_at relation e)
phrase_step (AstKind-F.Neg e) = phrase factor (mark sign.Minus ∷ tokens_at atom e)
phrase_step (AstKind-F.Binary o a b) = phrase (level_of o) (operation_tokens o a b)

abbrev pub phrase_of : AstExpr → Phrase
phrase_of = fold-AstExpr Phrase Phrase phrase_step (λ e. e.kind)

-- the tokens of an expression where one of a level is due, and those of a whole one
abbrev pub expr_tokens_at : Level → AstExpr → List Printed
expr_tokens_at l e = tokens_at l (phrase_of e)

abbrev pub expr_tokens : AstExpr → List Printed
expr_tokens e = expr_tokens_at expression e
