-- Canonical tokens and texts worked on small trees.
use Rattle.std.proofs.Common.{◌∙◌, ap, ◌++◌, pos, codes, arith, rules}
use Rattle.std.proofs.lemmas.Fmt.{decimal_digit}
use Rattle.tap_base.specs.declared.ast.AstKind.{the_lemmas as of_exprs}
use Rattle.tap_base.specs.declared.ast.AstStmt.{the_lemmas as of_stmts}
use Rattle.tap_base.specs.declared.ast.AstKind.TheVariants as kind
use Rattle.tap_lexer.specs.Bytes.{start}
use Rattle.tap_lexer.specs.Leaves.{node}
use Rattle.tap_expr.specs.Grammar.{expression}
use Rattle.tap_printer.specs.CanonicalExprs.{tokens_at}
use Rattle.tap_printer.specs.Printed.{text_of}
use Rattle.tap_printer.proofs.Phrases.{by_kind, of_number}
use Rattle.tap_printer.specs.WorkedCanonical.{RightKept, LeftDropped, MinusTakesAnAtom, MinusBehindMinus, NotBelowARelation, NotOfARelation, RelationOfARelation, ChoiceJoints, IndexJoints, PartJoints, NoLeadingZeros, LinesOfAProcess}

pub right_kept : RightKept
right_kept = search (rules, of_exprs)

pub left_dropped : LeftDropped
left_dropped = search (rules, of_exprs)

pub minus_takes_an_atom : MinusTakesAnAtom
minus_takes_an_atom = search (rules, of_exprs)

pub minus_behind_minus : MinusBehindMinus
minus_behind_minus = search (rules, of_exprs)

pub not_below_a_relation : NotBelowARelation
not_below_a_relation = search (rules, of_exprs)

pub not_of_a_relation : NotOfARelation
not_of_a_relation = search (rules, of_exprs)

pub relation_of_a_relation : RelationOfARelation
relation_of_a_relation = search (rules, of_exprs)

pub choice_joints : ChoiceJoints
choice_joints = search (rules, of_exprs)

pub index_joints : IndexJoints
index_joints = search (rules, of_exprs)

pub part_joints : PartJoints
part_joints = search (rules, of_exprs)

pub no_leading_zeros : NoLeadingZeros
no_leading_zeros = ap (λ p. text_of (tokens_at expression p)) (by_kind (node (kind.Number (pos 7)) start) ∙ of_number (pos 7)) ∙ ap (λ w. w ++ codes "\n") (decimal_digit 7 (omega arith))

pub lines_of_a_process : LinesOfAProcess
lines_of_a_process = search (rules, of_exprs, of_stmts)
