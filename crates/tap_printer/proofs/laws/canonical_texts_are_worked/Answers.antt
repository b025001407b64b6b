use Rattle.tap_printer.proofs.Worked.{right_kept, left_dropped, minus_takes_an_atom, minus_behind_minus, not_below_a_relation, not_of_a_relation, relation_of_a_relation, choice_joints, index_joints, part_joints, no_leading_zeros, lines_of_a_process}
use Rattle.tap_printer.proofs.laws.canonical_texts_are_worked.Goals as goal

pub returns-clause-right : goal.returns-clause-right
returns-clause-right c = right_kept

pub returns-clause-left : goal.returns-clause-left
returns-clause-left c = left_dropped

pub returns-clause-minus : goal.returns-clause-minus
returns-clause-minus c = minus_takes_an_atom

pub returns-clause-minus_behind_minus : goal.returns-clause-minus_behind_minus
returns-clause-minus_behind_minus c = minus_behind_minus

pub returns-clause-not_below : goal.returns-clause-not_below
returns-clause-not_below c = not_below_a_relation

pub returns-clause-not_of : goal.returns-clause-not_of
returns-clause-not_of c = not_of_a_relation

pub returns-clause-relation : goal.returns-clause-relation
returns-clause-relation c = relation_of_a_relation

pub returns-clause-choice : goal.returns-clause-choice
returns-clause-choice c = choice_joints

pub returns-clause-index : goal.returns-clause-index
returns-clause-index c = index_joints

pub returns-clause-part : goal.returns-clause-part
returns-clause-part c = part_joints

pub returns-clause-number : goal.returns-clause-number
returns-clause-number c = no_leading_zeros

pub returns-clause-lines : goal.returns-clause-lines
returns-clause-lines c = lines_of_a_process
