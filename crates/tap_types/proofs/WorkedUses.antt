-- The offences of uses worked on small parts of trees.
use Rattle.std.proofs.Common.{refl, rules}
use Rattle.tap_base.specs.declared.ast.AstKind.{the_lemmas}
use Rattle.tap_base.specs.declared.ast.AstStmt.{the_lemmas as stmt_lemmas}
use Rattle.tap_types.specs.WorkedUses.{NothingReceived, OperandsFirst, PartsOfAReceive, PartsOfASend, PartsOfAnAssignment, SendsAfterUses, UnlikeOperands}

pub parts_of_a_send : PartsOfASend
parts_of_a_send a b c d e = search (rules, the_lemmas)

pub parts_of_a_receive : PartsOfAReceive
parts_of_a_receive a b c = refl

pub operands_first : OperandsFirst
operands_first a b c d = search (rules, the_lemmas)

pub unlike_operands : UnlikeOperands
unlike_operands a b c d = search (rules, the_lemmas)

pub nothing_received : NothingReceived
nothing_received a b = search (rules, the_lemmas)

pub parts_of_an_assignment : PartsOfAnAssignment
parts_of_an_assignment a b c d e r = search (rules, the_lemmas)

pub sends_after_uses : SendsAfterUses
sends_after_uses a b c d e = search (rules, the_lemmas, stmt_lemmas)
