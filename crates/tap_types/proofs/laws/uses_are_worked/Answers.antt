use Rattle.tap_types.proofs.WorkedUses.{nothing_received, operands_first, parts_of_a_receive, parts_of_a_send, parts_of_an_assignment, sends_after_uses, unlike_operands}
use Rattle.tap_types.proofs.laws.uses_are_worked.Goals as goal

pub returns-clause-send : goal.returns-clause-send
returns-clause-send c = parts_of_a_send

pub returns-clause-receive : goal.returns-clause-receive
returns-clause-receive c = parts_of_a_receive

pub returns-clause-operands : goal.returns-clause-operands
returns-clause-operands c = operands_first

pub returns-clause-unlike : goal.returns-clause-unlike
returns-clause-unlike c = unlike_operands

pub returns-clause-nothing : goal.returns-clause-nothing
returns-clause-nothing c = nothing_received

pub returns-clause-assignment : goal.returns-clause-assignment
returns-clause-assignment c = parts_of_an_assignment

pub returns-clause-last : goal.returns-clause-last
returns-clause-last c = sends_after_uses
