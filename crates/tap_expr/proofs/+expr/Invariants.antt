use Rattle.std.proofs.Common.{ℕ, ◌+◌, ◌-◌, ◌*◌, ◌<◌, length}
use Rattle.tap_base.specs.declared.join.Join.{Join}
use Rattle.tap_base.specs.declared.join.Join.TheVariants.{Disjunction, Conjunction, Sum, Term}
use Rattle.tap_lexer.specs.Lexeme.{lexemes}
use Rattle.tap_expr.proofs.ExprLevels.{Carries}
use Rattle.tap_expr.proofs.+expr.Given as goal

-- how far the parts of a chain lie above atoms
abbrev rank : Join → ℕ
rank Disjunction = 11
rank Conjunction = 9
rank Sum = 5
rank Term = 3

abbrev pub decreases-atoms::read_atom : goal.decreases-atoms::read_atom
decreases-atoms::read_atom l = (length l.source.now.tokens.now - l.at) * 16 + 1

abbrev pub decreases-atoms::read_choice : goal.decreases-atoms::read_choice
decreases-atoms::read_choice l = (length l.source.now.tokens.now - l.at) * 16

abbrev pub decreases-chains::read_factor : goal.decreases-chains::read_factor
decreases-chains::read_factor l = (length l.source.now.tokens.now - l.at) * 16 + 2

abbrev pub decreases-atoms::read_group : goal.decreases-atoms::read_group
decreases-atoms::read_group l = (length l.source.now.tokens.now - l.at) * 16

abbrev pub decreases-chains::read_joined : goal.decreases-chains::read_joined
decreases-chains::read_joined l = (length l.source.now.tokens.now - l.at) * 16 + rank l.join + 1

abbrev pub decreases-atoms::read_named : goal.decreases-atoms::read_named
decreases-atoms::read_named l = (length l.source.now.tokens.now - l.at) * 16

abbrev pub decreases-chains::read_negation : goal.decreases-chains::read_negation
decreases-chains::read_negation l = (length l.source.now.tokens.now - l.at) * 16 + 8

abbrev pub decreases-chains::read_part : goal.decreases-chains::read_part
decreases-chains::read_part l = (length l.source.now.tokens.now - l.at) * 16 + rank l.join

abbrev pub decreases-chains::read_relation : goal.decreases-chains::read_relation
decreases-chains::read_relation l = (length l.source.now.tokens.now - l.at) * 16 + 7

abbrev pub invariant-chains::read_joined-parts : goal.invariant-chains::read_joined-parts
invariant-chains::read_joined-parts l = record {
  further : l.at < l.next;
  kept : Carries l.join (lexemes l.source.text.now l.source.tokens.now) l.at l.next l.value;
}

abbrev pub decreases-chains::read_joined-parts : goal.decreases-chains::read_joined-parts
decreases-chains::read_joined-parts l = length l.source.tokens.now - l.next
