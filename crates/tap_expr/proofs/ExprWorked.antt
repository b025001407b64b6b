-- Small texts of expressions.
use Rattle.std.proofs.Common.{ap, ◌≡◌, List, ◌∷◌}
use Rattle.tap_base.specs.declared.join.Join.TheVariants.{Sum, Term}
use Rattle.tap_base.specs.declared.token.Sign.TheVariants as sign
use Rattle.tap_lexer.specs.Lexeme.{Lexeme}
use Rattle.tap_expr.specs.Grammar.{joined, expression, joining, Reads, chain, done, more, plain, single, positive, leaf, number, group}
use Rattle.tap_expr.specs.WorkedGrammar.{GroupsFromTheLeft, ParenthesesLeaveNoNode}
use Rattle.tap_expr.specs.WorkedGrammar.{number as number_of}

term : (x : Lexeme) (ts : List Lexeme) → x.sign ≡ sign.Number → Reads (joined Term) (number_of x) (x ∷ ts) ts
term x ts i = chain (positive (leaf (number i))) done

pub groups_from_the_left : GroupsFromTheLeft
groups_from_the_left x v y w z i p j q k =
    chain (chain (plain (single (chain (term x _ i) (more (ap (joining Sum) p) (term y _ j) (more (ap (joining Sum) q) (term z _ k) done))))) done) done

lone : (y : Lexeme) (ts : List Lexeme) → y.sign ≡ sign.Number → Reads expression (number_of y) (y ∷ ts) ts
lone y ts j = chain (chain (plain (single (chain (term y ts j) done))) done) done

pub parentheses_leave_no_node : ParenthesesLeaveNoNode
parentheses_leave_no_node x y z i j k = chain (chain (plain (single (chain (chain (positive (group i (lone y _ j) k)) done) done))) done) done
