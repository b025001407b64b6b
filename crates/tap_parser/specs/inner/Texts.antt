-- What reading a whole text answers.
use Rattle.std.specs.Prelude.{ℕ, min, List, Result, Ok, Err, length}
use Rattle.tap_base.specs.declared.ast.Ast.{Ast}
use Rattle.tap_base.specs.declared.token.Token.{Token}
use Rattle.tap_lexer.specs.Lexeme.{Lexeme, lexemes}
use Rattle.tap_expr.specs.declared.found.Stuck.{Stuck}
use Rattle.tap_expr.specs.declared.found.Stuck.TheVariants as stuck
use Rattle.tap_expr.specs.declared.fault.ParseFault.{ParseFault}
use Rattle.tap_expr.specs.declared.fault.ParseFault.TheVariants as fault
use Rattle.tap_parser.specs.Systems.{IsTree, IsUntold, IsTooLarge, TextOffence, SpellsText, SpellsTo}
use Rattle.tap_parser.specs.declared.kept.Kept.{Kept}
use Rattle.tap_parser.specs.declared.kept.Kept.TheVariants.{Whole, Large}

-- the tree that all the tokens spell, the first of its expressions that is too large, or that they spell none; a number beyond the tokens stands for
-- their end
abbrev pub SystemAnswers : List Lexeme → Result (Kept Ast) Stuck → Type 0
SystemAnswers xs (Ok (Whole tree)) = SpellsText xs tree × SpellsTo (length xs) xs tree
SystemAnswers xs (Ok (Large k)) = IsTooLarge xs k
SystemAnswers xs (Err (stuck.At k)) = IsUntold xs (min k (length xs))
SystemAnswers xs (Err stuck.NoMemory) = Unit {0}

-- the tree that the tokens of a text are, or their first offence
abbrev pub TextAnswers : List ℕ → List Token → Result Ast ParseFault → Type 0
TextAnswers text tokens (Ok tree) = IsTree (lexemes text tokens) tree
TextAnswers text tokens (Err (fault.Refused refusal)) = TextOffence text tokens refusal
TextAnswers text tokens (Err fault.NoMemory) = Unit {0}
