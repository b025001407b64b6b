-- What a text is read as, and the system that it is accepted as.
use Rattle.std.specs.Prelude.{◌≡◌, ℕ, ◌≤◌, List, [], length, map, Some}
use Rattle.tap_base.specs.declared.ast.Ast.{Ast}
use Rattle.tap_base.specs.declared.system.System.{System}
use Rattle.tap_base.specs.declared.token.Token.{Token}
use Rattle.tap_lexer.specs.Lexeme.{lexemes}
use Rattle.tap_base.specs.Lists.{Each, AreDistinct}
use Rattle.tap_base.specs.LineWords.{IsWord}
use Rattle.tap_parser.specs.Systems.{IsTree}
use Rattle.tap_lexer.specs.Tokens.{SpellsTokens}
use Rattle.tap_types.specs.Offences.{offences_of}
use Rattle.tap_types.specs.Systems.{system_of}
use Rattle.width_check.specs.Offences.{offences}
use Rattle.tap_base.specs.Wires.{wire_of}
use Rattle.tap_front.specs.Layouts.{IsLaidOut}

-- how many bytes the text of a system has at most
abbrev pub longest_text : ℕ
longest_text = 1048576

-- The text is read as the tree: it is no longer than a text may be, has tokens, and these are the tree within the limits.
pub record IsReadAs (text : List ℕ) (tree : Ast) : Type 0 where
  pub sized : length text ≤ longest_text
  pub tokens : List Token
  pub lexed : SpellsTokens text tokens
  pub parsed : IsTree (lexemes text tokens) tree

-- The tree resolves to the system: it has no offence of names, kinds and limits, and names the system.
pub record ResolvesTo (tree : Ast) (system : System) : Type 0 where
  pub faultless : offences_of tree ≡ []
  pub named : system_of tree ≡ Some system

-- The text is accepted as the system: it is read as a tree that resolves to the system, this has no offence of widths, costs
-- and sends, and its messages can be laid out.
pub record Accepted (text : List ℕ) (system : System) : Type 0 where
  pub tree : Ast
  pub read : IsReadAs text tree
  pub resolved : ResolvesTo tree system
  pub clear : offences system ≡ []
  pub laid_out : IsLaidOut (wire_of system)

-- The names of processes tell them apart in the words of a line: each is a word, and of one process alone.
abbrev pub TellsApart : System → Type 0
TellsApart system = let names = map (λ p. p.name) system.processes in Each IsWord names × AreDistinct names

-- In each process, the names of its variables tell these apart likewise.
abbrev pub VarsTellApart : System → Type 0
VarsTellApart system = Each (λ p. let names = map (λ v. v.name) p.vars in Each IsWord names × AreDistinct names) system.processes
