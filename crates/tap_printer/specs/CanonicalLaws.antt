-- What canonical texts promise.
use Rattle.std.specs.Prelude.{◌≡◌, ℕ, ◌≤◌, pos, ◌≤ℤ◌, List, [], ◌∷◌, length}
use Rattle.tap_base.specs.declared.ast.Ast.{Ast}
use Rattle.tap_base.specs.declared.token.Sign.TheVariants as sign
use Rattle.tap_base.specs.declared.token.Token.{Token}
use Rattle.tap_base.specs.Lists.{Each}
use Rattle.tap_lexer.specs.Lexeme.{Lexeme, lexemes}
use Rattle.tap_lexer.specs.Tokens.{SpellsTokens}
use Rattle.tap_parser.specs.Systems.{SpellsText, IsTree}
use Rattle.tap_printer.specs.Canonical.{tree_tokens, canonical}
use Rattle.tap_printer.specs.PlacesAside.{SameTree}
use Rattle.tap_printer.specs.Printed.{Printed, mark, name, number}

-- the token of a text is the printed one, wherever it stands
abbrev pub IsPrinted : Printed → Lexeme → Type 0
IsPrinted (mark s) x = x.sign ≡ s
IsPrinted (name text) x = (x.sign ≡ sign.Name) × (x.text ≡ text)
IsPrinted (number n) x = (x.sign ≡ sign.Number) × (x.value ≡ n)

-- of the tokens ts, those before us are the printed ones
pub data Begins : List Printed → List Lexeme → List Lexeme → Type 0 where
  none : {ts : List Lexeme} → Begins [] ts ts
  next : {t : Printed} {x : Lexeme} {printed : List Printed} {ts us : List Lexeme} → IsPrinted t x → Begins printed ts us → Begins (t ∷ printed) (x ∷ ts) us

-- the tokens are the printed ones
abbrev pub ArePrinted : List Printed → List Lexeme → Type 0
ArePrinted printed ts = Begins printed ts []

-- Tokens that are the canonical ones of a spelled tree spell that tree again, places aside.
abbrev pub SpelledAgain : Type 0
SpelledAgain = (ts us : List Lexeme) (tree : Ast) → SpellsText ts tree → ArePrinted (tree_tokens tree) us → (d : Ast) × SpellsText us d × SameTree d tree

-- Where the tokens that spelled the tree keep both limits, so do these.
abbrev pub LimitsKept : Type 0
LimitsKept = (ts us : List Lexeme) (tree : Ast) → IsTree ts tree → ArePrinted (tree_tokens tree) us → (d : Ast) × IsTree us d × SameTree d tree

-- as a token of a text, which is no number below 0
abbrev pub IsNatural : Lexeme → Type 0
IsNatural x = x.sign ≡ sign.Number → pos 0 ≤ℤ x.value

-- Tokens that spell the tree, places aside, are no fewer than the canonical ones.
abbrev pub Fewest : Type 0
Fewest = (ts : List Lexeme) (tree d : Ast) → Each IsNatural ts → SpellsText ts d → SameTree d tree → length (tree_tokens tree) ≤ length ts

-- The tokens of the canonical text of a tree that a text spells are the canonical ones.
abbrev pub TokensAgain : Type 0
TokensAgain = (text : List ℕ) (tokens : List Token) (tree : Ast) → SpellsTokens text tokens → SpellsText (lexemes text tokens) tree
    → (again : List Token) × SpellsTokens (canonical tree) again × ArePrinted (tree_tokens tree) (lexemes (canonical tree) again)

-- The canonical text of a tree that a text is, within both limits, is the same tree, places aside; and its canonical text is itself.
abbrev pub ReadAgain : Type 0
ReadAgain = (text : List ℕ) (tokens : List Token) (tree : Ast) → SpellsTokens text tokens → IsTree (lexemes text tokens) tree
    → (again : List Token) × (d : Ast) × SpellsTokens (canonical tree) again × IsTree (lexemes (canonical tree) again) d × SameTree d tree × (canonical d ≡ canonical tree)

-- And whatever tree its canonical text is, is the same.
abbrev pub ReadAgainOnly : Type 0
ReadAgainOnly = (text : List ℕ) (tokens : List Token) (tree : Ast) → SpellsTokens text tokens → IsTree (lexemes text tokens) tree
    → (again : List Token) (d : Ast) → SpellsTokens (canonical tree) again → IsTree (lexemes (canonical tree) again) d → SameTree d tree
