-- What reading tokens answers, whole and step by step.
use Rattle.std.specs.Prelude.{ℕ, ◌+◌, ◌<◌, ◌≤◌, Bool, if◌then◌else◌, List, [], ◌∷◌, length, drop, Option, Some, None, Result, Ok, Err}
use Rattle.std.specs.Char.{is_ascii_digit}
use Rattle.tap_base.specs.declared.place.Place.{Place}
use Rattle.tap_base.specs.declared.refusal.Refusal.{Refusal}
use Rattle.tap_base.specs.declared.token.TokenKind.{TokenKind}
use Rattle.tap_base.specs.declared.token.TokenKind.TheVariants.{Name, Word}
use Rattle.tap_base.specs.declared.token.Token.{Token}
use Rattle.tap_lexer.specs.Bytes.{in_word, in_comment}
use Rattle.tap_lexer.specs.Words.{words, is_in}
use Rattle.tap_lexer.specs.TokenSpans.{HasTokens, HasOffence}
use Rattle.tap_lexer.specs.Tokens.{LexesTo, Lexes, Longest, NoToken, Outcome, before}
use Rattle.tap_lexer.specs.declared.fault.LexFault.{LexFault}
use Rattle.tap_lexer.specs.declared.fault.LexFault.TheVariants as fault
use Rattle.tap_lexer.specs.declared.classes.Class.{Class}
use Rattle.tap_lexer.specs.declared.classes.Class.TheVariants as class
use Rattle.tap_lexer.specs.declared.steps.Step.{Step}

-- the text comes to these tokens, or to this first offence
abbrev pub Answers : List ℕ → Result (List Token) LexFault → Type 0
Answers text (Ok tokens) = LexesTo text (Ok tokens)
Answers text (Err (fault.Refused refusal)) = LexesTo text (Err refusal)
Answers text (Err fault.NoMemory) = Unit {0}

-- these tokens stand in the text, or this first offence does
abbrev pub Shows : List ℕ → Result (List Token) LexFault → Type 0
Shows text (Ok tokens) = HasTokens text tokens
Shows text (Err (fault.Refused refusal)) = HasOffence text refusal
Shows text (Err fault.NoMemory) = Unit {0}

-- the bytes of a class
abbrev pub belongs : Class → ℕ → Bool
belongs class.Word b = in_word b
belongs class.Digit b = is_ascii_digit b
belongs class.Comment b = in_comment b

-- a word of the language, or a name
abbrev pub word_kind : List ℕ → TokenKind
word_kind bytes = if is_in words bytes then Word else Name

-- the longest token at the front of a text, if one stands there
abbrev pub Begins : List ℕ → Option (TokenKind × ℕ) → Type 0
Begins text None = NoToken text
Begins text (Some (kind, n)) = Longest kind n text

abbrev pub one_of : Option Token → List Token
one_of None = []
one_of (Some t) = t ∷ []

-- the outcome where a token, if there is one, stands before the rest
abbrev pub before_one : Option Token → Outcome → Outcome
before_one None r = r
before_one (Some t) r = before (t ∷ []) r

-- a step from one byte to another, with the token that it reads
pub record Goes (text : List ℕ) (at : ℕ) (p : Place) (s : Step) : Type 0 where
  pub within : s.at ≤ length text
  pub further : at < s.at
  pub line : s.place.line ≤ s.at + 1
  pub column : s.place.column ≤ s.at + 1
  pub goes : (r : Outcome) → Lexes s.at s.place (drop s.at text) r → Lexes at p (drop at text) (before_one s.token r)

abbrev pub Steps : List ℕ → ℕ → Place → Result Step Refusal → Type 0
Steps text at p (Ok s) = Goes text at p s
Steps text at p (Err refusal) = Lexes at p (drop at text) (Err refusal)
