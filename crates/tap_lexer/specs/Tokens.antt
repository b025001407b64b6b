-- The tokens of a text, or its first offence.
use Rattle.std.specs.Prelude.{◌≡◌, ℕ, ◌+◌, ◌≤◌, ◌^◌, ℤ, pos, Bool, true, false, if◌then◌else◌, nat_lt, List, [], ◌∷◌, ◌++◌, length, take, drop, Option, Some, None, Result, Ok, Err}
use Rattle.std.specs.Str.Parse.{digits_value}
use Rattle.std.specs.Char.{is_ascii_alphabetic, is_ascii_digit}
use Rattle.tap_base.specs.declared.place.Place.{Place}
use Rattle.tap_base.specs.declared.refusal.Refusal.{Refusal}
use Rattle.tap_base.specs.declared.refusal.RefusalCode.TheVariants as code
use Rattle.tap_base.specs.declared.token.TokenKind.{TokenKind}
use Rattle.tap_base.specs.declared.token.TokenKind.TheVariants.{Name, Number, Word, Symbol}
use Rattle.tap_base.specs.declared.token.Token.{Token}
use Rattle.tap_lexer.specs.Bytes.{is_blank, is_hash, is_line_feed, in_alphabet, in_comment, in_word, start, after, along}
use Rattle.tap_lexer.specs.Words.{words, symbols, is_in}

-- each of the bytes passes the test
abbrev pub AllPass : (ℕ → Bool) → List ℕ → Type 0
AllPass test [] = Unit {0}
AllPass test (b ∷ bs) = (test b ≡ true) × AllPass test bs

-- the bytes are a token of the kind
abbrev pub IsToken : TokenKind → List ℕ → Type 0
IsToken Name [] = ⊥
IsToken Name (b ∷ bs) = (is_ascii_alphabetic b ≡ true) × AllPass in_word bs × (is_in words (b ∷ bs) ≡ false)
IsToken Number [] = ⊥
IsToken Number (b ∷ bs) = (is_ascii_digit b ≡ true) × AllPass is_ascii_digit bs
IsToken Word bs = is_in words bs ≡ true
IsToken Symbol bs = is_in symbols bs ≡ true

-- the longest token at the front of the bytes is of the kind and has n bytes
pub record Longest (kind : TokenKind) (n : ℕ) (bytes : List ℕ) : Type 0 where
  pub within : n ≤ length bytes
  pub token : IsToken kind (take n bytes)
  pub greatest : (k : TokenKind) (m : ℕ) → m ≤ length bytes → IsToken k (take m bytes) → m ≤ n

-- no token stands at the front of the bytes
abbrev pub NoToken : List ℕ → Type 0
NoToken bytes = (k : TokenKind) (m : ℕ) → IsToken k (take m bytes) → ⊥

-- the value of a token: of a number what its digits say, if it is at most 9223372036854775807; 0 of every other kind
abbrev pub value : TokenKind → List ℕ → Option ℤ
value Number digits = if nat_lt (digits_value 10 digits) (2 ^ 63) then Some (pos (digits_value 10 digits)) else None
value kind bytes = Some (pos 0)

-- what a text comes to: its tokens, or its first offence
abbrev pub Outcome : Type 0
Outcome = Result (List Token) Refusal

-- the outcome of a text that begins with some tokens, by the outcome of what stands after them
abbrev pub before : List Token → Outcome → Outcome
before tokens (Ok more) = Ok (tokens ++ more)
before tokens (Err refusal) = Err refusal

-- a byte that is outside the alphabet, or at which nothing begins
abbrev pub unread : Place → Outcome
unread p = Err (record { code = code.L1; place = p })

-- a number that is too large, by the place of its first digit
abbrev pub too_large : Place → Outcome
too_large p = Err (record { code = code.L2; place = p })

mutual
  -- from the byte number at, which stands at the place p, the bytes come to this outcome
  pub data Lexes : ℕ → Place → List ℕ → Outcome → Type 0 where
    end : {at : ℕ} {p : Place} → Lexes at p [] (Ok [])
    blank : {at : ℕ} {p : Place} {b : ℕ} {bs : List ℕ} {r : Outcome} → is_blank b ≡ true → Lexes (at + 1) (after b p) bs r → Lexes at p (b ∷ bs) r
    hash : {at : ℕ} {p : Place} {b : ℕ} {bs : List ℕ} {r : Outcome} → is_hash b ≡ true → Comments (at + 1) (along 1 p) bs r → Lexes at p (b ∷ bs) r
    token : {at n : ℕ} {p : Place} {b : ℕ} {bs : List ℕ} {k : TokenKind} {v : ℤ} {r : Outcome} → Longest k n (b ∷ bs) → value k (take n (b ∷ bs)) ≡ Some v → Lexes (at + n) (along n p) (drop n (b ∷ bs)) r →
        Lexes at p (b ∷ bs) (before (record { kind = k; start = at; end = at + n; value = v; place = p } ∷ []) r)
    large : {at n : ℕ} {p : Place} {b : ℕ} {bs : List ℕ} → Longest Number n (b ∷ bs) → value Number (take n (b ∷ bs)) ≡ None → Lexes at p (b ∷ bs) (too_large p)
    odd : {at : ℕ} {p : Place} {b : ℕ} {bs : List ℕ} → is_blank b ≡ false → is_hash b ≡ false → NoToken (b ∷ bs) → Lexes at p (b ∷ bs) (unread p)

  -- the same inside a comment
  pub data Comments : ℕ → Place → List ℕ → Outcome → Type 0 where
    over : {at : ℕ} {p : Place} → Comments at p [] (Ok [])
    line : {at : ℕ} {p : Place} {b : ℕ} {bs : List ℕ} {r : Outcome} → is_line_feed b ≡ true → Lexes at p (b ∷ bs) r → Comments at p (b ∷ bs) r
    inside : {at : ℕ} {p : Place} {b : ℕ} {bs : List ℕ} {r : Outcome} → in_comment b ≡ true → Comments (at + 1) (along 1 p) bs r → Comments at p (b ∷ bs) r
    foreign : {at : ℕ} {p : Place} {b : ℕ} {bs : List ℕ} → in_alphabet b ≡ false → Comments at p (b ∷ bs) (unread p)

-- a whole text comes to this outcome
abbrev pub LexesTo : List ℕ → Outcome → Type 0
LexesTo text result = Lexes 0 start text result

-- a text spells these tokens
abbrev pub SpellsTokens : List ℕ → List Token → Type 0
SpellsTokens text tokens = LexesTo text (Ok tokens)

-- a text has at most one outcome
abbrev pub OneOutcome : Type 0
OneOutcome = (text : List ℕ) (r s : Outcome) → LexesTo text r → LexesTo text s → r ≡ s
