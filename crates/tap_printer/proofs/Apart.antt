-- Words and symbols as they are spelled, and what may stand behind them.
use Rattle.std.proofs.Common.{◌≡◌, ℕ, ◌<◌, ◌≤◌, ◌^◌, ℤ, pos, length, Bool, true, false, not, ◌||◌, ◌==◌, if◌then◌else◌, refl, sym, ◌∙◌, ap, subst, List, [], ◌∷◌, ◌++◌, arith}
use Rattle.std.specs.Char.{is_ascii_alphabetic, is_ascii_digit}
use Rattle.std.specs.Fmt.{decimal, signed_decimal}
use Rattle.std.specs.List.{list_all}
use Rattle.std.specs.Str.Parse.{digits_value, AllDigits}
use Rattle.std.proofs.lemmas.Fmt.{decimal_is_IsNumeral}
use Rattle.std.proofs.lemmas.Str.Parse.{digit_from_value}
use Rattle.std.proofs.lemmas.Bool.Decides.{nat_tests}
use Rattle.tap_base.specs.declared.token.Sign.{Sign}
use Rattle.tap_base.specs.declared.token.Sign.TheVariants as sign
use Rattle.tap_base.specs.declared.token.TokenKind.TheVariants.{Name, Word, Symbol}
use Rattle.tap_lexer.specs.Bytes.{in_word}
use Rattle.tap_lexer.specs.Tokens.{AllPass, IsToken}
use Rattle.tap_lexer.specs.Words.{words, symbols, is_in}
use Rattle.tap_lexer.specs.Words as listed
use Rattle.tap_lexer.proofs.Shapes.{symbol_short}
use Rattle.tap_lexer.proofs.Tables.{listed_passes}
use Rattle.tap_printer.specs.Printed.{Printed, mark, name, number, sign_of, bytes_of, spelling, line_feed, nothing, one_space, joins_after, joint}
use Rattle.tap_printer.proofs.Fitting.{is_spelled, may_follow, IsRead, IsProper}

abbrev pub is_symbol : Sign → Bool
is_symbol sign.Becomes = true
is_symbol sign.Span = true
is_symbol sign.Dot = true
is_symbol sign.Arrow = true
is_symbol sign.Box = true
is_symbol sign.OpenIndex = true
is_symbol sign.CloseIndex = true
is_symbol sign.Open = true
is_symbol sign.Close = true
is_symbol sign.Comma = true
is_symbol sign.Semicolon = true
is_symbol sign.Colon = true
is_symbol sign.Equal = true
is_symbol sign.NotEqual = true
is_symbol sign.Less = true
is_symbol sign.LessEqual = true
is_symbol sign.Greater = true
is_symbol sign.GreaterEqual = true
is_symbol sign.Plus = true
is_symbol sign.Minus = true
is_symbol sign.Star = true
is_symbol _ = false

-- a word by its letters, or a symbol by its byte or its two
pub data SpelledAs (s : Sign) : Type 0 where
  as_word : (b : ℕ) (bs : List ℕ) → is_symbol s ≡ false → spelling s ≡ b ∷ bs → is_ascii_alphabetic b ≡ true → list_all in_word bs ≡ true → is_in words (b ∷ bs) ≡ true → listed.sign_of Word (b ∷ bs) ≡ s → SpelledAs s
  as_one : (b : ℕ) → is_symbol s ≡ true → spelling s ≡ b ∷ [] → is_ascii_alphabetic b ≡ false → is_ascii_digit b ≡ false → is_in symbols (b ∷ []) ≡ true → listed.sign_of Symbol (b ∷ []) ≡ s → SpelledAs s
  as_two : (b c : ℕ) → is_symbol s ≡ true → spelling s ≡ b ∷ c ∷ [] → is_ascii_alphabetic b ≡ false → is_ascii_digit b ≡ false → is_in symbols (b ∷ c ∷ []) ≡ true → listed.sign_of Symbol (b ∷ c ∷ []) ≡ s → SpelledAs s

pub spelled_as : (s : Sign) → is_spelled s ≡ true → SpelledAs s
spelled_as sign.Message h = as_word 109 (101 ∷ 115 ∷ 115 ∷ 97 ∷ 103 ∷ 101 ∷ []) refl refl refl refl refl refl
spelled_as sign.Begin h = as_word 98 (101 ∷ 103 ∷ 105 ∷ 110 ∷ []) refl refl refl refl refl refl
spelled_as sign.End h = as_word 101 (110 ∷ 100 ∷ []) refl refl refl refl refl refl
spelled_as sign.Bits h = as_word 98 (105 ∷ 116 ∷ 115 ∷ []) refl refl refl refl refl refl
spelled_as sign.Process h = as_word 112 (114 ∷ 111 ∷ 99 ∷ 101 ∷ 115 ∷ 115 ∷ []) refl refl refl refl refl refl
spelled_as sign.Const h = as_word 99 (111 ∷ 110 ∷ 115 ∷ 116 ∷ []) refl refl refl refl refl refl
spelled_as sign.Inp h = as_word 105 (110 ∷ 112 ∷ []) refl refl refl refl refl refl
spelled_as sign.Var h = as_word 118 (97 ∷ 114 ∷ []) refl refl refl refl refl refl
spelled_as sign.Timer h = as_word 116 (105 ∷ 109 ∷ 101 ∷ 114 ∷ []) refl refl refl refl refl refl
spelled_as sign.Boolean h = as_word 98 (111 ∷ 111 ∷ 108 ∷ 101 ∷ 97 ∷ 110 ∷ []) refl refl refl refl refl refl
spelled_as sign.Array h = as_word 97 (114 ∷ 114 ∷ 97 ∷ 121 ∷ []) refl refl refl refl refl refl
spelled_as sign.Of h = as_word 111 (102 ∷ []) refl refl refl refl refl refl
spelled_as sign.Rcv h = as_word 114 (99 ∷ 118 ∷ []) refl refl refl refl refl refl
spelled_as sign.From h = as_word 102 (114 ∷ 111 ∷ 109 ∷ []) refl refl refl refl refl refl
spelled_as sign.Timeout h = as_word 116 (105 ∷ 109 ∷ 101 ∷ 111 ∷ 117 ∷ 116 ∷ []) refl refl refl refl refl refl
spelled_as sign.Skip h = as_word 115 (107 ∷ 105 ∷ 112 ∷ []) refl refl refl refl refl refl
spelled_as sign.Choose h = as_word 99 (104 ∷ 111 ∷ 111 ∷ 115 ∷ 101 ∷ []) refl refl refl refl refl refl
spelled_as sign.Send h = as_word 115 (101 ∷ 110 ∷ 100 ∷ []) refl refl refl refl refl refl
spelled_as sign.To h = as_word 116 (111 ∷ []) refl refl refl refl refl refl
spelled_as sign.Start h = as_word 115 (116 ∷ 97 ∷ 114 ∷ 116 ∷ []) refl refl refl refl refl refl
spelled_as sign.After h = as_word 97 (102 ∷ 116 ∷ 101 ∷ 114 ∷ []) refl refl refl refl refl refl
spelled_as sign.Stop h = as_word 115 (116 ∷ 111 ∷ 112 ∷ []) refl refl refl refl refl refl
spelled_as sign.If h = as_word 105 (102 ∷ []) refl refl refl refl refl refl
spelled_as sign.Fi h = as_word 102 (105 ∷ []) refl refl refl refl refl refl
spelled_as sign.Do h = as_word 100 (111 ∷ []) refl refl refl refl refl refl
spelled_as sign.Times h = as_word 116 (105 ∷ 109 ∷ 101 ∷ 115 ∷ []) refl refl refl refl refl refl
spelled_as sign.Od h = as_word 111 (100 ∷ []) refl refl refl refl refl refl
spelled_as sign.And h = as_word 97 (110 ∷ 100 ∷ []) refl refl refl refl refl refl
spelled_as sign.Or h = as_word 111 (114 ∷ []) refl refl refl refl refl refl
spelled_as sign.Not h = as_word 110 (111 ∷ 116 ∷ []) refl refl refl refl refl refl
spelled_as sign.Div h = as_word 100 (105 ∷ 118 ∷ []) refl refl refl refl refl refl
spelled_as sign.Mod h = as_word 109 (111 ∷ 100 ∷ []) refl refl refl refl refl refl
spelled_as sign.Min h = as_word 109 (105 ∷ 110 ∷ []) refl refl refl refl refl refl
spelled_as sign.Max h = as_word 109 (97 ∷ 120 ∷ []) refl refl refl refl refl refl
spelled_as sign.True h = as_word 116 (114 ∷ 117 ∷ 101 ∷ []) refl refl refl refl refl refl
spelled_as sign.False h = as_word 102 (97 ∷ 108 ∷ 115 ∷ 101 ∷ []) refl refl refl refl refl refl
spelled_as sign.Becomes h = as_two 58 61 refl refl refl refl refl refl
spelled_as sign.Span h = as_two 46 46 refl refl refl refl refl refl
spelled_as sign.Dot h = as_one 46 refl refl refl refl refl refl
spelled_as sign.Arrow h = as_two 45 62 refl refl refl refl refl refl
spelled_as sign.Box h = as_two 91 93 refl refl refl refl refl refl
spelled_as sign.OpenIndex h = as_one 91 refl refl refl refl refl refl
spelled_as sign.CloseIndex h = as_one 93 refl refl refl refl refl refl
spelled_as sign.Open h = as_one 40 refl refl refl refl refl refl
spelled_as sign.Close h = as_one 41 refl refl refl refl refl refl
spelled_as sign.Comma h = as_one 44 refl refl refl refl refl refl
spelled_as sign.Semicolon h = as_one 59 refl refl refl refl refl refl
spelled_as sign.Colon h = as_one 58 refl refl refl refl refl refl
spelled_as sign.Equal h = as_one 61 refl refl refl refl refl refl
spelled_as sign.NotEqual h = as_two 33 61 refl refl refl refl refl refl
spelled_as sign.Less h = as_one 60 refl refl refl refl refl refl
spelled_as sign.LessEqual h = as_two 60 61 refl refl refl refl refl refl
spelled_as sign.Greater h = as_one 62 refl refl refl refl refl refl
spelled_as sign.GreaterEqual h = as_two 62 61 refl refl refl refl refl refl
spelled_as sign.Plus h = as_one 43 refl refl refl refl refl refl
spelled_as sign.Minus h = as_one 45 refl refl refl refl refl refl
spelled_as sign.Star h = as_one 42 refl refl refl refl refl refl
spelled_as sign.Name h = absurd cc
spelled_as sign.Number h = absurd cc

-- ---- the byte behind

-- whether the byte does not go on a token of the sign
abbrev pub ends_at : Sign → ℕ → Bool
ends_at s c = if is_symbol s then not (is_in symbols (spelling s ++ c ∷ [])) else not (in_word c)

not_listed : (v : Bool) → (v ≡ true → ⊥) → not v ≡ true
not_listed true h = absurd (h refl)
not_listed false h = refl

-- of the symbols of two bytes, the second
second_byte : List ℕ → Bool
second_byte (b ∷ c ∷ []) = (c == 61) || ((c == 46) || ((c == 62) || (c == 93)))
second_byte _ = true

first_byte : List ℕ → Bool
first_byte (b ∷ c ∷ []) = not (b == 40)
first_byte _ = true

seconds : (b c : ℕ) → is_in symbols (b ∷ c ∷ []) ≡ true → second_byte (b ∷ c ∷ []) ≡ true
unfolding second_byte
seconds b c e = listed_passes second_byte symbols (b ∷ c ∷ []) refl e

firsts : (b c : ℕ) → is_in symbols (b ∷ c ∷ []) ≡ true → first_byte (b ∷ c ∷ []) ≡ true
unfolding first_byte
firsts b c e = listed_passes first_byte symbols (b ∷ c ∷ []) refl e

letter_no_second : (c : ℕ) → is_ascii_alphabetic c ≡ true → ((c == 61) || ((c == 46) || ((c == 62) || (c == 93)))) ≡ true → ⊥
letter_no_second c h e = grind (arith, nat_tests)

digit_no_second : (c : ℕ) → is_ascii_digit c ≡ true → ((c == 61) || ((c == 46) || ((c == 62) || (c == 93)))) ≡ true → ⊥
digit_no_second c h e = grind (arith, nat_tests)

letter_apart : (b c : ℕ) → is_ascii_alphabetic c ≡ true → not (is_in symbols (b ∷ c ∷ [])) ≡ true
unfolding second_byte
letter_apart b c h = not_listed (is_in symbols (b ∷ c ∷ [])) (λ e. letter_no_second c h (seconds b c e))

digit_apart : (b c : ℕ) → is_ascii_digit c ≡ true → not (is_in symbols (b ∷ c ∷ [])) ≡ true
unfolding second_byte
digit_apart b c h = not_listed (is_in symbols (b ∷ c ∷ [])) (λ e. digit_no_second c h (seconds b c e))

open_apart : (c : ℕ) → not (is_in symbols (40 ∷ c ∷ [])) ≡ true
unfolding first_byte
open_apart c = not_listed (is_in symbols (40 ∷ c ∷ [])) (λ e. go (firsts 40 c e))
  where
    go : false ≡ true → ⊥
    go e = absurd cc

span_apart : (c : ℕ) → not (is_in symbols (46 ∷ 46 ∷ c ∷ [])) ≡ true
span_apart c = not_listed (is_in symbols (46 ∷ 46 ∷ c ∷ [])) (λ e. symbol_short 46 46 c [] e)

pub feed_ends : (s : Sign) → ends_at s 10 ≡ true
feed_ends sign.Message = refl
feed_ends sign.Begin = refl
feed_ends sign.End = refl
feed_ends sign.Bits = refl
feed_ends sign.Process = refl
feed_ends sign.Const = refl
feed_ends sign.Inp = refl
feed_ends sign.Var = refl
feed_ends sign.Timer = refl
feed_ends sign.Boolean = refl
feed_ends sign.Array = refl
feed_ends sign.Of = refl
feed_ends sign.Rcv = refl
feed_ends sign.From = refl
feed_ends sign.Timeout = refl
feed_ends sign.Skip = refl
feed_ends sign.Choose = refl
feed_ends sign.Send = refl
feed_ends sign.To = refl
feed_ends sign.Start = refl
feed_ends sign.After = refl
feed_ends sign.Stop = refl
feed_ends sign.If = refl
feed_ends sign.Fi = refl
feed_ends sign.Do = refl
feed_ends sign.Times = refl
feed_ends sign.Od = refl
feed_ends sign.And = refl
feed_ends sign.Or = refl
feed_ends sign.Not = refl
feed_ends sign.Div = refl
feed_ends sign.Mod = refl
feed_ends sign.Min = refl
feed_ends sign.Max = refl
feed_ends sign.True = refl
feed_ends sign.False = refl
feed_ends sign.Becomes = refl
feed_ends sign.Span = refl
feed_ends sign.Dot = refl
feed_ends sign.Arrow = refl
feed_ends sign.Box = refl
feed_ends sign.OpenIndex = refl
feed_ends sign.CloseIndex = refl
feed_ends sign.Open = refl
feed_ends sign.Close = refl
feed_ends sign.Comma = refl
feed_ends sign.Semicolon = refl
feed_ends sign.Colon = refl
feed_ends sign.Equal = refl
feed_ends sign.NotEqual = refl
feed_ends sign.Less = refl
feed_ends sign.LessEqual = refl
feed_ends sign.Greater = refl
feed_ends sign.GreaterEqual = refl
feed_ends sign.Plus = refl
feed_ends sign.Minus = refl
feed_ends sign.Star = refl
feed_ends sign.Name = refl
feed_ends sign.Number = refl

pub space_ends : (s : Sign) → ends_at s 32 ≡ true
space_ends sign.Message = refl
space_ends sign.Begin = refl
space_ends sign.End = refl
space_ends sign.Bits = refl
space_ends sign.Process = refl
space_ends sign.Const = refl
space_ends sign.Inp = refl
space_ends sign.Var = refl
space_ends sign.Timer = refl
space_ends sign.Boolean = refl
space_ends sign.Array = refl
space_ends sign.Of = refl
space_ends sign.Rcv = refl
space_ends sign.From = refl
space_ends sign.Timeout = refl
space_ends sign.Skip = refl
space_ends sign.Choose = refl
space_ends sign.Send = refl
space_ends sign.To = refl
space_ends sign.Start = refl
space_ends sign.After = refl
space_ends sign.Stop = refl
space_ends sign.If = refl
space_ends sign.Fi = refl
space_ends sign.Do = refl
space_ends sign.Times = refl
space_ends sign.Od = refl
space_ends sign.And = refl
space_ends sign.Or = refl
space_ends sign.Not = refl
space_ends sign.Div = refl
space_ends sign.Mod = refl
space_ends sign.Min = refl
space_ends sign.Max = refl
space_ends sign.True = refl
space_ends sign.False = refl
space_ends sign.Becomes = refl
space_ends sign.Span = refl
space_ends sign.Dot = refl
space_ends sign.Arrow = refl
space_ends sign.Box = refl
space_ends sign.OpenIndex = refl
space_ends sign.CloseIndex = refl
space_ends sign.Open = refl
space_ends sign.Close = refl
space_ends sign.Comma = refl
space_ends sign.Semicolon = refl
space_ends sign.Colon = refl
space_ends sign.Equal = refl
space_ends sign.NotEqual = refl
space_ends sign.Less = refl
space_ends sign.LessEqual = refl
space_ends sign.Greater = refl
space_ends sign.GreaterEqual = refl
space_ends sign.Plus = refl
space_ends sign.Minus = refl
space_ends sign.Star = refl
space_ends sign.Name = refl
space_ends sign.Number = refl

dot_ends : (s : Sign) → may_follow s sign.Dot ≡ true → ends_at s 46 ≡ true
dot_ends sign.Dot h = absurd cc
dot_ends sign.OpenIndex h = absurd cc
dot_ends sign.Min h = absurd cc
dot_ends sign.Max h = absurd cc
dot_ends _ h = refl

span_ends : (s : Sign) → may_follow s sign.Span ≡ true → ends_at s 46 ≡ true
span_ends sign.Dot h = absurd cc
span_ends sign.OpenIndex h = absurd cc
span_ends sign.Min h = absurd cc
span_ends sign.Max h = absurd cc
span_ends _ h = refl

comma_ends : (s : Sign) → may_follow s sign.Comma ≡ true → ends_at s 44 ≡ true
comma_ends sign.Dot h = absurd cc
comma_ends sign.OpenIndex h = absurd cc
comma_ends sign.Min h = absurd cc
comma_ends sign.Max h = absurd cc
comma_ends _ h = refl

semicolon_ends : (s : Sign) → may_follow s sign.Semicolon ≡ true → ends_at s 59 ≡ true
semicolon_ends sign.Dot h = absurd cc
semicolon_ends sign.OpenIndex h = absurd cc
semicolon_ends sign.Min h = absurd cc
semicolon_ends sign.Max h = absurd cc
semicolon_ends _ h = refl

close_ends : (s : Sign) → may_follow s sign.Close ≡ true → ends_at s 41 ≡ true
close_ends sign.Dot h = absurd cc
close_ends sign.OpenIndex h = absurd cc
close_ends sign.Min h = absurd cc
close_ends sign.Max h = absurd cc
close_ends _ h = refl

close_index_ends : (s : Sign) → may_follow s sign.CloseIndex ≡ true → ends_at s 93 ≡ true
close_index_ends sign.Dot h = absurd cc
close_index_ends sign.OpenIndex h = absurd cc
close_index_ends sign.Min h = absurd cc
close_index_ends sign.Max h = absurd cc
close_index_ends _ h = refl

-- the first byte, where two lists are one
first_is : {b c : ℕ} {bs cs : List ℕ} (P : ℕ → Type 0) → b ∷ bs ≡ c ∷ cs → P b → P c
first_is {b} {c} P e h = let q : b ≡ c = cc in subst P q h

-- nothing stands between only because of the first
after_only : (s : Sign) → (if joins_after s then nothing else one_space) ≡ nothing → joins_after s ≡ true
after_only s = go (joins_after s)
  where
    go : (v : Bool) → (if v then nothing else one_space) ≡ nothing → v ≡ true
    go true e = refl
    go false e = cc

no_spelled_name : (u : Sign) → is_spelled u ≡ true → may_follow sign.Dot u ≡ true → ⊥
no_spelled_name sign.Name h f = absurd cc
no_spelled_name _ h f = absurd cc

index_mark : (u : Sign) (c : ℕ) (cs : List ℕ) → may_follow sign.OpenIndex u ≡ true → is_spelled u ≡ true → spelling u ≡ c ∷ cs → ends_at sign.OpenIndex c ≡ true
index_mark sign.Not c cs f p e = first_is (λ v. ends_at sign.OpenIndex v ≡ true) e refl
index_mark sign.Minus c cs f p e = first_is (λ v. ends_at sign.OpenIndex v ≡ true) e refl
index_mark sign.True c cs f p e = first_is (λ v. ends_at sign.OpenIndex v ≡ true) e refl
index_mark sign.False c cs f p e = first_is (λ v. ends_at sign.OpenIndex v ≡ true) e refl
index_mark sign.Min c cs f p e = first_is (λ v. ends_at sign.OpenIndex v ≡ true) e refl
index_mark sign.Max c cs f p e = first_is (λ v. ends_at sign.OpenIndex v ≡ true) e refl
index_mark sign.Open c cs f p e = first_is (λ v. ends_at sign.OpenIndex v ≡ true) e refl
index_mark sign.Name c cs f p e = absurd cc
index_mark sign.Number c cs f p e = absurd cc
index_mark _ c cs f p e = absurd cc

open_only : (u : Sign) (c : ℕ) (cs : List ℕ) → may_follow sign.Min u ≡ true → spelling u ≡ c ∷ cs → not (in_word c) ≡ true
open_only sign.Open c cs f e = first_is (λ v. not (in_word v) ≡ true) e refl
open_only _ c cs f e = absurd cc

mark_behind : (s u : Sign) (c : ℕ) (cs : List ℕ) → joins_after s ≡ true → may_follow s u ≡ true → is_spelled u ≡ true → spelling u ≡ c ∷ cs → ends_at s c ≡ true
mark_behind sign.Dot u c cs j f p e = absurd (no_spelled_name u p f)
mark_behind sign.Span u c cs j f p e = span_apart c
mark_behind sign.Open u c cs j f p e = open_apart c
mark_behind sign.OpenIndex u c cs j f p e = index_mark u c cs f p e
mark_behind sign.Min u c cs j f p e = open_only u c cs f e
mark_behind sign.Max u c cs j f p e = open_only u c cs f e
mark_behind _ u c cs j f p e = absurd cc

no_joint : {P : Type 0} → line_feed ≡ nothing → P
no_joint e = absurd (go e)
  where
    go : line_feed ≡ nothing → ⊥
    go e = absurd cc

next_mark : (s u : Sign) (c : ℕ) (cs : List ℕ) → may_follow s u ≡ true → is_spelled u ≡ true → joint s u ≡ nothing → spelling u ≡ c ∷ cs → ends_at s c ≡ true
next_mark s sign.Dot c cs f p j e = first_is (λ v. ends_at s v ≡ true) e (dot_ends s f)
next_mark s sign.Span c cs f p j e = first_is (λ v. ends_at s v ≡ true) e (span_ends s f)
next_mark s sign.Comma c cs f p j e = first_is (λ v. ends_at s v ≡ true) e (comma_ends s f)
next_mark s sign.Semicolon c cs f p j e = first_is (λ v. ends_at s v ≡ true) e (semicolon_ends s f)
next_mark s sign.Close c cs f p j e = first_is (λ v. ends_at s v ≡ true) e (close_ends s f)
next_mark s sign.CloseIndex c cs f p j e = first_is (λ v. ends_at s v ≡ true) e (close_index_ends s f)
next_mark s sign.Message c cs f p j e = no_joint j
next_mark s sign.Process c cs f p j e = no_joint j
next_mark s sign.Const c cs f p j e = no_joint j
next_mark s sign.Inp c cs f p j e = no_joint j
next_mark s sign.Var c cs f p j e = no_joint j
next_mark s sign.Timer c cs f p j e = no_joint j
next_mark s sign.Begin c cs f p j e = no_joint j
next_mark s sign.End c cs f p j e = no_joint j
next_mark s sign.Box c cs f p j e = no_joint j
next_mark s u c cs f p j e = mark_behind s u c cs (after_only s j) f p e

letter_behind : (s : Sign) (c : ℕ) → joins_after s ≡ true → may_follow s sign.Name ≡ true → is_ascii_alphabetic c ≡ true → ends_at s c ≡ true
letter_behind sign.Dot c j f h = letter_apart 46 c h
letter_behind sign.Span c j f h = span_apart c
letter_behind sign.Open c j f h = open_apart c
letter_behind sign.OpenIndex c j f h = letter_apart 91 c h
letter_behind sign.Min c j f h = absurd cc
letter_behind sign.Max c j f h = absurd cc
letter_behind _ c j f h = absurd cc

digit_behind : (s : Sign) (c : ℕ) → joins_after s ≡ true → may_follow s sign.Number ≡ true → is_ascii_digit c ≡ true → ends_at s c ≡ true
digit_behind sign.Dot c j f h = absurd cc
digit_behind sign.Span c j f h = span_apart c
digit_behind sign.Open c j f h = open_apart c
digit_behind sign.OpenIndex c j f h = digit_apart 91 c h
digit_behind sign.Min c j f h = absurd cc
digit_behind sign.Max c j f h = absurd cc
digit_behind _ c j f h = absurd cc

-- ---- digits

digit_value : (b : ℕ) → 48 ≤ b → b ≤ 57 → is_ascii_digit b ≡ true
digit_value b h k = grind (arith, nat_tests)

all_digits : (ds : List ℕ) → AllDigits 10 ds → AllPass is_ascii_digit ds
all_digits [] h = tt
all_digits (x ∷ xs) h = let r = digit_from_value x h.0 in (digit_value x r.0 (omega (arith, r)), all_digits xs h.1)

-- a number as it is printed: digits, of that value
pub record Digits (n : ℤ) : Type 0 where
  pub first : ℕ
  pub more : List ℕ
  pub is : signed_decimal n ≡ first ∷ more
  pub digits : AllPass is_ascii_digit (first ∷ more)
  pub valued : pos (digits_value 10 (first ∷ more)) ≡ n
  pub within : digits_value 10 (first ∷ more) < 2 ^ 63

pub digits_of : (n : ℤ) → IsRead n → Digits n
digits_of n r = subst Digits (sym r.is) (go (decimal r.digits) refl)
  where
    wide : r.digits < 2 ^ 64
    wide = let w = r.within in omega (arith, w)

    go : (ds : List ℕ) → decimal r.digits ≡ ds → Digits (pos r.digits)
    go [] e = let d = decimal_is_IsNumeral r.digits wide in let l = d.0.0 in let z : length (decimal r.digits) ≡ 0 = ap length e in absurd (omega (arith, l, z))
    go (b ∷ bs) e =
        let d = decimal_is_IsNumeral r.digits wide in
        let v : digits_value 10 (b ∷ bs) ≡ r.digits = ap (digits_value 10) (sym e) ∙ d.1 in
        let w = r.within in
        record {
          first = b;
          more = bs;
          is = e;
          digits = all_digits (b ∷ bs) (subst (λ x. AllDigits 10 x) e d.0.1);
          valued = ap pos v;
          within = omega (arith, v, w);
        }

-- the first byte of a token that may stand right behind one with the sign
pub next_ends : (s : Sign) (t : Printed) (c : ℕ) (cs : List ℕ) → may_follow s (sign_of t) ≡ true → IsProper t → joint s (sign_of t) ≡ nothing → bytes_of t ≡ c ∷ cs → ends_at s c ≡ true
next_ends s (mark u) c cs f p j e = next_mark s u c cs f p j e
next_ends s (name t) c cs f p j e = letter_behind s c (after_only s j) f (subst (λ v. IsToken Name v) e p).0
next_ends s (number n) c cs f p j e =
    let d = digits_of n p in
    digit_behind s c (after_only s j) f (subst (λ v. AllPass is_ascii_digit v) (sym d.is ∙ e) d.digits).0
