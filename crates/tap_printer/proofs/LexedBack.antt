-- The tokens of a text of printed tokens are those.
use Rattle.std.proofs.Common.{◌≡◌, ℕ, ◌+◌, ◌-◌, ◌≤◌, ◌^◌, ℤ, pos, Bool, true, false, not, ◌&&◌, ◌||◌, ◌==◌, cond, if◌then◌else◌, nat_le, refl, sym, ◌∙◌, ap, subst, List, [], ◌∷◌, ◌++◌, length, take, drop, Option, Some, None, Ok, append_assoc, length-append, lt-ltb, arith}
use Rattle.std.specs.Char.{is_ascii_alphabetic, is_ascii_digit}
use Rattle.std.specs.List.{slice_range, prefix_len, list_all}
use Rattle.std.specs.Str.Parse.{digits_value}
use Rattle.std.proofs.Math.Seq.{take-append_seam, drop-append_seam}
use Rattle.std.proofs.Math.Seq.{take-nil}
use Rattle.std.proofs.lemmas.Bool.{le-leb}
use Rattle.tap_base.specs.declared.place.Place.{Place}
use Rattle.tap_base.specs.declared.token.Sign.{Sign}
use Rattle.tap_base.specs.declared.token.Token.{Token}
use Rattle.tap_base.specs.declared.token.TokenKind.{TokenKind}
use Rattle.tap_base.specs.declared.token.TokenKind.TheVariants.{Name, Number, Word, Symbol}
use Rattle.tap_lexer.specs.Bytes.{is_blank, in_word, start, after, along}
use Rattle.tap_lexer.specs.Lexeme.{lexemes}
use Rattle.tap_lexer.specs.Tokens.{AllPass, IsToken, Longest, value, Outcome, before, Lexes, SpellsTokens}
use Rattle.tap_lexer.specs.Tokens as lexing
use Rattle.tap_lexer.specs.Words.{words, symbols, is_in}
use Rattle.tap_lexer.specs.Words as listed
use Rattle.tap_lexer.specs.inner.Lexing.{word_kind}
use Rattle.tap_lexer.proofs.Pieces.{letter_in_word, word_longest, number_longest, two_longest, one_longest, starts_symbol}
use Rattle.tap_lexer.proofs.Shapes.{no_empty, all_pass}
use Rattle.tap_printer.specs.CanonicalLaws.{IsPrinted, Begins, none, next, ArePrinted}
use Rattle.tap_printer.specs.Printed.{Printed, mark, name, number, sign_of, bytes_of, spelling, Joint, line_feed, nothing, one_space, joint, joint_bytes, before_token, text_behind, text_of}
use Rattle.tap_printer.proofs.Apart.{SpelledAs, as_word, as_one, as_two, spelled_as, ends_at, feed_ends, space_ends, next_ends, Digits, digits_of}
use Rattle.tap_printer.proofs.Fitting.{may_follow, Fit, IsProper, AreProper}

-- ---- runs of bytes

not_false : (v : Bool) → not v ≡ true → v ≡ false
not_false true e = cc
not_false false e = refl

-- a run ends where its bytes do
run_ends : (p : ℕ → Bool) (w : List ℕ) (c : ℕ) (cs : List ℕ) → AllPass p w → not (p c) ≡ true → prefix_len p (w ++ c ∷ cs) ≡ length w
run_ends p [] c cs h e = ap (λ v. cond v (1 + prefix_len p cs) 0) (not_false (p c) e)
run_ends p (b ∷ w) c cs h e =
    let r = run_ends p w c cs h.1 e in
    ap (λ v. cond v (1 + prefix_len p (w ++ c ∷ cs)) 0) h.0 ∙ omega (arith, r)

no_digit : (c : ℕ) → not (in_word c) ≡ true → not (is_ascii_digit c) ≡ true
no_digit c = go (is_ascii_alphabetic c) (is_ascii_digit c) (c == 95)
  where
    go : (u v w : Bool) → not (u || (v || w)) ≡ true → not v ≡ true
    go true v w e = cc
    go false true w e = cc
    go false false w e = refl

-- ---- one token

-- the bytes w are the token that stands first, where c is the byte behind it
pub record IsFirst (t : Printed) (w : List ℕ) (c : ℕ) (cs : List ℕ) : Type 0 where
  pub kind : TokenKind
  pub val : ℤ
  pub longest : Longest kind (length w) (w ++ c ∷ cs)
  pub valued : value kind w ≡ Some val
  pub printed : (p : Place) → IsPrinted t (record { sign = listed.sign_of kind w; text = w; value = val; place = p })

word_first : (b : ℕ) (bs : List ℕ) (c : ℕ) (cs : List ℕ) → is_ascii_alphabetic b ≡ true → AllPass in_word bs → not (in_word c) ≡ true → Longest (word_kind (b ∷ bs)) (length (b ∷ bs)) ((b ∷ bs) ++ c ∷ cs)
word_first b bs c cs l h e =
    let text : List ℕ = (b ∷ bs) ++ c ∷ cs in
    let q : prefix_len in_word text ≡ length (b ∷ bs) = run_ends in_word (b ∷ bs) c cs (letter_in_word b l, h) e in
    subst (λ v. Longest (word_kind v) (length (b ∷ bs)) text) (take-append_seam (b ∷ bs) (c ∷ cs))
    (subst (λ n. Longest (word_kind (take n text)) n text) q (word_longest text b refl l))

name_first : (w : List ℕ) (c : ℕ) (cs : List ℕ) → IsToken Name w → not (in_word c) ≡ true → IsFirst (name w) w c cs
name_first [] c cs h e = absurd h
name_first (b ∷ bs) c cs h e = record {
  kind = Name;
  val = pos 0;
  longest = subst (λ k. Longest k (length (b ∷ bs)) ((b ∷ bs) ++ c ∷ cs)) (ap (λ v. if v then Word else Name) h.2) (word_first b bs c cs h.0 h.1 e);
  valued = refl;
  printed = λ p. (refl, refl);
}

number_first : (n : ℤ) (c : ℕ) (cs : List ℕ) (d : Digits n) → not (in_word c) ≡ true → IsFirst (number n) (d.first ∷ d.more) c cs
number_first n c cs d e =
    let w : List ℕ = d.first ∷ d.more in
    let text : List ℕ = w ++ c ∷ cs in
    let q : prefix_len is_ascii_digit text ≡ length w = run_ends is_ascii_digit w c cs d.digits (no_digit c e) in
    record {
      kind = Number;
      val = pos (digits_value 10 w);
      longest = subst (λ m. Longest Number m text) q (number_longest text d.first refl d.digits.0);
      valued = ap (λ v. if v then Some (pos (digits_value 10 w)) else None) (lt-ltb (digits_value 10 w) (2 ^ 63) d.within);
      printed = λ p. (refl, d.valued);
    }

short_enough : (n : ℕ) (w : List ℕ) → n ≤ length w → is_in symbols (take n w) ≡ true → starts_symbol w n ≡ true
short_enough n w h e = ap (λ v. v && is_in symbols (take n w)) (le-leb n (length w) h) ∙ e

no_symbol : (n : ℕ) (w : List ℕ) → is_in symbols (take n w) ≡ false → starts_symbol w n ≡ false
no_symbol n w e = ap (λ v. nat_le n (length w) && v) e ∙ never (nat_le n (length w))
  where
    never : (v : Bool) → (v && false) ≡ false
    never true = refl
    never false = refl

one_first : (s : Sign) (b c : ℕ) (cs : List ℕ) → is_ascii_alphabetic b ≡ false → is_ascii_digit b ≡ false → is_in symbols (b ∷ []) ≡ true → listed.sign_of Symbol (b ∷ []) ≡ s → not (is_in symbols (b ∷ c ∷ [])) ≡ true → IsFirst (mark s) (b ∷ []) c cs
one_first s b c cs l d i is e = record {
  kind = Symbol;
  val = pos 0;
  longest = one_longest (b ∷ c ∷ cs) b refl l d (no_symbol 2 (b ∷ c ∷ cs) (not_false (is_in symbols (b ∷ c ∷ [])) e)) (short_enough 1 (b ∷ c ∷ cs) (omega arith) i);
  valued = refl;
  printed = λ p. is;
}

two_first : (s : Sign) (b d c : ℕ) (cs : List ℕ) → is_ascii_alphabetic b ≡ false → is_ascii_digit b ≡ false → is_in symbols (b ∷ d ∷ []) ≡ true → listed.sign_of Symbol (b ∷ d ∷ []) ≡ s → IsFirst (mark s) (b ∷ d ∷ []) c cs
two_first s b d c cs l f i is = record {
  kind = Symbol;
  val = pos 0;
  longest = two_longest (b ∷ d ∷ c ∷ cs) b refl l f (short_enough 2 (b ∷ d ∷ c ∷ cs) (omega arith) i);
  valued = refl;
  printed = λ p. is;
}

spelled_first : (s : Sign) (b : ℕ) (bs : List ℕ) (c : ℕ) (cs : List ℕ) → is_ascii_alphabetic b ≡ true → list_all in_word bs ≡ true → is_in words (b ∷ bs) ≡ true → listed.sign_of Word (b ∷ bs) ≡ s → not (in_word c) ≡ true → IsFirst (mark s) (b ∷ bs) c cs
spelled_first s b bs c cs l h i is e = record {
  kind = Word;
  val = pos 0;
  longest = subst (λ k. Longest k (length (b ∷ bs)) ((b ∷ bs) ++ c ∷ cs)) (ap (λ v. if v then Word else Name) i) (word_first b bs c cs l (all_pass in_word bs h) e);
  valued = refl;
  printed = λ p. is;
}

mark_first : (s : Sign) (c : ℕ) (cs : List ℕ) → SpelledAs s → ends_at s c ≡ true → IsFirst (mark s) (spelling s) c cs
mark_first s c cs (as_word b bs k is l h i m) e =
    subst (λ w. IsFirst (mark s) w c cs) (sym is) (spelled_first s b bs c cs l h i m (sym (ap (λ v. if v then not (is_in symbols (spelling s ++ c ∷ [])) else not (in_word c)) k) ∙ e))
mark_first s c cs (as_one b k is l d i m) e =
    subst (λ w. IsFirst (mark s) w c cs) (sym is)
    (one_first s b c cs l d i m (ap (λ w. not (is_in symbols (w ++ c ∷ []))) (sym is) ∙ sym (ap (λ v. if v then not (is_in symbols (spelling s ++ c ∷ [])) else not (in_word c)) k) ∙ e))
mark_first s c cs (as_two b d k is l f i m) e = subst (λ w. IsFirst (mark s) w c cs) (sym is) (two_first s b d c cs l f i m)

first_token : (t : Printed) (c : ℕ) (cs : List ℕ) → IsProper t → ends_at (sign_of t) c ≡ true → IsFirst t (bytes_of t) c cs
first_token (mark s) c cs p e = mark_first s c cs (spelled_as s p) e
first_token (name w) c cs p e = name_first w c cs p e
first_token (number n) c cs p e = let d = digits_of n p in subst (λ w. IsFirst (number n) w c cs) (sym d.is) (number_first n c cs d e)

-- ---- the byte behind a token

pub record Cut (bs : List ℕ) : Type 0 where
  pub byte : ℕ
  pub more : List ℕ
  pub is : bs ≡ byte ∷ more

-- no token is without bytes
some_bytes : (t : Printed) → IsProper t → Cut (bytes_of t)
some_bytes (mark s) p = go (spelled_as s p)
  where
    go : SpelledAs s → Cut (spelling s)
    go (as_word b bs k is l h i m) = record { byte = b; more = bs; is = is }
    go (as_one b k is l d i m) = record { byte = b; more = []; is = is }
    go (as_two b d k is l f i m) = record { byte = b; more = d ∷ []; is = is }
some_bytes (name []) p = absurd p
some_bytes (name (b ∷ bs)) p = record { byte = b; more = bs; is = refl }
some_bytes (number n) p = let d = digits_of n p in record { byte = d.first; more = d.more; is = d.is }

-- what stands behind a token with the sign begins with a byte that ends it
pub record Ends (s : Sign) (bs : List ℕ) : Type 0 where
  pub cut : Cut bs
  pub ended : ends_at s cut.byte ≡ true

joint_ends : (s : Sign) (t : Printed) (rest : List ℕ) (j : Joint) → joint s (sign_of t) ≡ j → may_follow s (sign_of t) ≡ true → IsProper t → Ends s ((joint_bytes j ++ bytes_of t) ++ rest)
joint_ends s t rest line_feed e f p = record { cut = record { byte = 10; more = bytes_of t ++ rest; is = refl }; ended = feed_ends s }
joint_ends s t rest one_space e f p = record { cut = record { byte = 32; more = bytes_of t ++ rest; is = refl }; ended = space_ends s }
joint_ends s t rest nothing e f p =
    let b = some_bytes t p in
    record { cut = record { byte = b.byte; more = b.more ++ rest; is = ap (λ v. v ++ rest) b.is }; ended = next_ends s t b.byte b.more f p e b.is }

rest_ends : (s : Sign) (ts : List Printed) → Fit s ts → AreProper ts → Ends s (text_behind (Some s) ts)
rest_ends s [] f p = record { cut = record { byte = 10; more = []; is = refl }; ended = feed_ends s }
rest_ends s (t ∷ ts) f p = joint_ends s t (text_behind (Some (sign_of t)) ts) (joint s (sign_of t)) refl f.0 p.0

-- ---- all tokens

-- from the byte number at the bytes are these tokens of the text, which are the printed ones
pub record LexedFrom (text : List ℕ) (at : ℕ) (p : Place) (ts : List Printed) (bytes : List ℕ) : Type 0 where
  pub tokens : List Token
  pub lexes : Lexes at p bytes (Ok tokens)
  pub printed : Begins ts (lexemes text tokens) []

pub data IsGap : List ℕ → Type 0 where
  no_gap : IsGap []
  one_gap : (b : ℕ) → is_blank b ≡ true → IsGap (b ∷ [])

joint_gap : (j : Joint) → IsGap (joint_bytes j)
joint_gap line_feed = one_gap 10 refl
joint_gap nothing = no_gap
joint_gap one_space = one_gap 32 refl

before_gap : (last : Option Sign) (s : Sign) → IsGap (before_token last s)
before_gap None s = no_gap
before_gap (Some l) s = joint_gap (joint l s)

behind_gap : (text : List ℕ) (ts : List Printed) (bs : List ℕ) (g : List ℕ) → IsGap g → (at : ℕ) (p : Place) → ((n : ℕ) (q : Place) → n ≡ at + length g → LexedFrom text n q ts bs) → LexedFrom text at p ts (g ++ bs)
behind_gap text ts bs g no_gap at p h = h at p (omega arith)
behind_gap text ts bs g (one_gap b is) at p h =
    let r = h (at + 1) (after b p) refl in
    record { tokens = r.tokens; lexes = lexing.blank is r.lexes; printed = r.printed }

token_lexes : (all : List ℕ) (k : TokenKind) (n : ℕ) (v : ℤ) (at : ℕ) (p : Place) (r : Outcome) → Longest k n all → value k (take n all) ≡ Some v → Lexes (at + n) (along n p) (drop n all) r → Lexes at p all (before (record { kind = k; start = at; end = at + n; value = v; place = p } ∷ []) r)
token_lexes [] k n v at p r l e h = absurd (no_empty k (subst (λ w. IsToken k w) (take-nil n) l.token))
token_lexes (b ∷ bs) k n v at p r l e h = lexing.token l e h

slice_is : (text pre w rest : List ℕ) (at : ℕ) → text ≡ pre ++ (w ++ rest) → at ≡ length pre → slice_range text at (at + length w) ≡ w
slice_is text pre w rest at e a =
    let n : (at + length w) - at ≡ length w = omega arith in
    ap (λ m. take m (drop at text)) n
    ∙ ap (λ t. take (length w) (drop at t)) e
    ∙ ap (λ m. take (length w) (drop m (pre ++ (w ++ rest)))) a
    ∙ ap (take (length w)) (drop-append_seam pre (w ++ rest))
    ∙ take-append_seam w rest

token_step : (text : List ℕ) (t : Printed) (ts : List Printed) (w : List ℕ) (c : ℕ) (cs rest : List ℕ) (at : ℕ) (p : Place) → rest ≡ c ∷ cs → slice_range text at (at + length w) ≡ w → IsFirst t w c cs → LexedFrom text (at + length w) (along (length w) p) ts rest → LexedFrom text at p (t ∷ ts) (w ++ rest)
token_step text t ts w c cs rest at p e slice f r =
    let longest : Longest f.kind (length w) (w ++ rest) = subst (λ x. Longest f.kind (length w) (w ++ x)) (sym e) f.longest in
    let valued : value f.kind (take (length w) (w ++ rest)) ≡ Some f.val = ap (value f.kind) (take-append_seam w rest) ∙ f.valued in
    let more : Lexes (at + length w) (along (length w) p) (drop (length w) (w ++ rest)) (Ok r.tokens) = subst (λ x. Lexes (at + length w) (along (length w) p) x (Ok r.tokens)) (sym (drop-append_seam w rest)) r.lexes in
    let tok : Token = record { kind = f.kind; start = at; end = at + length w; value = f.val; place = p } in
    record {
      tokens = tok ∷ r.tokens;
      lexes = token_lexes (w ++ rest) f.kind (length w) f.val at p (Ok r.tokens) longest valued more;
      printed = next (subst (λ x. IsPrinted t (record { sign = listed.sign_of f.kind x; text = x; value = f.val; place = p })) (sym slice) (f.printed p)) r.printed;
    }

-- each token stays apart from the one behind it
abbrev Inner : List Printed → Type 0
Inner [] = Unit {0}
Inner (t ∷ ts) = Fit (sign_of t) ts

inner_rest : (s : Sign) (ts : List Printed) → Fit s ts → Inner ts
inner_rest s [] f = tt
inner_rest s (t ∷ ts) f = f.1

lexed : (ts : List Printed) (last : Option Sign) (text pre : List ℕ) (at : ℕ) (p : Place) → text ≡ pre ++ text_behind last ts → at ≡ length pre → Inner ts → AreProper ts → LexedFrom text at p ts (text_behind last ts)
lexed [] last text pre at p e a f proper = record { tokens = []; lexes = lexing.blank refl lexing.end; printed = none }
lexed (t ∷ ts) last text pre at p e a f proper =
    let s : Sign = sign_of t in
    let g : List ℕ = before_token last s in
    let w : List ℕ = bytes_of t in
    let rest : List ℕ = text_behind (Some s) ts in
    let ends : Ends s rest = rest_ends s ts f proper.1 in
    let first : IsFirst t w ends.cut.byte ends.cut.more = first_token t ends.cut.byte ends.cut.more proper.0 ends.ended in
    let here : text ≡ (pre ++ g) ++ (w ++ rest) = e ∙ ap (λ x. pre ++ x) (append_assoc g w rest) ∙ sym (append_assoc pre g (w ++ rest)) in
    let there : text ≡ ((pre ++ g) ++ w) ++ rest = here ∙ sym (append_assoc (pre ++ g) w rest) in
    let l = length-append pre g in
    let m = length-append (pre ++ g) w in
    subst (λ b. LexedFrom text at p (t ∷ ts) b) (sym (append_assoc g w rest))
    (behind_gap text (t ∷ ts) (w ++ rest) g (before_gap last s) at p (λ n q h.
    token_step text t ts w ends.cut.byte ends.cut.more rest n q ends.cut.is (slice_is text (pre ++ g) w rest n here (omega (arith, h, a, l))) first
    (lexed ts (Some s) text ((pre ++ g) ++ w) (n + length w) (along (length w) q) there (omega (arith, h, a, l, m)) (inner_rest s ts f) proper.1)))

pub text_lexed : (ts : List Printed) (s : Sign) → Fit s ts → AreProper ts → (tokens : List Token) × SpellsTokens (text_of ts) tokens × ArePrinted ts (lexemes (text_of ts) tokens)
text_lexed ts s f proper =
    let r = lexed ts None (text_of ts) [] 0 start refl refl (inner_rest s ts f) proper in
    (r.tokens, r.lexes, r.printed)
