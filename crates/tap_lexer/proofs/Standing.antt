-- What is read from left to right stands in the text.
use Rattle.std.proofs.Common.{◌≡◌, ℕ, suc, ◌+◌, ◌-◌, ◌≤◌, Bool, true, false, refl, sym, ◌∙◌, ap, subst, List, [], ◌∷◌, ◌++◌, Some, None, Result, Ok, Err, take, drop, length, ℤ, arith}
use Rattle.std.specs.List.{slice_range, list_all}
use Rattle.std.proofs.Math.Seq.{take-nil}
use Rattle.std.proofs.lemmas.List.{drop-drop, length-drop}
use Rattle.std.specs.Char.{is_ascii_alphabetic, is_ascii_digit}
use Rattle.std.proofs.lemmas.Bool.Decides.{nat_tests}
use Rattle.tap_base.specs.declared.place.Place.{Place}
use Rattle.tap_base.specs.declared.refusal.Refusal.{Refusal}
use Rattle.tap_base.specs.declared.token.TokenKind.{TokenKind}
use Rattle.tap_base.specs.declared.token.TokenKind.TheVariants.{Name, Number, Word, Symbol}
use Rattle.tap_base.specs.declared.token.Token.{Token}
use Rattle.tap_base.proofs.ListFacts.{behind_first}
use Rattle.tap_lexer.specs.Bytes.{is_blank, is_hash, is_line_feed, in_alphabet, in_comment, in_word, along, after}
use Rattle.tap_lexer.specs.Words.{symbols}
use Rattle.tap_lexer.specs.Tokens.{Lexes, Comments, Outcome, end, blank, hash, token, large, odd, over, line, inside, foreign, before, unread, too_large, AllPass, Longest, NoToken, IsToken, value, LexesTo}
use Rattle.tap_lexer.specs.TokenSpans as span
use Rattle.tap_lexer.specs.TokenSpans.{place_of, Side, Gap, nothing, begun, blank_more, comment_more, HasToken, Stand, OffenceAt, HasTokens, HasOffence}
use Rattle.tap_lexer.specs.declared.fault.LexFault.{LexFault}
use Rattle.tap_lexer.specs.declared.fault.LexFault.TheVariants as fault
use Rattle.tap_lexer.specs.inner.Lexing.{Answers, Shows}
use Rattle.tap_lexer.proofs.One.{blank_hash, blank_token}
use Rattle.tap_lexer.proofs.Places.{on_line, below, got, place_after, place_along_one, place_along, hash_on_line, comment_on_line}
use Rattle.tap_lexer.proofs.Shapes.{all_pass, word_letter, word_goes}
use Rattle.tap_lexer.proofs.Tables.{listed_passes}

-- ---- gaps

-- what stands behind a comment's first bytes, up to the end of a gap
data Tail : Side → List ℕ → Type 0 where
  goes_on : {bs : List ℕ} → AllPass in_comment bs → Tail span.inside bs
  ends : {s : Side} (cs : List ℕ) (b : ℕ) (bs : List ℕ) → AllPass in_comment cs → is_line_feed b ≡ true → Gap s bs → Tail s (cs ++ b ∷ bs)

tail_more : (c : ℕ) (s : Side) (bs : List ℕ) → in_comment c ≡ true → Tail s bs → Tail s (c ∷ bs)
tail_more c s bs e (goes_on a) = goes_on (e, a)
tail_more c s bs e (ends cs b ds a f g) = ends (c ∷ cs) b ds (e, a) f g

hash_gap : (c : ℕ) (s : Side) (bs : List ℕ) → is_hash c ≡ true → Tail s bs → Gap s (c ∷ bs)
hash_gap c s bs e (goes_on a) = begun {cs = c ∷ bs} (e, a)
hash_gap c s bs e (ends cs b ds a f g) = comment_more (c ∷ cs) b ds (e, a) f g

no_bytes : (text : List ℕ) (at : ℕ) → slice_range text at at ≡ []
no_bytes text at = let z : at - at ≡ 0 = omega arith in ap (λ k. take k (drop at text)) z

no_gap : (text : List ℕ) (at : ℕ) → Gap span.outside (slice_range text at at)
no_gap text at = subst (Gap span.outside) (sym (no_bytes text at)) nothing

-- ---- what stands from a byte on, the first gap being of a kind of its own

abbrev Front : (Side → List ℕ → Type 0) → Side → List ℕ → ℕ → ℕ → List Token → Type 0
Front G s text at n [] = (at ≤ n) × G s (slice_range text at n)
Front G s text at n (t ∷ ts) = (at ≤ t.start) × G span.outside (slice_range text at t.start) × HasToken text t × Stand s text t.end n ts

abbrev Read : (Side → List ℕ → Type 0) → List ℕ → ℕ → Outcome → Type 0
Read G text at (Ok ts) = (s : Side) × Front G s text at (length text) ts
Read G text at (Err e) = (s : Side) × (n : ℕ) × (ts : List Token) × Front G s text at n ts × OffenceAt text n s e

to_stand : (s : Side) (text : List ℕ) (at n : ℕ) (ts : List Token) → Front Gap s text at n ts → Stand s text at n ts
to_stand s text at n [] h = h
to_stand s text at n (t ∷ ts) h = h

module _ (G H : Side → List ℕ → Type 0) (text : List ℕ) (at b : ℕ) (bs : List ℕ) (e : drop at text ≡ b ∷ bs) (goes : (s : Side) (w : List ℕ) → G s w → H s (b ∷ w)) where
  slice_more : (n : ℕ) → at + 1 ≤ n → slice_range text at n ≡ b ∷ slice_range text (at + 1) n
  slice_more n h =
      let z : n - at ≡ suc (n - (at + 1)) = omega arith in
      ap (λ k. take k (drop at text)) z ∙ ap (take (suc (n - (at + 1)))) e ∙ ap (λ w. b ∷ take (n - (at + 1)) w) (sym (behind_first text at b bs e))

  part : (s : Side) (n : ℕ) → at + 1 ≤ n → G s (slice_range text (at + 1) n) → H s (slice_range text at n)
  part s n h g = subst (H s) (sym (slice_more n h)) (goes s (slice_range text (at + 1) n) g)

  front : (s : Side) (n : ℕ) (ts : List Token) → Front G s text (at + 1) n ts → Front H s text at n ts
  front s n [] h = let l = h.0 in (omega arith, part s n h.0 h.1)
  front s n (t ∷ ts) h = let l = h.0 in (omega arith, part span.outside t.start h.0 h.1, h.2, h.3)

  read : (r : Outcome) → Read G text (at + 1) r → Read H text at r
  read (Ok ts) h = (h.0, front h.0 (length text) ts h.1)
  read (Err x) h = (h.0, h.1, h.2, front h.0 h.1 h.2 h.3, h.4)

-- ---- tokens

letter_on_line : (b : ℕ) → is_ascii_alphabetic b ≡ true → on_line b ≡ true
letter_on_line b e = grind (arith, nat_tests)

digit_on_line : (b : ℕ) → is_ascii_digit b ≡ true → on_line b ≡ true
digit_on_line b e = grind (arith, nat_tests)

word_on_line : (b : ℕ) → in_word b ≡ true → on_line b ≡ true
word_on_line b e = grind (arith, nat_tests)

each_on_line : (p : ℕ → Bool) (bs : List ℕ) → ((b : ℕ) → p b ≡ true → on_line b ≡ true) → AllPass p bs → AllPass on_line bs
each_on_line p [] h a = tt
each_on_line p (b ∷ bs) h a = (h b a.0, each_on_line p bs h a.1)

pub token_on_line : (k : TokenKind) (w : List ℕ) → IsToken k w → AllPass on_line w
token_on_line k [] t = tt
token_on_line Name (b ∷ bs) t = (letter_on_line b t.0, each_on_line in_word bs word_on_line t.1)
token_on_line Number (b ∷ bs) t = (digit_on_line b t.0, each_on_line is_ascii_digit bs digit_on_line t.1)
token_on_line Word (b ∷ bs) t = (letter_on_line b (word_letter b bs t), each_on_line in_word bs word_on_line (word_goes b bs t))
token_on_line Symbol (b ∷ bs) t = all_pass on_line (b ∷ bs) (listed_passes (list_all on_line) symbols (b ∷ bs) refl t)

module _ (text : List ℕ) (at b n : ℕ) (bs : List ℕ) (p : Place) (k : TokenKind) (e : drop at text ≡ b ∷ bs) (g : Longest k n (b ∷ bs)) where
  there : Longest k n (drop at text)
  there = let P : List ℕ → Type 0 = λ w. Longest k n w in subst P (sym e) g

  found : (v : ℤ) → value k (take n (b ∷ bs)) ≡ Some v → p ≡ place_of text at → HasToken text (record { kind = k; start = at; end = at + n; value = v; place = p })
  found v x q =
      let z : at + n - at ≡ n = omega arith in
      let P : ℕ → Type 0 = λ m. Longest k m (drop at text) in
      record {
        ordered = omega arith;
        longest = subst P (sym z) there;
        valued = ap (λ m. value k (take m (drop at text))) z ∙ ap (λ w. value k (take n w)) e ∙ x;
        placed = q;
      }

  moved : p ≡ place_of text at → along n p ≡ place_of text (at + n)
  moved q = let t = there in ap (along n) q ∙ sym (place_along n text at t.within (token_on_line k (take n (drop at text)) t.token))

  put : (t : Token) (r : Outcome) → t.start ≡ at → t.end ≡ at + n → HasToken text t → Read Gap text (at + n) r → Read Gap text at (before (t ∷ []) r)
  put t (Ok ts) f i h d =
      let P : ℕ → Type 0 = λ m. Stand d.0 text m (length text) ts in
      let Q : ℕ → Type 0 = λ m. Gap span.outside (slice_range text at m) in
      (d.0, (omega arith, subst Q (sym f) (no_gap text at), h, subst P (sym i) (to_stand d.0 text (at + n) (length text) ts d.1)))
  put t (Err x) f i h d =
      let P : ℕ → Type 0 = λ m. Stand d.0 text m d.1 d.2 in
      let Q : ℕ → Type 0 = λ m. Gap span.outside (slice_range text at m) in
      (d.0, d.1, t ∷ d.2, (omega arith, subst Q (sym f) (no_gap text at), h, subst P (sym i) (to_stand d.0 text (at + n) d.1 d.2 d.3)), d.4)

-- ---- a whole text

pub feed_blank : (b : ℕ) → is_line_feed b ≡ true → is_blank b ≡ true
feed_blank b e = grind (arith, nat_tests)

at_end : (text : List ℕ) (at : ℕ) → at ≤ length text → drop at text ≡ [] → slice_range text at (length text) ≡ []
at_end text at h e = ap (take (length text - at)) e ∙ take-nil (length text - at)

stray_at : (text : List ℕ) (at b : ℕ) (bs : List ℕ) (p : Place) → drop at text ≡ b ∷ bs → p ≡ place_of text at → is_blank b ≡ false → is_hash b ≡ false → NoToken (b ∷ bs) → Read Gap text at (unread p)
stray_at text at b bs p e q f h g =
    let P : List ℕ → Type 0 = λ w. NoToken w in
    let Q : Place → Type 0 = λ k. Read Gap text at (unread k) in
    subst Q (sym q) (span.outside, at, [], (omega arith, no_gap text at), span.stray (got text at b bs e) f h (subst P (sym e) g))

large_at : (text : List ℕ) (at b n : ℕ) (bs : List ℕ) (p : Place) → drop at text ≡ b ∷ bs → p ≡ place_of text at → Longest Number n (b ∷ bs) → value Number (take n (b ∷ bs)) ≡ None → Read Gap text at (too_large p)
large_at text at b n bs p e q g x =
    let P : List ℕ → Type 0 = λ w. Longest Number n w in
    let Q : Place → Type 0 = λ k. Read Gap text at (too_large k) in
    subst Q (sym q) (span.outside, at, [], (omega arith, no_gap text at), span.large (subst P (sym e) g) (ap (λ w. value Number (take n w)) e ∙ x))

foreign_at : (text : List ℕ) (at b : ℕ) (bs : List ℕ) (p : Place) → drop at text ≡ b ∷ bs → p ≡ place_of text at → in_alphabet b ≡ false → Read Tail text at (unread p)
foreign_at text at b bs p e q f =
    let P : List ℕ → Type 0 = λ w. Tail span.inside w in
    let Q : Place → Type 0 = λ k. Read Tail text at (unread k) in
    subst Q (sym q) (span.inside, at, [], (omega arith, subst P (sym (no_bytes text at)) (goes_on tt)), span.foreign (got text at b bs e) f)

mutual
  stands : {at : ℕ} {p : Place} {w : List ℕ} {r : Outcome} → (text : List ℕ) → at ≤ length text → drop at text ≡ w → p ≡ place_of text at → Lexes at p w r → Read Gap text at r
  stands {at} text h e q end = (span.outside, (h, subst (Gap span.outside) (sym (at_end text at h e)) nothing))
  stands text h e q (blank {at} {p} {b} {bs} {r} f l) =
      let m = below text at b bs e in
      read Gap Gap text at b bs e (λ s w g. blank_more f g) r (stands text (omega arith) (behind_first text at b bs e) (ap (after b) q ∙ sym (place_after text at b bs e)) l)
  stands text h e q (hash {at} {p} {b} {bs} {r} f l) =
      let m = below text at b bs e in
      read Tail Gap text at b bs e (λ s w g. hash_gap b s w f g) r (comments text (omega arith) (behind_first text at b bs e) (ap (along 1) q ∙ sym (place_along_one text at b bs e (hash_on_line b f))) l)
  stands text h e q (token {at} {n} {p} {b} {bs} {k} {v} {r} g x l) =
      let m = (there text at b n bs p k e g).within in
      let d = length-drop at text in
      put text at b n bs p k e g (record { kind = k; start = at; end = at + n; value = v; place = p }) r refl refl (found text at b n bs p k e g v x q)
      (stands text (omega arith) (sym (drop-drop n at text) ∙ ap (drop n) e) (moved text at b n bs p k e g q) l)
  stands text h e q (large {at} {n} {p} {b} {bs} g x) = large_at text at b n bs p e q g x
  stands text h e q (odd {at} {p} {b} {bs} f i g) = stray_at text at b bs p e q f i g

  comments : {at : ℕ} {p : Place} {w : List ℕ} {r : Outcome} → (text : List ℕ) → at ≤ length text → drop at text ≡ w → p ≡ place_of text at → Comments at p w r → Read Tail text at r
  comments {at} text h e q over = (span.inside, (h, subst (Tail span.inside) (sym (at_end text at h e)) (goes_on tt)))
  comments text h e q (line f (blank {at} {p} {b} {bs} {r} i l)) =
      let m = below text at b bs e in
      read Gap Tail text at b bs e (λ s w g. ends [] b w tt f g) r (stands text (omega arith) (behind_first text at b bs e) (ap (after b) q ∙ sym (place_after text at b bs e)) l)
  comments text h e q (line {b} f (hash i l)) = absurd (blank_hash b (feed_blank b f) i)
  comments text h e q (line {b} {bs} f (token {n} {k} g x l)) = absurd (blank_token k n b bs (feed_blank b f) g)
  comments text h e q (line {b} {bs} f (large {n} g x)) = absurd (blank_token Number n b bs (feed_blank b f) g)
  comments text h e q (line {b} f (odd i j g)) = let y = feed_blank b f in absurd cc
  comments text h e q (inside {at} {p} {b} {bs} {r} f l) =
      let m = below text at b bs e in
      read Tail Tail text at b bs e (λ s w g. tail_more b s w f g) r (comments text (omega arith) (behind_first text at b bs e) (ap (along 1) q ∙ sym (place_along_one text at b bs e (comment_on_line b f))) l)
  comments text h e q (foreign {at} {p} {b} {bs} f) = foreign_at text at b bs p e q f

pub tokens_stand : (text : List ℕ) (ts : List Token) → LexesTo text (Ok ts) → HasTokens text ts
tokens_stand text ts l = let h = stands text (omega arith) refl refl l in (h.0, to_stand h.0 text 0 (length text) ts h.1)

pub offence_stands : (text : List ℕ) (x : Refusal) → LexesTo text (Err x) → HasOffence text x
offence_stands text x l = let h = stands text (omega arith) refl refl l in (h.0, h.1, h.2, to_stand h.0 text 0 h.1 h.2 h.3, h.4)

pub shown : (text : List ℕ) (r : Result (List Token) LexFault) → Answers text r → Shows text r
shown text (Ok ts) l = tokens_stand text ts l
shown text (Err (fault.Refused x)) l = offence_stands text x l
shown text (Err fault.NoMemory) l = tt
