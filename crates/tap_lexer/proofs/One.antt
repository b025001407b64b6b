-- A text has at most one outcome.
use Rattle.std.proofs.Common.{◌≡◌, ℕ, zero, suc, ◌+◌, Bool, true, false, refl, sym, ◌∙◌, ap, subst, List, [], ◌∷◌, Some, Ok, take, drop, ℤ, ◌&&◌, not, arith}
use Rattle.std.proofs.lemmas.Bool.{eqb-true}
use Rattle.tap_base.specs.declared.place.Place.{Place}
use Rattle.tap_base.specs.declared.token.TokenKind.{TokenKind}
use Rattle.tap_base.specs.declared.token.TokenKind.TheVariants.{Name, Number, Word, Symbol}
use Rattle.tap_base.specs.declared.token.Token.{Token}
use Rattle.tap_lexer.specs.Bytes.{is_blank, is_hash, is_line_feed, in_comment, in_alphabet, along}
use Rattle.tap_lexer.specs.Tokens.{Lexes, Comments, Outcome, end, blank, hash, token, large, odd, over, line, inside, foreign, before, Longest, IsToken, value, SpellsTokens, OneOutcome}
use Rattle.tap_lexer.proofs.Tables.{and_left}
use Rattle.tap_lexer.proofs.Shapes.{IsOther, no_empty, word_letter, symbol_mark, mark_no_letter, mark_no_digit, letter_no_digit, token_other}

one_kind : (k l : TokenKind) (w : List ℕ) → IsToken k w → IsToken l w → k ≡ l
one_kind k l [] s t = absurd (no_empty k s)
one_kind Name Name (b ∷ w) s t = refl
one_kind Number Number (b ∷ w) s t = refl
one_kind Word Word (b ∷ w) s t = refl
one_kind Symbol Symbol (b ∷ w) s t = refl
one_kind Name Word (b ∷ w) s t = let e = s.2 in absurd cc
one_kind Word Name (b ∷ w) s t = let e = t.2 in absurd cc
one_kind Name Number (b ∷ w) s t = absurd (letter_no_digit b s.0 t.0)
one_kind Number Name (b ∷ w) s t = absurd (letter_no_digit b t.0 s.0)
one_kind Word Number (b ∷ w) s t = absurd (letter_no_digit b (word_letter b w s) t.0)
one_kind Number Word (b ∷ w) s t = absurd (letter_no_digit b (word_letter b w t) s.0)
one_kind Name Symbol (b ∷ w) s t = absurd (mark_no_letter b (symbol_mark b w t) s.0)
one_kind Symbol Name (b ∷ w) s t = absurd (mark_no_letter b (symbol_mark b w s) t.0)
one_kind Word Symbol (b ∷ w) s t = absurd (mark_no_letter b (symbol_mark b w t) (word_letter b w s))
one_kind Symbol Word (b ∷ w) s t = absurd (mark_no_letter b (symbol_mark b w s) (word_letter b w t))
one_kind Number Symbol (b ∷ w) s t = absurd (mark_no_digit b (symbol_mark b w t) s.0)
one_kind Symbol Number (b ∷ w) s t = absurd (mark_no_digit b (symbol_mark b w s) t.0)

one_length : (k l : TokenKind) (n m : ℕ) (w : List ℕ) → Longest k n w → Longest l m w → m ≡ n
one_length k l n m w g h = let a = g.greatest l m h.within h.token in let b = h.greatest k n g.within g.token in omega arith

same_kind : (k l : TokenKind) (n m : ℕ) (w : List ℕ) → Longest k n w → Longest l m w → l ≡ k
same_kind k l n m w g h = let e = one_length k l n m w g h in let P : ℕ → Type 0 = λ i. IsToken l (take i w) in one_kind l k (take n w) (subst P e h.token) g.token

found_value : (k l : TokenKind) (n m : ℕ) (w : List ℕ) → Longest k n w → Longest l m w → value l (take m w) ≡ value k (take n w)
found_value k l n m w g h = ap (λ i. value i (take m w)) (same_kind k l n m w g h) ∙ ap (λ i. value k (take i w)) (one_length k l n m w g h)

-- ---- a byte that begins one thing begins no other

no_feed : (b : ℕ) → is_line_feed b ≡ true → in_comment b ≡ true → ⊥
no_feed b e f = go (in_alphabet b) (is_line_feed b) e f
  where
    go : (a v : Bool) → v ≡ true → (a && not v) ≡ true → ⊥
    go true true e f = absurd cc
    go false true e f = absurd cc
    go a false e f = absurd cc

no_foreign : (b : ℕ) → is_line_feed b ≡ true → in_alphabet b ≡ false → ⊥
no_foreign b e f = let n : b ≡ 10 = eqb-true b 10 e in let g : in_alphabet b ≡ true = ap in_alphabet n in absurd cc

pub blank_hash : (b : ℕ) → is_blank b ≡ true → is_hash b ≡ true → ⊥
blank_hash b e f = let n : b ≡ 35 = eqb-true b 35 f in let g : is_blank b ≡ false = ap is_blank n in absurd cc

no_blank : (k : TokenKind) (n b : ℕ) (bs : List ℕ) → Longest k n (b ∷ bs) → IsOther b
no_blank k zero b bs h = absurd (no_empty k h.token)
no_blank k (suc n) b bs h = token_other k b (take n bs) h.token

pub blank_token : (k : TokenKind) (n b : ℕ) (bs : List ℕ) → is_blank b ≡ true → Longest k n (b ∷ bs) → ⊥
blank_token k n b bs e h = let o = (no_blank k n b bs h).0 in absurd cc

hash_token : (k : TokenKind) (n b : ℕ) (bs : List ℕ) → is_hash b ≡ true → Longest k n (b ∷ bs) → ⊥
hash_token k n b bs e h = let o = (no_blank k n b bs h).1 in absurd cc

again : (at n m : ℕ) (p : Place) (w : List ℕ) (s : Outcome) → m ≡ n → Lexes (at + m) (along m p) (drop m w) s → Lexes (at + n) (along n p) (drop n w) s
again at n m p w s e l = let P : ℕ → Type 0 = λ i. Lexes (at + i) (along i p) (drop i w) s in subst P e l

same_token : (at n m : ℕ) (p : Place) (k l : TokenKind) (v u : ℤ) → k ≡ l → n ≡ m → v ≡ u → (let t : Token = record { kind = k; start = at; end = at + n; value = v; place = p } in t) ≡ record { kind = l; start = at; end = at + m; value = u; place = p }
same_token at n m p k l v u e f g =
    ap (λ i. let t : Token = record { kind = i; start = at; end = at + n; value = v; place = p } in t) e ∙
    ap (λ i. let t : Token = record { kind = l; start = at; end = at + i; value = v; place = p } in t) f ∙
    ap (λ i. let t : Token = record { kind = l; start = at; end = at + m; value = i; place = p } in t) g

some_value : (v u : ℤ) → Some v ≡ Some u → v ≡ u
some_value v u e = cc

mutual
  one : {at : ℕ} {p : Place} {w : List ℕ} {r s : Outcome} → Lexes at p w r → Lexes at p w s → r ≡ s
  one end end = refl
  one (blank e l) (blank f m) = one l m
  one (blank {b} e l) (hash f m) = absurd (blank_hash b e f)
  one (blank {b} {bs} e l) (token {n} {k} g v m) = absurd (blank_token k n b bs e g)
  one (blank {b} {bs} e l) (large {n} g v) = absurd (blank_token Number n b bs e g)
  one (blank e l) (odd f g h) = absurd cc
  one (hash {b} e l) (blank f m) = absurd (blank_hash b f e)
  one (hash e l) (hash f m) = two l m
  one (hash {b} {bs} e l) (token {n} {k} g v m) = absurd (hash_token k n b bs e g)
  one (hash {b} {bs} e l) (large {n} g v) = absurd (hash_token Number n b bs e g)
  one (hash e l) (odd f g h) = absurd cc
  one (token {n} {b} {bs} {k} g v l) (blank f m) = absurd (blank_token k n b bs f g)
  one (token {n} {b} {bs} {k} g v l) (hash f m) = absurd (hash_token k n b bs f g)
  one (token {at} {n} {p} {b} {bs} {k} {v} {r} g x l) (token {n = m} {k = j} {v = u} {r = s} h y o) =
      let i : m ≡ n = one_length k j n m (b ∷ bs) g h in
      let c = one l (again at n m p (b ∷ bs) s i o) in
      let q : v ≡ u = some_value v u (sym x ∙ sym (found_value k j n m (b ∷ bs) g h) ∙ y) in
      ap (λ z. before (record { kind = k; start = at; end = at + n; value = v; place = p } ∷ []) z) c ∙
      ap (λ z. before (z ∷ []) s) (same_token at n m p k j v u (sym (same_kind k j n m (b ∷ bs) g h)) (sym i) q)
  one (token {n} {b} {bs} {k} g x l) (large {n = m} h y) = let c = found_value k Number n m (b ∷ bs) g h in absurd cc
  one (token {n} {k} g x l) (odd f i h) = absurd (h k n g.token)
  one (large {n} {b} {bs} g v) (blank f m) = absurd (blank_token Number n b bs f g)
  one (large {n} {b} {bs} g v) (hash f m) = absurd (hash_token Number n b bs f g)
  one (large {n} {b} {bs} g x) (token {n = m} {k = j} h y o) = let c = found_value Number j n m (b ∷ bs) g h in absurd cc
  one (large g v) (large h u) = refl
  one (large {n} g v) (odd f i h) = absurd (h Number n g.token)
  one (odd e i g) (blank f m) = absurd cc
  one (odd e i g) (hash f m) = absurd cc
  one (odd e i g) (token {n = m} {k = j} h y o) = absurd (g j m h.token)
  one (odd e i g) (large {n = m} h y) = absurd (g Number m h.token)
  one (odd e i g) (odd f j h) = refl

  two : {at : ℕ} {p : Place} {w : List ℕ} {r s : Outcome} → Comments at p w r → Comments at p w s → r ≡ s
  two over over = refl
  two (line e l) (line f m) = one l m
  two (line {b} e l) (inside f m) = absurd (no_feed b e f)
  two (line {b} e l) (foreign f) = absurd (no_foreign b e f)
  two (inside {b} e l) (line f m) = absurd (no_feed b f e)
  two (inside e l) (inside f m) = two l m
  two (inside {b} e l) (foreign f) = let g = and_left (in_alphabet b) _ e in absurd cc
  two (foreign {b} e) (line f m) = absurd (no_foreign b f e)
  two (foreign {b} e) (inside f m) = let g = and_left (in_alphabet b) _ f in absurd cc
  two (foreign e) (foreign f) = refl

pub one_text : OneOutcome
one_text text r s l m = one l m

-- a text spells at most one list of tokens
pub same_tokens : (text : List ℕ) (ts us : List Token) → SpellsTokens text ts → SpellsTokens text us → ts ≡ us
same_tokens text ts us h k = let e = one_text text (Ok ts) (Ok us) h k in cc
