-- The columns of tokens.
use Rattle.std.proofs.Common.{◌≡◌, ℕ, zero, suc, ◌+◌, ◌≤◌, refl, subst, List, [], ◌∷◌, Ok, Err, Bool, true, false, arith}
use Rattle.tap_base.specs.declared.place.Place.{Place}
use Rattle.tap_base.specs.declared.token.Token.{Token}
use Rattle.tap_lexer.specs.Bytes.{is_line_feed, after, start}
use Rattle.tap_lexer.specs.Tokens.{Lexes, Comments, Outcome, end, blank, hash, token, large, odd, over, line, inside, foreign, before, SpellsTokens}
use Rattle.tap_expr.specs.inner.Exprs.{ArePlaced}

abbrev Columns : List Token → Type 0
Columns [] = Unit {0}
Columns (t ∷ ts) = (t.place.column ≤ t.start + 1) × Columns ts

abbrev Keeps : Outcome → Type 0
Keeps (Ok ts) = Columns ts
Keeps (Err e) = Unit {0}

put : (t : Token) (r : Outcome) → t.place.column ≤ t.start + 1 → Keeps r → Keeps (before (t ∷ []) r)
put t (Ok ts) h k = (h, k)
put t (Err e) h k = tt

after_byte : (b at : ℕ) (p : Place) → p.column ≤ at + 1 → (after b p).column ≤ (at + 1) + 1
after_byte b at p h = go (is_line_feed b) refl
  where
    go : (t : Bool) → is_line_feed b ≡ t → (after b p).column ≤ (at + 1) + 1
    go true e = rw e (omega arith)
    go false e = rw e (omega arith)

mutual
  keeps : {at : ℕ} {p : Place} {w : List ℕ} {r : Outcome} → p.column ≤ at + 1 → Lexes at p w r → Keeps r
  keeps h end = tt
  keeps h (blank {at} {p} {b} {bs} {r} f l) = keeps (after_byte b at p h) l
  keeps h (hash f l) = keeps_comment (omega arith) l
  keeps h (token {at} {n} {p} {b} {bs} {k} {v} {r} g x l) = put _ r h (keeps (omega arith) l)
  keeps h (large g x) = tt
  keeps h (odd f i g) = tt

  keeps_comment : {at : ℕ} {p : Place} {w : List ℕ} {r : Outcome} → p.column ≤ at + 1 → Comments at p w r → Keeps r
  keeps_comment h over = tt
  keeps_comment h (line f l) = keeps h l
  keeps_comment h (inside f l) = keeps_comment (omega arith) l
  keeps_comment h (foreign f) = tt

column_at : (ts : List Token) → Columns ts → ArePlaced ts
column_at [] h k t e = absurd cc
column_at (u ∷ ts) h zero t e = let q : u ≡ t = cc in let P : Token → Type 0 = λ z. z.place.column ≤ z.start + 1 in subst P q h.0
column_at (u ∷ ts) h (suc k) t e = column_at ts h.1 k t e

-- the tokens that a text spells have columns that count its bytes
pub are_placed : (text : List ℕ) (ts : List Token) → SpellsTokens text ts → ArePlaced ts
are_placed text ts l = column_at ts (keeps (omega arith) l)
