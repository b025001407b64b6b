-- The place of each byte of a text.
use Rattle.std.proofs.Common.{◌≡◌, ℕ, ◌+◌, ◌<◌, ◌≤◌, Bool, true, false, ◌&&◌, not, cond, refl, sym, ◌∙◌, ap, subst, List, [], ◌∷◌, ◌++◌, Some, take, drop, length, get_or, arith}
use Rattle.std.specs.Prelude.{reverse}
use Rattle.std.specs.List.{slice_get, prefix_len}
use Rattle.std.proofs.lemmas.List.{take_more, reverse-append, length-drop, get_or-drop, take-append-drop, length-take-le}
use Rattle.std.proofs.lemmas.List.Sums.{count_by_more_yes, count_by_more_no}
use Rattle.std.proofs.lemmas.Option.{slice_get-get_or}
use Rattle.std.proofs.lemmas.Bool.{eqb-true}
use Rattle.tap_base.specs.declared.place.Place.{Place}
use Rattle.tap_base.proofs.ListFacts.{behind_first}
use Rattle.tap_lexer.specs.Bytes.{is_hash, is_line_feed, in_comment, in_alphabet, after, along}
use Rattle.tap_lexer.specs.Tokens.{AllPass}
use Rattle.tap_lexer.specs.TokenSpans.{place_of}

-- a byte that begins no line
abbrev pub on_line : ℕ → Bool
on_line b = not (is_line_feed b)

-- ---- the byte that stands first in the rest of a text

pub below : (text : List ℕ) (at b : ℕ) (bs : List ℕ) → drop at text ≡ b ∷ bs → at < length text
below text at b bs e = let l : length (drop at text) ≡ length (b ∷ bs) = ap length e in let d = length-drop at text in omega arith

pub byte_there : (text : List ℕ) (at b : ℕ) (bs : List ℕ) → drop at text ≡ b ∷ bs → get_or text at 0 ≡ b
byte_there text at b bs e = let z : at ≡ at + 0 = omega arith in ap (λ k. get_or text k 0) z ∙ sym (get_or-drop at text 0 0) ∙ ap (λ k. get_or k 0 0) e

pub got : (text : List ℕ) (at b : ℕ) (bs : List ℕ) → drop at text ≡ b ∷ bs → slice_get text at ≡ Some b
got text at b bs e = let h = below text at b bs e in slice_get-get_or text at 0 h ∙ ap Some (byte_there text at b bs e)

-- ---- places

same_place : (l m c d : ℕ) → l ≡ m → c ≡ d → (let p : Place = record { line = l; column = c } in p) ≡ record { line = m; column = d }
same_place l m c d e f =
    ap (λ k. let p : Place = record { line = k; column = c } in p) e ∙
    ap (λ k. let p : Place = record { line = m; column = k } in p) f

column_more : (text : List ℕ) (at : ℕ) → at < length text → prefix_len on_line (reverse (take (at + 1) text)) ≡ cond (on_line (get_or text at 0)) (1 + prefix_len on_line (reverse (take at text))) 0
column_more text at h = ap (λ k. prefix_len on_line (reverse k)) (take_more text at 0 h) ∙ ap (prefix_len on_line) (reverse-append (take at text) (get_or text at 0 ∷ []))

place_more : (text : List ℕ) (at : ℕ) → at < length text → place_of text (at + 1) ≡ after (get_or text at 0) (place_of text at)
place_more text at h = go (is_line_feed (get_or text at 0)) refl
  where
    go : (v : Bool) → is_line_feed (get_or text at 0) ≡ v → place_of text (at + 1) ≡ after (get_or text at 0) (place_of text at)
    go true e =
        let P : Bool → Type 0 = λ v. place_of text (at + 1) ≡ cond v (let q : Place = record { line = (place_of text at).line + 1; column = 1 } in q) (record { line = (place_of text at).line; column = (place_of text at).column + 1 }) in
        let Q : Bool → Type 0 = λ v. prefix_len on_line (reverse (take (at + 1) text)) ≡ cond (not v) (1 + prefix_len on_line (reverse (take at text))) 0 in
        let c = subst Q e (column_more text at h) in
        let l = count_by_more_yes is_line_feed text at 0 h e in
        subst P (sym e) (same_place _ _ _ _ (omega arith) (omega arith))
    go false e =
        let P : Bool → Type 0 = λ v. place_of text (at + 1) ≡ cond v (let q : Place = record { line = (place_of text at).line + 1; column = 1 } in q) (record { line = (place_of text at).line; column = (place_of text at).column + 1 }) in
        let Q : Bool → Type 0 = λ v. prefix_len on_line (reverse (take (at + 1) text)) ≡ cond (not v) (1 + prefix_len on_line (reverse (take at text))) 0 in
        let c = subst Q e (column_more text at h) in
        let l = count_by_more_no is_line_feed text at 0 h e in
        subst P (sym e) (same_place _ _ _ _ (omega arith) (omega arith))

pub place_after : (text : List ℕ) (at b : ℕ) (bs : List ℕ) → drop at text ≡ b ∷ bs → place_of text (at + 1) ≡ after b (place_of text at)
place_after text at b bs e = place_more text at (below text at b bs e) ∙ ap (λ k. after k (place_of text at)) (byte_there text at b bs e)

pub place_along_one : (text : List ℕ) (at b : ℕ) (bs : List ℕ) → drop at text ≡ b ∷ bs → is_line_feed b ≡ false → place_of text (at + 1) ≡ along 1 (place_of text at)
place_along_one text at b bs e f =
    let P : Bool → Type 0 = λ v. place_of text (at + 1) ≡ cond v (let q : Place = record { line = (place_of text at).line + 1; column = 1 } in q) (record { line = (place_of text at).line; column = (place_of text at).column + 1 }) in
    subst P f (place_after text at b bs e)

pub on_line_false : (b : ℕ) → on_line b ≡ true → is_line_feed b ≡ false
on_line_false b e = go (is_line_feed b) refl e
  where
    go : (v : Bool) → is_line_feed b ≡ v → not v ≡ true → is_line_feed b ≡ false
    go true f g = absurd cc
    go false f g = f

-- bytes of one line
place_line : (w text rest : List ℕ) (at : ℕ) → drop at text ≡ w ++ rest → AllPass on_line w → place_of text (at + length w) ≡ along (length w) (place_of text at)
place_line [] text rest at e a =
    let z : at + length {A = ℕ} [] ≡ at = omega arith in
    ap (place_of text) z ∙ same_place (place_of text at).line (place_of text at).line (place_of text at).column ((place_of text at).column + length {A = ℕ} []) refl (omega arith)
place_line (b ∷ w) text rest at e a =
    let z : at + length (b ∷ w) ≡ at + 1 + length w = omega arith in
    let c : (place_of text at).column + 1 + length w ≡ (place_of text at).column + length (b ∷ w) = omega arith in
    ap (place_of text) z
    ∙ place_line w text rest (at + 1) (behind_first text at b (w ++ rest) e) a.1
    ∙ ap (along (length w)) (place_along_one text at b (w ++ rest) e (on_line_false b a.0))
    ∙ same_place (place_of text at).line (place_of text at).line ((place_of text at).column + 1 + length w) ((place_of text at).column + length (b ∷ w)) refl c

pub place_along : (n : ℕ) (text : List ℕ) (at : ℕ) → n ≤ length (drop at text) → AllPass on_line (take n (drop at text)) → place_of text (at + n) ≡ along n (place_of text at)
place_along n text at h a =
    let P : ℕ → Type 0 = λ k. place_of text (at + k) ≡ along k (place_of text at) in
    subst P (length-take-le n (drop at text) h) (place_line (take n (drop at text)) text (drop n (drop at text)) at (sym (take-append-drop n (drop at text))) a)

-- ---- bytes that begin no line

pub hash_on_line : (b : ℕ) → is_hash b ≡ true → is_line_feed b ≡ false
hash_on_line b e = let n : b ≡ 35 = eqb-true b 35 e in ap is_line_feed n

pub comment_on_line : (b : ℕ) → in_comment b ≡ true → is_line_feed b ≡ false
comment_on_line b e = go (in_alphabet b) (is_line_feed b) e
  where
    go : (a v : Bool) → (a && not v) ≡ true → v ≡ false
    go a false e = refl
    go true true e = absurd cc
    go false true e = absurd cc
