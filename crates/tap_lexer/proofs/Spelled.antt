-- What stands in a text is read from left to right.
use Rattle.std.proofs.Common.{◌≡◌, ℕ, zero, suc, ◌+◌, ◌-◌, ◌<◌, ◌≤◌, true, false, refl, sym, ◌∙◌, ap, subst, List, [], ◌∷◌, ◌++◌, Some, None, Ok, Err, take, drop, length, ℤ, append_assoc, append-nil, arith}
use Rattle.std.specs.List.{slice_get, slice_range}
use Rattle.std.proofs.lemmas.List.{drop_more, drop-drop, drop_at, drop_all, length-drop, length-append, length-take-le, take-append-drop}
use Rattle.std.proofs.lemmas.Option.{slice_get_within, get_or_from_slice_get}
use Rattle.tap_base.specs.declared.place.Place.{Place}
use Rattle.tap_base.specs.declared.refusal.Refusal.{Refusal}
use Rattle.tap_base.specs.declared.refusal.RefusalCode.TheVariants as code
use Rattle.tap_base.specs.declared.token.TokenKind.{TokenKind}
use Rattle.tap_base.specs.declared.token.TokenKind.TheVariants.{Number}
use Rattle.tap_base.specs.declared.token.Token.{Token}
use Rattle.tap_base.proofs.ListFacts.{behind_first}
use Rattle.tap_lexer.specs.Bytes.{is_blank, is_hash, is_line_feed, in_comment, along, after}
use Rattle.tap_lexer.specs.Tokens.{Lexes, Comments, Outcome, end, blank, hash, token, large, odd, over, line, inside, foreign, before, AllPass, Longest, NoToken, IsToken, value, LexesTo}
use Rattle.tap_lexer.specs.TokenSpans as span
use Rattle.tap_lexer.specs.TokenSpans.{place_of, Side, Gap, nothing, begun, blank_more, comment_more, HasToken, Stand, OffenceAt, HasTokens, HasOffence}
use Rattle.tap_lexer.proofs.Places.{place_after, place_along_one, place_along, hash_on_line, comment_on_line}
use Rattle.tap_lexer.proofs.Shapes.{no_empty}
use Rattle.tap_lexer.proofs.Standing.{token_on_line, feed_blank}

-- from the byte number at, on a side, the rest of the text comes to this outcome
abbrev Goes : Side → List ℕ → ℕ → Outcome → Type 0
Goes span.outside text at r = Lexes at (place_of text at) (drop at text) r
Goes span.inside text at r = Comments at (place_of text at) (drop at text) r

goes_at : (s : Side) (text : List ℕ) (at to : ℕ) (r : Outcome) → at ≡ to → Goes s text to r → Goes s text at r
goes_at s text at to r e g = let P : ℕ → Type 0 = λ k. Goes s text k r in subst P (sym e) g

-- ---- one byte

module _ (text : List ℕ) (at b : ℕ) (bs : List ℕ) (r : Outcome) (e : drop at text ≡ b ∷ bs) where
  back : (p : Place) → place_of text (at + 1) ≡ p → Lexes (at + 1) (place_of text (at + 1)) (drop (at + 1) text) r → Lexes (at + 1) p bs r
  back p q l =
      let P : Place → Type 0 = λ k. Lexes (at + 1) k bs r in
      let Q : List ℕ → Type 0 = λ w. Lexes (at + 1) (place_of text (at + 1)) w r in
      subst P q (subst Q (behind_first text at b bs e) l)

  back_inside : is_line_feed b ≡ false → Goes span.inside text (at + 1) r → Comments (at + 1) (along 1 (place_of text at)) bs r
  back_inside f l =
      let P : Place → Type 0 = λ k. Comments (at + 1) k bs r in
      let Q : List ℕ → Type 0 = λ w. Comments (at + 1) (place_of text (at + 1)) w r in
      subst P (place_along_one text at b bs e f) (subst Q (behind_first text at b bs e) l)

  whole : Lexes at (place_of text at) (b ∷ bs) r → Goes span.outside text at r
  whole l = let P : List ℕ → Type 0 = λ w. Lexes at (place_of text at) w r in subst P (sym e) l

  whole_inside : Comments at (place_of text at) (b ∷ bs) r → Goes span.inside text at r
  whole_inside l = let P : List ℕ → Type 0 = λ w. Comments at (place_of text at) w r in subst P (sym e) l

  blank_back : is_blank b ≡ true → Goes span.outside text (at + 1) r → Goes span.outside text at r
  blank_back f l = whole (blank f (back (after b (place_of text at)) (place_after text at b bs e) l))

  hash_back : is_hash b ≡ true → Goes span.inside text (at + 1) r → Goes span.outside text at r
  hash_back f l = whole (hash f (back_inside (hash_on_line b f) l))

  inside_back : in_comment b ≡ true → Goes span.inside text (at + 1) r → Goes span.inside text at r
  inside_back f l = whole_inside (inside f (back_inside (comment_on_line b f) l))

  line_back : is_line_feed b ≡ true → Goes span.outside text (at + 1) r → Goes span.inside text at r
  line_back f l = whole_inside (line f (blank (feed_blank b f) (back (after b (place_of text at)) (place_after text at b bs e) l)))

-- ---- gaps

comment_back : (cs text rest : List ℕ) (at : ℕ) (r : Outcome) → drop at text ≡ cs ++ rest → AllPass in_comment cs → Goes span.inside text (at + length cs) r → Goes span.inside text at r
comment_back [] text rest at r e a l = goes_at span.inside text at (at + length {A = ℕ} []) r (omega arith) l
comment_back (c ∷ cs) text rest at r e a l =
    inside_back text at c (cs ++ rest) r e a.0
    (comment_back cs text rest (at + 1) r (behind_first text at c (cs ++ rest) e) a.1 (goes_at span.inside text (at + 1 + length cs) (at + length (c ∷ cs)) r (omega arith) l))

gap_back : (s : Side) (g text rest : List ℕ) (at : ℕ) (r : Outcome) → Gap s g → drop at text ≡ g ++ rest → Goes s text (at + length g) r → Goes span.outside text at r
gap_back s g text rest at r nothing e l = goes_at span.outside text at (at + length {A = ℕ} []) r (omega arith) l
gap_back s g text rest at r (begun {cs = []} i) e l = absurd i
gap_back s g text rest at r (begun {cs = c ∷ cs} i) e l =
    hash_back text at c (cs ++ rest) r e i.0
    (comment_back cs text rest (at + 1) r (behind_first text at c (cs ++ rest) e) i.1 (goes_at span.inside text (at + 1 + length cs) (at + length (c ∷ cs)) r (omega arith) l))
gap_back s g text rest at r (blank_more {b} {bs} f h) e l =
    blank_back text at b (bs ++ rest) r e f
    (gap_back s bs text rest (at + 1) r h (behind_first text at b (bs ++ rest) e) (goes_at s text (at + 1 + length bs) (at + length (b ∷ bs)) r (omega arith) l))
gap_back s g text rest at r (comment_more [] b bs i f h) e l = absurd i
gap_back s g text rest at r (comment_more (c ∷ cs) b bs i f h) e l =
    let n = behind_first text at c ((cs ++ b ∷ bs) ++ rest) e ∙ append_assoc cs (b ∷ bs) rest in
    let d : drop (at + 1 + length cs) text ≡ b ∷ (bs ++ rest) = sym (drop-drop (length cs) (at + 1) text) ∙ ap (drop (length cs)) n ∙ drop_at cs (b ∷ bs ++ rest) (length cs) refl in
    let z : at + 1 + length cs + 1 + length bs ≡ at + length (c ∷ cs ++ b ∷ bs) = let a = length-append cs (b ∷ bs) in omega arith in
    hash_back text at c ((cs ++ b ∷ bs) ++ rest) r e i.0
    (comment_back cs text (b ∷ bs ++ rest) (at + 1) r n i.1
    (line_back text (at + 1 + length cs) b (bs ++ rest) r d f
    (gap_back s bs text rest (at + 1 + length cs + 1) r h (behind_first text (at + 1 + length cs) b (bs ++ rest) d) (goes_at s text (at + 1 + length cs + 1 + length bs) (at + length (c ∷ cs ++ b ∷ bs)) r z l))))

span_back : (s : Side) (text : List ℕ) (at n : ℕ) (r : Outcome) → at ≤ n → n ≤ length text → Gap s (slice_range text at n) → Goes s text n r → Goes span.outside text at r
span_back s text at n r h m g l =
    let d = length-drop at text in
    let z = length-take-le (n - at) (drop at text) (omega arith) in
    gap_back s (slice_range text at n) text (drop (n - at) (drop at text)) at r g (sym (take-append-drop (n - at) (drop at text)))
    (goes_at s text (at + length (slice_range text at n)) n r (omega arith) l)

-- ---- tokens

some_long : (k : TokenKind) (n : ℕ) (w : List ℕ) → IsToken k (take n w) → 0 < length w
some_long k zero w t = absurd (no_empty k t)
some_long k (suc n) [] t = absurd (no_empty k t)
some_long k (suc n) (b ∷ bs) t = omega arith

begins_within : (k : TokenKind) (n : ℕ) (text : List ℕ) (at : ℕ) → Longest k n (drop at text) → at < length text
begins_within k n text at g = let a = some_long k n (drop at text) g.token in let d = length-drop at text in omega arith

same_before : (t : Token) (ts : List Token) (r : Outcome) → before (t ∷ ts) r ≡ before (t ∷ []) (before ts r)
same_before t ts (Ok us) = refl
same_before t ts (Err e) = refl

same_token : (t : Token) (n : ℕ) (p : Place) → t.start + n ≡ t.end → p ≡ t.place → (let u : Token = record { kind = t.kind; start = t.start; end = t.start + n; value = t.value; place = p } in u) ≡ t
same_token t n p e f =
    ap (λ i. let u : Token = record { kind = t.kind; start = t.start; end = i; value = t.value; place = p } in u) e ∙
    ap (λ i. let u : Token = record { kind = t.kind; start = t.start; end = t.end; value = t.value; place = i } in u) f

token_at : (k : TokenKind) (n at : ℕ) (v : ℤ) (p : Place) (w : List ℕ) (r : Outcome) → Longest k n w → value k (take n w) ≡ Some v → Lexes (at + n) (along n p) (drop n w) r → Lexes at p w (before (record { kind = k; start = at; end = at + n; value = v; place = p } ∷ []) r)
token_at k n at v p [] r g x l = absurd (let h = some_long k n [] g.token in omega arith)
token_at k n at v p (b ∷ bs) r g x l = token g x l

token_back : (text : List ℕ) (t : Token) (r : Outcome) → HasToken text t → Goes span.outside text t.end r → Goes span.outside text t.start (before (t ∷ []) r)
token_back text t r h l =
    let o = h.ordered in
    let n = t.end - t.start in
    let z : t.start + (t.end - t.start) ≡ t.end = omega arith in
    let g = h.longest in
    let q = place_along (t.end - t.start) text t.start g.within (token_on_line t.kind (take (t.end - t.start) (drop t.start text)) g.token) in
    let P : Place → Type 0 = λ k. Lexes (t.start + (t.end - t.start)) k (drop (t.end - t.start) (drop t.start text)) r in
    let Q : List ℕ → Type 0 = λ w. Lexes (t.start + (t.end - t.start)) (place_of text (t.start + (t.end - t.start))) w r in
    let T : Token → Type 0 = λ u. Lexes t.start (place_of text t.start) (drop t.start text) (before (u ∷ []) r) in
    subst T (same_token t (t.end - t.start) (place_of text t.start) z (sym h.placed))
    (token_at t.kind (t.end - t.start) t.start t.value (place_of text t.start) (drop t.start text) r g h.valued
    (subst P q (subst Q (sym (drop-drop (t.end - t.start) t.start text)) (goes_at span.outside text (t.start + (t.end - t.start)) t.end r z l))))

tokens_back : (s : Side) (text : List ℕ) (n : ℕ) (r : Outcome) → n ≤ length text → Goes s text n r → (at : ℕ) (ts : List Token) → Stand s text at n ts → Goes span.outside text at (before ts r)
tokens_back s text n (Ok us) m l at [] h = span_back s text at n (Ok us) h.0 m h.1 l
tokens_back s text n (Err e) m l at [] h = span_back s text at n (Err e) h.0 m h.1 l
tokens_back s text n r m l at (t ∷ ts) h =
    let P : Outcome → Type 0 = λ k. Goes span.outside text t.start k in
    let w = begins_within t.kind (t.end - t.start) text t.start h.2.longest in
    span_back span.outside text at t.start (before (t ∷ ts) r) h.0 (omega arith) h.1
    (subst P (sym (same_before t ts r)) (token_back text t (before ts r) h.2 (tokens_back s text n r m l t.end ts h.3)))

-- ---- a whole text

at_end : (s : Side) (text : List ℕ) → Goes s text (length text) (Ok [])
at_end span.outside text = let P : List ℕ → Type 0 = λ w. Lexes (length text) (place_of text (length text)) w (let o : Outcome = Ok [] in o) in subst P (sym (drop_all (length text) text (omega arith))) end
at_end span.inside text = let P : List ℕ → Type 0 = λ w. Comments (length text) (place_of text (length text)) w (let o : Outcome = Ok [] in o) in subst P (sym (drop_all (length text) text (omega arith))) over

pub tokens_spelled : (text : List ℕ) (ts : List Token) → HasTokens text ts → LexesTo text (Ok ts)
tokens_spelled text ts h = let P : List Token → Type 0 = λ k. LexesTo text (let o : Outcome = Ok k in o) in subst P (append-nil ts) (tokens_back h.0 text (length text) (Ok []) (omega arith) (at_end h.0 text) 0 ts h.1)

cut : (text : List ℕ) (n b : ℕ) → slice_get text n ≡ Some b → drop n text ≡ b ∷ drop (n + 1) text
cut text n b e = drop_more text n b (slice_get_within text n b e) ∙ ap (λ k. k ∷ drop (n + 1) text) (get_or_from_slice_get text n b b e)

large_there : (at m : ℕ) (p : Place) (w : List ℕ) → Longest Number m w → value Number (take m w) ≡ None → Lexes at p w (Err (record { code = code.L2; place = p }))
large_there at m p [] g x = absurd (let h = some_long Number m [] g.token in omega arith)
large_there at m p (b ∷ bs) g x = large g x

offence_goes : (s : Side) (text : List ℕ) (n : ℕ) (x : Refusal) → OffenceAt text n s x → (n ≤ length text) × Goes s text n (Err x)
offence_goes s text n x (span.stray {b} e f i g) =
    let P : List ℕ → Type 0 = λ w. NoToken w in
    let w = slice_get_within text n b e in
    (omega arith, whole text n b (drop (n + 1) text) _ (cut text n b e) (odd f i (subst P (cut text n b e) g)))
offence_goes s text n x (span.foreign {b} e f) =
    let w = slice_get_within text n b e in
    (omega arith, whole_inside text n b (drop (n + 1) text) _ (cut text n b e) (foreign f))
offence_goes s text n x (span.large {m} g y) =
    let w = begins_within Number m text n g in
    (omega arith, large_there n m (place_of text n) (drop n text) g y)

pub offence_spelled : (text : List ℕ) (x : Refusal) → HasOffence text x → LexesTo text (Err x)
offence_spelled text x h = let o = offence_goes h.0 text h.1 x h.4 in go h.2 (tokens_back h.0 text h.1 (Err x) o.0 o.1 0 h.2 h.3)
  where
    go : (ts : List Token) → Goes span.outside text 0 (before ts (Err x)) → LexesTo text (Err x)
    go ts l = l
