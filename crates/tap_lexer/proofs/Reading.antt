-- What each step of a text says of its outcome.
use Rattle.std.proofs.Common.{◌≡◌, ℕ, zero, suc, ◌+◌, ◌<◌, ◌≤◌, Bool, true, false, ◌&&◌, not, ◌==◌, cond, refl, sym, ◌∙◌, ap, subst, List, [], ◌∷◌, ◌++◌, Option, Some, None, Ok, Err, take, drop, length, append_assoc, append-nil, get_or, inl, inr, ◌⊎◌, ℤ, arith}
use Rattle.std.specs.List.{slice_get, prefix_len}
use Rattle.std.proofs.lemmas.List.{drop-drop, drop_all, length-drop}
use Rattle.std.proofs.lemmas.Option.{slice_get-get_or, slice_get_cases}
use Rattle.std.proofs.lemmas.Bool.{eqb-true}
use Rattle.tap_base.specs.declared.place.Place.{Place}
use Rattle.tap_base.specs.declared.token.TokenKind.{TokenKind}
use Rattle.tap_base.specs.declared.token.TokenKind.TheVariants.{Name, Number, Word, Symbol}
use Rattle.tap_base.specs.declared.token.Token.{Token}
use Rattle.tap_base.proofs.ListFacts.{cut_at}
use Rattle.tap_lexer.specs.Bytes.{is_blank, is_hash, is_line_feed, in_comment, in_alphabet, after, along}
use Rattle.tap_lexer.specs.Tokens.{Lexes, Comments, Outcome, end, blank, hash, token, large, odd, over, line, inside, foreign, before, unread, too_large, Longest, NoToken, IsToken, value}
use Rattle.tap_lexer.specs.inner.Lexing.{Goes, before_one, one_of}
use Rattle.tap_lexer.proofs.Shapes.{no_empty}

lexes_at : (at : ℕ) (p : Place) (bs cs : List ℕ) (r : Outcome) → bs ≡ cs → Lexes at p cs r → Lexes at p bs r
lexes_at at p bs cs r e h = let P : List ℕ → Type 0 = λ k. Lexes at p k r in subst P (sym e) h

pub blank_step : (text : List ℕ) (at b : ℕ) (p : Place) (r : Outcome) → slice_get text at ≡ Some b → is_blank b ≡ true → Lexes (at + 1) (after b p) (drop (at + 1) text) r → Lexes at p (drop at text) r
blank_step text at b p r s e h = lexes_at at p (drop at text) (b ∷ drop (at + 1) text) r (cut_at text at b s) (blank e h)

along_more : (n : ℕ) (p : Place) → along (1 + n) p ≡ along n (along 1 p)
along_more n p = let e : p.column + (1 + n) ≡ p.column + 1 + n = omega arith in ap (λ (k : ℕ). let q : Place = record { line = p.line; column = k } in q) e

-- what stands in a comment is passed over
runs_on : (at b : ℕ) (p : Place) (bs : List ℕ) (r : Outcome) → ((at : ℕ) (p : Place) → Comments (at + prefix_len in_comment bs) (along (prefix_len in_comment bs) p) (drop (prefix_len in_comment bs) bs) r → Comments at p bs r) → (v : Bool) → in_comment b ≡ v → Comments (at + cond v (1 + prefix_len in_comment bs) 0) (along (cond v (1 + prefix_len in_comment bs) 0) p) (drop (cond v (1 + prefix_len in_comment bs) 0) (b ∷ bs)) r → Comments at p (b ∷ bs) r
runs_on at b p bs r more true e h =
    let n : ℕ = prefix_len in_comment bs in
    let i : at + (1 + prefix_len in_comment bs) ≡ (at + 1) + prefix_len in_comment bs = omega arith in
    let d : 1 + prefix_len in_comment bs ≡ suc (prefix_len in_comment bs) = omega arith in
    let A : ℕ → Type 0 = λ k. Comments k (along (1 + prefix_len in_comment bs) p) (drop (1 + prefix_len in_comment bs) (b ∷ bs)) r in
    let B : Place → Type 0 = λ q. Comments ((at + 1) + prefix_len in_comment bs) q (drop (1 + prefix_len in_comment bs) (b ∷ bs)) r in
    let D : ℕ → Type 0 = λ k. Comments ((at + 1) + prefix_len in_comment bs) (along (prefix_len in_comment bs) (along 1 p)) (drop k (b ∷ bs)) r in
    inside e (more (at + 1) (along 1 p) (subst D d (subst B (along_more (prefix_len in_comment bs) p) (subst A i h))))
runs_on at b p bs r more false e h =
    let i : at + 0 ≡ at = omega arith in let j : p.column + 0 ≡ p.column = omega arith in
    let A : ℕ → Type 0 = λ k. Comments k (along 0 p) (b ∷ bs) r in
    let B : ℕ → Type 0 = λ k. Comments at (record { line = p.line; column = k }) (b ∷ bs) r in
    subst B j (subst A i h)

pub runs : (bs : List ℕ) (at : ℕ) (p : Place) (r : Outcome) → Comments (at + prefix_len in_comment bs) (along (prefix_len in_comment bs) p) (drop (prefix_len in_comment bs) bs) r → Comments at p bs r
runs [] at p r h =
    let i : at + 0 ≡ at = omega arith in let j : p.column + 0 ≡ p.column = omega arith in
    let A : ℕ → Type 0 = λ k. Comments k (along 0 p) [] r in
    let B : ℕ → Type 0 = λ k. Comments at (record { line = p.line; column = k }) [] r in
    subst B j (subst A i h)
runs (b ∷ bs) at p r h = runs_on at b p bs r (λ i q. runs bs i q r) (in_comment b) refl h

comments_at : (at : ℕ) (p : Place) (bs cs : List ℕ) (r : Outcome) → bs ≡ cs → Comments at p cs r → Comments at p bs r
comments_at at p bs cs r e h = let P : List ℕ → Type 0 = λ k. Comments at p k r in subst P (sym e) h

-- a comment with all that stands in it
whole : (text : List ℕ) (at b n : ℕ) (p : Place) (r : Outcome) → slice_get text at ≡ Some b → is_hash b ≡ true → n ≡ prefix_len in_comment (drop (at + 1) text) → Comments (at + 1 + n) (along (1 + n) p) (drop (at + 1 + n) text) r → Lexes at p (drop at text) r
whole text at b n p r s e m h =
    let D : List ℕ → Type 0 = λ k. Comments (at + 1 + n) (along (1 + n) p) k r in
    let d : drop n (drop (at + 1) text) ≡ drop (at + 1 + n) text = drop-drop n (at + 1) text in
    let B : Place → Type 0 = λ q. Comments (at + 1 + n) q (drop n (drop (at + 1) text)) r in
    let N : ℕ → Type 0 = λ k. Comments (at + 1 + k) (along k (along 1 p)) (drop k (drop (at + 1) text)) r in
    lexes_at at p (drop at text) (b ∷ drop (at + 1) text) r (cut_at text at b s) (hash e (runs (drop (at + 1) text) (at + 1) (along 1 p) r (subst N m (subst B (along_more n p) (subst D (sym d) h)))))

pub past : (xs : List ℕ) (k : ℕ) → slice_get xs k ≡ None → drop k xs ≡ []
past xs k e = go (slice_get_cases xs k).1
  where
    go : ((x : ℕ) × (k < length xs) × (slice_get xs k ≡ Some x) × (get_or xs k x ≡ x)) ⊎ ((length xs ≤ k) × (slice_get xs k ≡ None)) → drop k xs ≡ []
    go (inl w) = let f = w.2 in absurd cc
    go (inr w) = drop_all k xs w.0

ended : {i : ℕ} {q : Place} {r : Outcome} → Lexes i q [] r → Comments i q [] r
ended end = over

pub comment_end : (text : List ℕ) (at b n : ℕ) (p : Place) (r : Outcome) → slice_get text at ≡ Some b → is_hash b ≡ true → n ≡ prefix_len in_comment (drop (at + 1) text) → slice_get text (at + 1 + n) ≡ None → Lexes (at + 1 + n) (along (1 + n) p) (drop (at + 1 + n) text) r → Lexes at p (drop at text) r
comment_end text at b n p r s e m x h =
    let d : drop (at + 1 + n) text ≡ [] = past text (at + 1 + n) x in
    let P : List ℕ → Type 0 = λ k. Lexes (at + 1 + n) (along (1 + n) p) k r in
    whole text at b n p r s e m (comments_at (at + 1 + n) (along (1 + n) p) (drop (at + 1 + n) text) [] r d (ended (subst P d h)))

pub comment_line : (text : List ℕ) (at b n c : ℕ) (p : Place) (r : Outcome) → slice_get text at ≡ Some b → is_hash b ≡ true → n ≡ prefix_len in_comment (drop (at + 1) text) → slice_get text (at + 1 + n) ≡ Some c → c ≡ 10 → Lexes (at + 1 + n) (along (1 + n) p) (drop (at + 1 + n) text) r → Lexes at p (drop at text) r
comment_line text at b n c p r s e m x l h =
    let d : drop (at + 1 + n) text ≡ c ∷ drop (at + 1 + n + 1) text = cut_at text (at + 1 + n) c x in
    let P : List ℕ → Type 0 = λ k. Lexes (at + 1 + n) (along (1 + n) p) k r in
    whole text at b n p r s e m (comments_at (at + 1 + n) (along (1 + n) p) (drop (at + 1 + n) text) (c ∷ drop (at + 1 + n + 1) text) r d (line (ap is_line_feed l) (subst P d h)))

stops_on : (b : ℕ) (bs : List ℕ) (c : ℕ) (cs : List ℕ) → (drop (prefix_len in_comment bs) bs ≡ c ∷ cs → in_comment c ≡ false) → (v : Bool) → in_comment b ≡ v → drop (cond v (1 + prefix_len in_comment bs) 0) (b ∷ bs) ≡ c ∷ cs → in_comment c ≡ false
stops_on b bs c cs more true f g = let d : 1 + prefix_len in_comment bs ≡ suc (prefix_len in_comment bs) = omega arith in more (rw d at g)
stops_on b bs c cs more false f g = let h : b ≡ c = cc in ap in_comment (sym h) ∙ f

stops : (bs : List ℕ) (c : ℕ) (cs : List ℕ) → drop (prefix_len in_comment bs) bs ≡ c ∷ cs → in_comment c ≡ false
stops [] c cs e = cc
stops (b ∷ bs) c cs e = stops_on b bs c cs (stops bs c cs) (in_comment b) refl e

not_alphabet : (c : ℕ) → in_comment c ≡ false → (c ≡ 10 → ⊥) → in_alphabet c ≡ false
not_alphabet c e f = go (in_alphabet c) (c == 10) refl refl e
  where
    go : (v w : Bool) → in_alphabet c ≡ v → (c == 10) ≡ w → (v && not w) ≡ false → in_alphabet c ≡ false
    go false w a q h = a
    go true true a q h = absurd (f (eqb-true c 10 q))
    go true false a q h = absurd cc

pub comment_odd : (text : List ℕ) (at b n c : ℕ) (p : Place) → slice_get text at ≡ Some b → is_hash b ≡ true → n ≡ prefix_len in_comment (drop (at + 1) text) → slice_get text (at + 1 + n) ≡ Some c → (c ≡ 10 → ⊥) → Lexes at p (drop at text) (unread (along (1 + n) p))
comment_odd text at b n c p s e m x l =
    let d : drop (at + 1 + n) text ≡ c ∷ drop (at + 1 + n + 1) text = cut_at text (at + 1 + n) c x in
    let f : drop (prefix_len in_comment (drop (at + 1) text)) (drop (at + 1) text) ≡ c ∷ drop (at + 1 + n + 1) text = ap (λ k. drop k (drop (at + 1) text)) (sym m) ∙ drop-drop n (at + 1) text ∙ d in
    whole text at b n p (unread (along (1 + n) p)) s e m (comments_at (at + 1 + n) (along (1 + n) p) (drop (at + 1 + n) text) (c ∷ drop (at + 1 + n + 1) text) (unread (along (1 + n) p)) d (foreign (not_alphabet c (stops (drop (at + 1) text) c (drop (at + 1 + n + 1) text) f) l)))

-- ---- tokens

module _ (text : List ℕ) (at b : ℕ) (p : Place) (s : slice_get text at ≡ Some b) where
  pub token_none : is_blank b ≡ false → is_hash b ≡ false → NoToken (drop at text) → Lexes at p (drop at text) (unread p)
  token_none e f h = let P : List ℕ → Type 0 = λ k. NoToken k in lexes_at at p (drop at text) (b ∷ drop (at + 1) text) (unread p) (cut_at text at b s) (odd e f (subst P (cut_at text at b s) h))

  pub token_large : (n : ℕ) → Longest Number n (drop at text) → value Number (take n (drop at text)) ≡ None → Lexes at p (drop at text) (too_large p)
  token_large n h v = let P : List ℕ → Type 0 = λ k. Longest Number n k × (value Number (take n k) ≡ None) in let w = subst P (cut_at text at b s) (h, v) in lexes_at at p (drop at text) (b ∷ drop (at + 1) text) (too_large p) (cut_at text at b s) (large w.0 w.1)

  pub token_found : (k : TokenKind) (n : ℕ) (v : ℤ) (r : Outcome) → Longest k n (drop at text) → value k (take n (drop at text)) ≡ Some v → Lexes (at + n) (along n p) (drop (at + n) text) r → Lexes at p (drop at text) (before (record { kind = k; start = at; end = at + n; value = v; place = p } ∷ []) r)
  token_found k n v r h w l =
      let P : List ℕ → Type 0 = λ x. Longest k n x × (value k (take n x) ≡ Some v) × Lexes (at + n) (along n p) (drop n x) r in
      let D : List ℕ → Type 0 = λ x. Lexes (at + n) (along n p) x r in
      let q = subst P (cut_at text at b s) (h, w, subst D (sym (drop-drop n at text)) l) in
      lexes_at at p (drop at text) (b ∷ drop (at + 1) text) (before (record { kind = k; start = at; end = at + n; value = v; place = p } ∷ []) r) (cut_at text at b s) (token q.0 q.1 q.2)

pub value_none : (k : TokenKind) (bs : List ℕ) → value k bs ≡ None → k ≡ Number
value_none Number bs e = refl
value_none Name bs e = cc
value_none Word bs e = cc
value_none Symbol bs e = cc

-- a token before an outcome, behind the tokens so far
pub behind : (ts : List Token) (t : Option Token) (r : Outcome) → before ts (before_one t r) ≡ before (ts ++ one_of t) r
behind ts None (Ok us) = ap (λ k. let o : Outcome = Ok (k ++ us) in o) (sym (append-nil ts))
behind ts None (Err e) = refl
behind ts (Some t) (Ok us) = ap (λ k. let o : Outcome = Ok k in o) (sym (append_assoc ts (t ∷ []) us))
behind ts (Some t) (Err e) = refl

long : (k : TokenKind) (n : ℕ) (text : List ℕ) → IsToken k (take n text) → 0 < n
long k zero text t = absurd (no_empty k t)
long k (suc n) text t = omega arith

pub some_long : (k : TokenKind) (n : ℕ) (text : List ℕ) → Longest k n text → 0 < n
some_long k n text h = long k n text h.token

pub after_line : (b : ℕ) (p : Place) → (after b p).line ≤ p.line + 1
after_line b p = go (b == 10)
  where
    go : (v : Bool) → (cond v (let q : Place = record { line = p.line + 1; column = 1 } in q) (record { line = p.line; column = p.column + 1 })).line ≤ p.line + 1
    go true = omega arith
    go false = omega arith

pub after_column : (b : ℕ) (p : Place) → (after b p).column ≤ p.column + 1
after_column b p = go (b == 10)
  where
    go : (v : Bool) → (cond v (let q : Place = record { line = p.line + 1; column = 1 } in q) (record { line = p.line; column = p.column + 1 })).column ≤ p.column + 1
    go true = omega arith
    go false = omega arith

read_byte : (text : List ℕ) (at b : ℕ) → at < length text → b ≡ get_or text at 0 → slice_get text at ≡ Some b
read_byte text at b h e = slice_get-get_or text at 0 h ∙ ap Some (sym e)

pub blank_steps : (text : List ℕ) (at : ℕ) (p q : Place) → at < length text → p.line ≤ at + 1 → p.column ≤ at + 1 → is_blank (get_or text at 0) ≡ true → q ≡ after (get_or text at 0) p → Goes text at p (record { token = None; at = at + 1; place = q })
blank_steps text at p q h l k e f =
    let P : Place → Type 0 = λ z. Goes text at p (record { token = None; at = at + 1; place = z }) in
    subst P (sym f) (record {
      within = omega arith;
      further = omega arith;
      line = let a = after_line (get_or text at 0) p in omega arith;
      column = let a = after_column (get_or text at 0) p in omega arith;
      goes = λ r g. blank_step text at (get_or text at 0) p r (read_byte text at (get_or text at 0) h refl) e g;
    })

-- a step that reads no token
pub silent : (text : List ℕ) (at n : ℕ) (p q : Place) → n ≤ length (drop (at + 1) text) → at < length text → p.line ≤ at + 1 → p.column ≤ at + 1 → q ≡ along (1 + n) p → ((r : Outcome) → Lexes (at + 1 + n) (along (1 + n) p) (drop (at + 1 + n) text) r → Lexes at p (drop at text) r) → Goes text at p (record { token = None; at = at + 1 + n; place = q })
silent text at n p q w h l k f g =
    let P : Place → Type 0 = λ z. Goes text at p (record { token = None; at = at + 1 + n; place = z }) in
    subst P (sym f) (record {
      within = let d = length-drop (at + 1) text in omega arith;
      further = omega arith;
      line = omega arith;
      column = omega arith;
      goes = g;
    })

pub token_steps : (text : List ℕ) (at b n : ℕ) (p q : Place) (k : TokenKind) (v : ℤ) (t : Token) → slice_get text at ≡ Some b → at < length text → p.line ≤ at + 1 → p.column ≤ at + 1 → Longest k n (drop at text) → value k (take n (drop at text)) ≡ Some v → q ≡ along n p → t ≡ record { kind = k; start = at; end = at + n; value = v; place = p } → Goes text at p (record { token = Some t; at = at + n; place = q })
token_steps text at b n p q k v t s h l m g w f i =
    let P : Place → Type 0 = λ z. Goes text at p (record { token = Some t; at = at + n; place = z }) in
    let T : Token → Type 0 = λ z. Goes text at p (record { token = Some z; at = at + n; place = along n p }) in
    let x = some_long k n (drop at text) g in
    subst P (sym f) (subst T (sym i) (record {
      within = let d = length-drop at text in let y = g.within in omega arith;
      further = omega arith;
      line = omega arith;
      column = omega arith;
      goes = λ r u. token_found text at b p s k n v r g w u;
    }))
