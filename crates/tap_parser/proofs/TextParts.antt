-- Forms are put together from their parts, whatever is asked of the expressions in them.
use Rattle.std.proofs.Common.{◌≡◌, ℕ, ◌+◌, ◌-◌, ◌<◌, ◌≤◌, refl, sym, ◌∙◌, ap, subst, List, [], ◌∷◌, Option, Some, None, true, Result, Ok, Err, IsErrAnd, drop, length, ltb-true, lt-ltb, arith}
use Rattle.std.proofs.lemmas.List.{length-drop}
use Rattle.tap_base.specs.declared.token.Sign.{Sign}
use Rattle.tap_lexer.specs.Lexeme.{Lexeme}
use Rattle.tap_lexer.specs.declared.found.Found.{Found}
use Rattle.tap_lexer.specs.inner.Reading.{Shows}
use Rattle.tap_lexer.specs.inner.Reading.{Lacks, Never, Stands, Closed, closed, Free}
use Rattle.tap_expr.specs.declared.found.Stuck.{Stuck}
use Rattle.tap_expr.specs.declared.found.Stuck.TheVariants as stuck
use Rattle.tap_expr.specs.inner.ExprReading.{Alike}
use Rattle.tap_expr.proofs.ExprAlike.{less, shows_as, lacks_at, stands_as}
use Rattle.tap_parser.specs.declared.kept.Kept.{Kept}
use Rattle.tap_parser.specs.declared.kept.Kept.TheVariants.{Whole, Large}
use Rattle.tap_parser.specs.inner.Keeping.{both, mapped}
use Rattle.tap_parser.specs.inner.Forms.{Begins}
use Rattle.tap_parser.specs.inner.Reading.{IsReadOnce, Verdict, asks, Agrees, Lies, Answers, Tells, Expects}

abbrev pub Form : Type 0 → Type 1
Form A = Option ℕ → A → List Lexeme → List Lexeme → Type 0

abbrev pub Follow : Type 1
Follow = List Lexeme → Type 0

-- a token with the sign stands first, or another one does, or none
pub begun : (s : Sign) (ts : List Lexeme) → Begins s ts → Lacks s ts → ⊥
begun s [] b l = b
begun s (x ∷ us) b l = l b

-- ---- two forms, one behind the other

abbrev pub Both : {A B : Type 0} → Form A → Form B → Form (A × B)
Both P Q n v ts ws = (us : List Lexeme) × P n v.0 ts us × Q n v.1 us ws

abbrev pub joined : {A B C : Type 0} → (A → B → C) → Kept A → Result (Found (Kept B)) Stuck → Result (Found (Kept C)) Stuck
joined f kept (Ok q) = Ok (record { value = both f kept q.value; next = q.next })
joined f kept (Err e) = Err e

abbrev pub renamed : {A B : Type 0} → (A → B) → Result (Found (Kept A)) Stuck → Result (Found (Kept B)) Stuck
renamed f (Ok q) = Ok (record { value = mapped f q.value; next = q.next })
renamed f (Err e) = Err e

pair_of : {A B : Type 0} → Option A → Option B → Option (A × B)
pair_of (Some a) (Some b) = Some (a, b)
pair_of (Some a) None = None
pair_of None ob = None

later_asks : (n : Option ℕ) (ys : List Lexeme) (j k : ℕ) → j ≤ k → asks n ys k ≡ true → asks n ys j ≡ true
later_asks None ys j k h e = absurd cc
later_asks (Some n) ys j k h e =
    let p : n < length (drop k ys) = ltb-true n (length (drop k ys)) e in
    let q : length (drop k ys) ≡ length ys - k = length-drop k ys in
    let r : length (drop j ys) ≡ length ys - j = length-drop j ys in
    lt-ltb n (length (drop j ys)) (omega arith)

agrees_both : {A B : Type 0} (n : Option ℕ) (xs ys : List Lexeme) (at m k : ℕ) (p : Kept A) (q : Kept B) (oa : Option A) (ob : Option B) → Lies xs at m p → Lies xs m k q → Agrees n ys p oa → Agrees n ys q ob → Agrees n ys (both (λ a b. (a, b)) p q) (pair_of oa ob)
unfolding pair_of
agrees_both n xs ys at m k (Whole a) (Whole b) (Some c) (Some d) l r e f = cc
agrees_both n xs ys at m k (Whole a) (Whole b) (Some c) None l r e f = absurd cc
agrees_both n xs ys at m k (Whole a) (Whole b) None ob l r e f = absurd cc
agrees_both n xs ys at m k (Whole a) (Large j) (Some c) (Some d) l r e f = f
agrees_both n xs ys at m k (Whole a) (Large j) (Some c) None l r e f = f
agrees_both n xs ys at m k (Whole a) (Large j) None ob l r e f = absurd cc
agrees_both n xs ys at m k (Large i) (Whole b) (Some c) (Some d) l r e f = e
agrees_both n xs ys at m k (Large i) (Whole b) (Some c) None l r e f = absurd cc
agrees_both n xs ys at m k (Large i) (Whole b) None ob l r e f = e
agrees_both n xs ys at m k (Large i) (Large j) (Some c) (Some d) l r e f = e
agrees_both n xs ys at m k (Large i) (Large j) (Some c) None l r e f = let t = later_asks n ys i j (let x = l.1 in let y = r.0 in omega arith) f in absurd cc
agrees_both n xs ys at m k (Large i) (Large j) None ob l r e f = e

lies_both : {A B : Type 0} (xs : List Lexeme) (at m k : ℕ) (p : Kept A) (q : Kept B) → at ≤ m → m ≤ k → Lies xs at m p → Lies xs m k q → Lies {A = A × B} xs at k (both {C = A × B} (λ a b. (a, b)) p q)
lies_both xs at m k (Whole a) (Whole b) h g l r = tt
lies_both xs at m k (Whole a) (Large j) h g l r = let x = r.0 in let y : (at ≤ j) × (j ≤ k) × (j < length xs) = (omega arith, r.1, r.2) in y
lies_both xs at m k (Large i) q h g l r = let x = l.1 in let y : (at ≤ i) × (i ≤ k) × (i < length xs) = (l.0, omega arith, l.2) in y

module _ {A B : Type 0} (P : Form A) (Q : Form B) (SP SQ : Follow) (leads : (n : Option ℕ) (b : B) (us ws : List Lexeme) → Q n b us ws → SQ ws → SP us) where
  paired : (n : Option ℕ) (ts us ws : List Lexeme) (oa : Option A) (ob : Option B) → Verdict (P n) SP ts us oa → Verdict (Q n) SQ us ws ob → Verdict (Both P Q n) SQ ts ws (pair_of oa ob)
  unfolding pair_of
  paired n ts us ws (Some a) (Some b) v w = record {
    spelled = (us, v.spelled, w.spelled);
    only = λ c vs r stops.
        let h = v.only c.0 r.0 r.1 (leads n c.1 r.0 vs r.2 stops) in
        let G : List Lexeme → Type 0 = λ k. Q n c.1 k vs in
        let g = w.only c.1 vs (subst G h.1 r.2) stops in
        (ap (λ k. (k, c.1)) h.0 ∙ ap (λ k. (a, k)) g.0, g.1);
  }
  paired n ts us ws (Some a) None v w = λ c vs r stops.
      let h = v.only c.0 r.0 r.1 (leads n c.1 r.0 vs r.2 stops) in
      let G : List Lexeme → Type 0 = λ k. Q n c.1 k vs in
      w c.1 vs (subst G h.1 r.2) stops
  paired n ts us ws None ob v w = λ c vs r stops. v c.0 r.0 r.1 (leads n c.1 r.0 vs r.2 stops)

  never_paired : (n : Option ℕ) (ts us : List Lexeme) (oa : Option A) → Verdict (P n) SP ts us oa → Never (Q n) SQ us → Never (Both P Q n) SQ ts
  never_paired n ts us (Some a) v w = λ c vs r stops.
      let h = v.only c.0 r.0 r.1 (leads n c.1 r.0 vs r.2 stops) in
      let G : List Lexeme → Type 0 = λ k. Q n c.1 k vs in
      w c.1 vs (subst G h.1 r.2) stops
  never_paired n ts us None v w = λ c vs r stops. v c.0 r.0 r.1 (leads n c.1 r.0 vs r.2 stops)

  pub both_answers : (xs : List Lexeme) (at : ℕ) (p : Found (Kept A)) (r : Result (Found (Kept B)) Stuck) → Answers P SP xs at (Ok p) → Answers Q SQ xs p.next r → Answers (Both P Q) SQ xs at (joined (λ a b. (a, b)) p.value r)
  both_answers xs at p (Ok q) h g =
      let a = h.0 in
      let b = g.0 in (
        omega arith,
        lies_both xs at p.next q.next p.value q.value a b h.1 g.1,
        λ ys same n.
            let v = h.2 ys (less (p.next + 1) (q.next + 1) xs ys (omega arith) same) n in
            let w = g.2 ys same n in
            (pair_of v.0 w.0, paired n (drop at ys) (drop p.next ys) (drop q.next ys) v.0 w.0 v.1 w.1, agrees_both n xs ys at p.next q.next p.value q.value v.0 w.0 h.1 g.1 v.2 w.2),
      )
  both_answers xs at p (Err (stuck.At k)) h g =
      let a = h.0 in
      let b = g.0 in (
        omega arith,
        λ ys same n.
            let v = h.2 ys (less (p.next + 1) (k + 1) xs ys (omega arith) same) n in
            never_paired n (drop at ys) (drop p.next ys) v.0 v.1 (g.1 ys same n),
      )
  both_answers xs at p (Err stuck.NoMemory) h g = tt

  pub both_stuck : (xs : List Lexeme) (at : ℕ) (e : Stuck) → Answers P SP xs at (Err e) → Answers (Both P Q) SQ xs at (Err e)
  both_stuck xs at (stuck.At k) h = (h.0, λ ys same n c vs r stops. h.1 ys same n c.0 r.0 r.1 (leads n c.1 r.0 vs r.2 stops))
  both_stuck xs at stuck.NoMemory h = tt

-- ---- a token before a form

pub data After {A : Type 0} (s : Sign) (Q : A → List Lexeme → List Lexeme → Type 0) : A → List Lexeme → List Lexeme → Type 0 where
  after : {a : A} {x : Lexeme} {ts us : List Lexeme} → x.sign ≡ s → Q a ts us → After s Q a (x ∷ ts) us

behind : {A : Type 0} (s : Sign) (Q : A → List Lexeme → List Lexeme → Type 0) (a : A) (x : Lexeme) (ts us ws : List Lexeme) → After s Q a ts ws → ts ≡ x ∷ us → Q a us ws
behind s Q a x ts us ws (after {x = y} {ts = vs} e q) i = let j : vs ≡ us = cc in let G : List Lexeme → Type 0 = λ k. Q a k ws in subst G j q

no_token : {A : Type 0} (s : Sign) (Q : A → List Lexeme → List Lexeme → Type 0) (a : A) (ts ws : List Lexeme) → After s Q a ts ws → Lacks s ts → ⊥
no_token s Q a ts ws (after e q) l = l e

front : {A : Type 0} (s : Sign) (Q : A → List Lexeme → List Lexeme → Type 0) (a : A) (x : Lexeme) (ts us ws : List Lexeme) → x.sign ≡ s → ts ≡ x ∷ us → Q a us ws → After s Q a ts ws
front s Q a x ts us ws e i q = let G : List Lexeme → Type 0 = λ k. After s Q a k ws in subst G (sym i) (after e q)

module _ {A : Type 0} (s : Sign) (Q : Form A) (S : Follow) where
  after_verdict : (n : Option ℕ) (ts us ws : List Lexeme) (x : Lexeme) → x.sign ≡ s → ts ≡ x ∷ us → (o : Option A) → Verdict (Q n) S us ws o → Verdict (After s (Q n)) S ts ws o
  after_verdict n ts us ws x e i (Some a) v = record {
    spelled = front s (Q n) a x ts us ws e i v.spelled;
    only = λ b vs r stops. v.only b vs (behind s (Q n) b x ts us vs r i) stops;
  }
  after_verdict n ts us ws x e i None v = λ b vs r stops. v b vs (behind s (Q n) b x ts us vs r i) stops

  lies_after : (xs : List Lexeme) (at k : ℕ) (kept : Kept A) → Lies xs (at + 1) k kept → Lies xs at k kept
  lies_after xs at k (Whole a) l = tt
  lies_after xs at k (Large i) l = (let x = l.0 in omega arith, l.1, l.2)

  pub shown_answers : (xs : List Lexeme) (at : ℕ) (r : Result (Found (Kept A)) Stuck) → Shows s xs at → Answers Q S xs (at + 1) r → Answers (λ n. After s (Q n)) S xs at r
  shown_answers xs at (Ok q) x h =
      let b = h.0 in (
        omega arith,
        lies_after xs at q.next q.value h.1,
        λ ys same n.
            let w = h.2 ys same n in
            let y = shows_as xs ys (q.next + 1) same at (omega arith) s x in
            (w.0, after_verdict n (drop at ys) (drop (at + 1) ys) (drop q.next ys) y.x y.is y.stands.cut w.0 w.1, w.2),
      )
  shown_answers xs at (Err (stuck.At k)) x h =
      let b = h.0 in (
        omega arith,
        λ ys same n.
            let y = shows_as xs ys (k + 1) same at (omega arith) s x in
            after_verdict n (drop at ys) (drop (at + 1) ys) [] y.x y.is y.stands.cut None (h.1 ys same n),
      )
  shown_answers xs at (Err stuck.NoMemory) x h = tt

  pub after_answers : (xs : List Lexeme) (at m : ℕ) (r : Result (Found (Kept A)) Stuck) → Expects s xs at (Ok m) → Answers Q S xs m r → Answers (λ n. After s (Q n)) S xs at r
  after_answers xs at m r x h = let G : ℕ → Type 0 = λ k. Answers Q S xs k r in shown_answers xs at r x.0 (subst G x.1 h)

  pub after_lacks : (xs : List Lexeme) (at : ℕ) (e : Stuck) → Expects s xs at (Err e) → Answers (λ n. After s (Q n)) S xs at (Err e)
  after_lacks xs at (stuck.At k) x =
      let G : ℕ → Type 0 = λ i. (at ≤ i) × ((ys : List Lexeme) → Alike (i + 1) xs ys → (n : Option ℕ) → Never (After s (Q n)) S (drop at ys)) in
      subst G (sym x.0) (omega arith, λ ys same n b ws r stops. no_token s (Q n) b (drop at ys) ws r (lacks_at xs ys (at + 1) same at (omega arith) s x.1))
  after_lacks xs at stuck.NoMemory x = tt

-- ---- a form before a token

module _ {A : Type 0} (P : Form A) (SP : Follow) (s : Sign) (leads : (x : Lexeme) (us : List Lexeme) → x.sign ≡ s → SP (x ∷ us)) where
  close : (n : Option ℕ) (ts us ws : List Lexeme) (a b : A) (x : Lexeme) → us ≡ x ∷ ws → x.sign ≡ s → P n a ts us → Closed (P n) s a ts ws
  close n ts us ws a b x i e p = let G : List Lexeme → Type 0 = λ k. P n a ts k in closed (subst G i p) e

  ended : (n : Option ℕ) (ts us ws vs : List Lexeme) (a b : A) (x : Lexeme) → us ≡ x ∷ ws → IsReadOnce (P n) SP ts us a → Closed (P n) s b ts vs → (b ≡ a) × (vs ≡ ws)
  ended n ts us ws vs a b x i v (closed {x = y} {us = ks} p e) = let h = v.only b (y ∷ ks) p (leads y ks e) in let j = h.1 in (h.0, cc)

  never_ended : (n : Option ℕ) (ts vs : List Lexeme) (b : A) → Never (P n) SP ts → Closed (P n) s b ts vs → ⊥
  never_ended n ts vs b v (closed {x = y} {us = ks} p e) = v b (y ∷ ks) p (leads y ks e)

  unended : (n : Option ℕ) (ts us vs : List Lexeme) (a b : A) → IsReadOnce (P n) SP ts us a → Lacks s us → Closed (P n) s b ts vs → ⊥
  unended n ts us vs a b v l (closed {x = y} {us = ks} p e) = let h = v.only b (y ∷ ks) p (leads y ks e) in let G : List Lexeme → Type 0 = λ k. Lacks s k in subst G (sym h.1) l e

  closed_verdict : (n : Option ℕ) (ts us ws : List Lexeme) (x : Lexeme) → us ≡ x ∷ ws → x.sign ≡ s → (o : Option A) → Verdict (P n) SP ts us o → Verdict (Closed (P n) s) Free ts ws o
  closed_verdict n ts us ws x i e (Some a) v = record {
    spelled = close n ts us ws a a x i e v.spelled;
    only = λ b vs r stops. ended n ts us ws vs a b x i v r;
  }
  closed_verdict n ts us ws x i e None v = λ b vs r stops. never_ended n ts vs b v r

  unclosed_verdict : (n : Option ℕ) (ts us : List Lexeme) → Lacks s us → (o : Option A) → Verdict (P n) SP ts us o → Never (Closed (P n) s) Free ts
  unclosed_verdict n ts us l (Some a) v = λ b vs r stops. unended n ts us vs a b v l r
  unclosed_verdict n ts us l None v = λ b vs r stops. never_ended n ts vs b v r

  lies_closed : (xs : List Lexeme) (at k : ℕ) (kept : Kept A) → Lies xs at k kept → Lies xs at (k + 1) kept
  lies_closed xs at k (Whole a) l = tt
  lies_closed xs at k (Large i) l = (l.0, let x = l.1 in omega arith, l.2)

  pub closed_answers : (xs : List Lexeme) (at m : ℕ) (p : Found (Kept A)) → Answers P SP xs at (Ok p) → Expects s xs p.next (Ok m) → Answers (λ n. Closed (P n) s) Free xs at (Ok (record { value = p.value; next = m }))
  closed_answers xs at m p h x =
      let G : ℕ → Type 0 = λ i. Answers (λ n. Closed (P n) s) Free xs at (Ok (record { value = p.value; next = i })) in
      let a = h.0 in
      let w = x.0 in
      let g : Answers (λ n. Closed (P n) s) Free xs at (Ok (record { value = p.value; next = p.next + 1 })) = (
        omega arith,
        lies_closed xs at p.next p.value h.1,
        λ ys same n.
            let v = h.2 ys (less (p.next + 1) (p.next + 1 + 1) xs ys (omega arith) same) n in
            let y = shows_as xs ys (p.next + 1 + 1) same p.next (omega arith) s w in
            (v.0, closed_verdict n (drop at ys) (drop p.next ys) (drop (p.next + 1) ys) y.x y.stands.cut y.is v.0 v.1, v.2),
      ) in
      subst G (sym x.1) g

  pub closed_lacks : (xs : List Lexeme) (at : ℕ) (p : Found (Kept A)) (e : Stuck) → Answers P SP xs at (Ok p) → Expects s xs p.next (Err e) → Answers (λ n. Closed (P n) s) Free xs at (Err e)
  closed_lacks xs at p (stuck.At k) h x =
      let a = h.0 in
      let G : ℕ → Type 0 = λ i. (at ≤ i) × ((ys : List Lexeme) → Alike (i + 1) xs ys → (n : Option ℕ) → Never (Closed (P n) s) Free (drop at ys)) in
      subst G (sym x.0) (
        a,
        λ ys same n.
            let v = h.2 ys same n in
            unclosed_verdict n (drop at ys) (drop p.next ys) (lacks_at xs ys (p.next + 1) same p.next (omega arith) s x.1) v.0 v.1,
      )
  closed_lacks xs at p stuck.NoMemory h x = tt

  pub closed_stuck : (xs : List Lexeme) (at : ℕ) (e : Stuck) → Answers P SP xs at (Err e) → Answers (λ n. Closed (P n) s) Free xs at (Err e)
  closed_stuck xs at (stuck.At k) h = (h.0, λ ys same n b vs r stops. never_ended n (drop at ys) vs b (h.1 ys same n) r)
  closed_stuck xs at stuck.NoMemory h = tt

-- ---- a form under another name, where something is known of the tokens

module _ (xs : List Lexeme) (at : ℕ) where
  -- what holds of the tokens at the place, in every list that agrees up to the one there
  abbrev pub Here : (List Lexeme → Type 0) → Type 0
  Here Q = (ys : List Lexeme) (m : ℕ) → at < m → Alike m xs ys → Q (drop at ys)

  pub anywhere : Here Free
  anywhere ys m h same = tt

  pub begins_here : (s : Sign) → Shows s xs at → Here (Begins s)
  begins_here s x ys m h same = let y = shows_as xs ys m same at h s x in let G : List Lexeme → Type 0 = λ k. Begins s k in subst G (sym y.stands.cut) y.is

  pub lacks_here : (s : Sign) → Lacks s (drop at xs) → Here (Lacks s)
  lacks_here s x ys m h same = lacks_at xs ys m same at h s x

  pub both_here : (Q R : List Lexeme → Type 0) → Here Q → Here R → Here (λ ts. Q ts × R ts)
  both_here Q R q r ys m h same = (q ys m h same, r ys m h same)

module _ {A B : Type 0} (P : Form A) (R : Form B) (SP SR : Follow) (f : A → B) (Q : List Lexeme → Type 0)
    (roll : (n : Option ℕ) (a : A) (ts us : List Lexeme) → Q ts → P n a ts us → R n (f a) ts us)
    (unroll : (n : Option ℕ) (b : B) (ts us : List Lexeme) → Q ts → R n b ts us → SR us → (a : A) × P n a ts us × (b ≡ f a))
    (follow : (us : List Lexeme) → SR us → SP us) where
  renamed_verdict : (n : Option ℕ) (ts us : List Lexeme) → Q ts → (o : Option A) → Verdict (P n) SP ts us o → (q : Kept A) (ys : List Lexeme) → Agrees n ys q o → (i : Option B) × Verdict (R n) SR ts us i × Agrees n ys (mapped f q) i
  renamed_verdict n ts us k (Some a) v q ys e = (
    Some (f a),
    record {
      spelled = roll n a ts us k v.spelled;
      only = λ b ws r stops. let u = unroll n b ts ws k r stops in let h = v.only u.0 ws u.1 (follow ws stops) in (u.2 ∙ ap f h.0, h.1);
    },
    agrees_some n a q ys e,
  )
    where
      agrees_some : (n : Option ℕ) (a : A) (q : Kept A) (ys : List Lexeme) → Agrees n ys q (Some a) → Agrees n ys (mapped f q) (Some (f a))
      agrees_some n a (Whole c) ys e = cc
      agrees_some n a (Large j) ys e = e
  renamed_verdict n ts us k None v q ys e = (None, λ b ws r stops. let u = unroll n b ts ws k r stops in v u.0 ws u.1 (follow ws stops), agrees_none n q ys e)
    where
      agrees_none : (n : Option ℕ) (q : Kept A) (ys : List Lexeme) → Agrees n ys q None → Agrees {A = B} n ys (mapped f q) None
      agrees_none n (Whole c) ys e = absurd cc
      agrees_none n (Large j) ys e = e

  lies_renamed : (xs : List Lexeme) (at k : ℕ) (q : Kept A) → Lies xs at k q → Lies xs at k (mapped f q)
  lies_renamed xs at k (Whole c) l = tt
  lies_renamed xs at k (Large j) l = l

  pub renamed_answers : (xs : List Lexeme) (at : ℕ) (r : Result (Found (Kept A)) Stuck) → Here xs at Q → Answers P SP xs at r → Answers R SR xs at (renamed f r)
  renamed_answers xs at (Ok q) here h = let a = h.0 in (
    a,
    lies_renamed xs at q.next q.value h.1,
    λ ys same n.
        let v = h.2 ys same n in
        renamed_verdict n (drop at ys) (drop q.next ys) (here ys (q.next + 1) (omega arith) same) v.0 v.1 q.value ys v.2,
  )
  renamed_answers xs at (Err (stuck.At k)) here h = let a = h.0 in (
    a,
    λ ys same n b ws r stops.
        let u = unroll n b (drop at ys) ws (here ys (k + 1) (omega arith) same) r stops in
        h.1 ys same n u.0 ws u.1 (follow ws stops),
  )
  renamed_answers xs at (Err stuck.NoMemory) here h = tt

-- ---- single tokens, and nothing

module _ {A : Type 0} (R : Form A) (S : Follow) (Q : List Lexeme → Type 0) (xs : List Lexeme) (at : ℕ) where
  pub fails : Here xs at Q → ((n : Option ℕ) (b : A) (ts us : List Lexeme) → Q ts → R n b ts us → S us → ⊥) → Answers R S xs at (Err (stuck.At at))
  fails here refuse = (omega arith, λ ys same n b ws r stops. refuse n b (drop at ys) ws (here ys (at + 1) (omega arith) same) r stops)

  pub empty_answers : (a : A) → Here xs at Q → ((n : Option ℕ) (ts : List Lexeme) → Q ts → R n a ts ts) → ((n : Option ℕ) (b : A) (ts us : List Lexeme) → Q ts → R n b ts us → S us → (b ≡ a) × (us ≡ ts)) → Answers R S xs at (Ok (record { value = Whole a; next = at }))
  empty_answers a here roll unroll = (
    omega arith,
    tt,
    λ ys same n.
        let k = here ys (at + 1) (omega arith) same in
        (Some a, record { spelled = roll n (drop at ys) k; only = λ b ws r stops. unroll n b (drop at ys) ws k r stops }, refl),
  )

module _ {A : Type 0} (R : Form A) (S : Follow) (xs : List Lexeme) (at : ℕ) where
  at_token : (n : Option ℕ) (a b : A) (x : Lexeme) (ts us ws : List Lexeme) → ts ≡ x ∷ us → ((n : Option ℕ) (b : A) (ts us : List Lexeme) → R n b (x ∷ ts) us → (b ≡ a) × (us ≡ ts)) → R n b ts ws → (b ≡ a) × (ws ≡ us)
  at_token n a b x ts us ws i unroll r = let G : List Lexeme → Type 0 = λ k. R n b k ws in unroll n b us ws (subst G i r)

  pub token_answers : (a : A) (x : Lexeme) → Stands xs at x → ((n : Option ℕ) (ts : List Lexeme) → R n a (x ∷ ts) ts) → ((n : Option ℕ) (b : A) (ts us : List Lexeme) → R n b (x ∷ ts) us → (b ≡ a) × (us ≡ ts)) → Answers R S xs at (Ok (record { value = Whole a; next = at + 1 }))
  token_answers a x w roll unroll = (
    omega arith,
    tt,
    λ ys same n.
        let y = stands_as xs ys (at + 1 + 1) same at (omega arith) x w in
        let G : List Lexeme → Type 0 = λ k. R n a k (drop (at + 1) ys) in
        (Some a, record { spelled = subst G (sym y.cut) (roll n (drop (at + 1) ys)); only = λ b ws r stops. at_token n a b x (drop at ys) (drop (at + 1) ys) ws y.cut unroll r }, refl),
  )

-- ---- answers go up

pub passed : {A : Type 0} (R : Form A) (S : Follow) (xs : List Lexeme) (at : ℕ) (r : Result (Found (Kept A)) Stuck) (e : Stuck) → IsErrAnd r (λ k. k ≡ e) → Answers R S xs at (Err e) → Answers R S xs at r
passed R S xs at (Ok f) e q h = absurd q
passed R S xs at (Err k) e q h = let G : Stuck → Type 0 = λ i. Answers R S xs at (Err i) in subst G (sym q) h

pub told_passed : {A : Type 0} (R : A → List Lexeme → List Lexeme → Type 0) (S : Follow) (xs : List Lexeme) (at : ℕ) (r : Result (Found A) Stuck) (e : Stuck) → IsErrAnd r (λ k. k ≡ e) → Answers (λ n. R) S xs at (Err e) → Tells R S xs at r
told_passed R S xs at (Ok f) e q h = absurd q
told_passed R S xs at (Err k) e q h = let G : Stuck → Type 0 = λ i. Answers (λ n. R) S xs at (Err i) in subst G (sym q) h

pub valued : {A : Type 0} (R : Form A) (S : Follow) (xs : List Lexeme) (at next : ℕ) (a b : Kept A) → a ≡ b → Answers R S xs at (Ok (record { value = b; next = next })) → Answers R S xs at (Ok (record { value = a; next = next }))
valued R S xs at next a b e h = let G : _ → Type 0 = λ k. Answers R S xs at (Ok (record { value = k; next = next })) in subst G (sym e) h

-- a form without expressions, as it is kept
abbrev pub sound : {A : Type 0} → Found A → Found (Kept A)
sound f = record { value = Whole f.value; next = f.next }
