-- Lists of forms, as a loop reads them.
use Rattle.std.proofs.Common.{◌≡◌, ℕ, ◌≤◌, refl, sym, ◌∙◌, ap, subst, List, [], ◌∷◌, ◌++◌, append_assoc, append-nil, Option, Result, Ok, Err, drop, arith}
use Rattle.tap_base.specs.declared.token.Sign.{Sign}
use Rattle.tap_lexer.specs.Lexeme.{Lexeme}
use Rattle.tap_lexer.specs.declared.found.Found.{Found}
use Rattle.tap_lexer.specs.inner.Reading.{Shows}
use Rattle.tap_lexer.specs.inner.Reading.{Lacks, Free}
use Rattle.tap_expr.specs.declared.found.Stuck.{Stuck}
use Rattle.tap_parser.specs.declared.kept.Kept.{Kept}
use Rattle.tap_parser.specs.declared.kept.Kept.TheVariants.{Whole, Large}
use Rattle.tap_parser.specs.inner.Keeping.{both, mapped, listed, appended}
use Rattle.tap_parser.specs.inner.Forms.{Begins}
use Rattle.tap_parser.specs.inner.Reading.{Answers}
use Rattle.tap_parser.proofs.TextParts.{Form, Follow, Both, joined, renamed, both_answers, both_stuck, anywhere, begins_here, lacks_here, renamed_answers, empty_answers, begun}

-- the further forms of a list, each with what stands before it
pub data Further {A : Type 0} (Step : A → List Lexeme → List Lexeme → Type 0) : List A → List Lexeme → List Lexeme → Type 0 where
  done : {ts : List Lexeme} → Further Step [] ts ts
  next : {a : A} {as_ : List A} {ts us ws : List Lexeme} → Step a ts us → Further Step as_ us ws → Further Step (a ∷ as_) ts ws

abbrev pub prefixed : {A : Type 0} → Kept (List A) → Result (Found (Kept (List A))) Stuck → Result (Found (Kept (List A))) Stuck
prefixed kept r = joined (λ as_ bs. as_ ++ bs) kept r

start_kept : {A : Type 0} (p : Kept A) (q : Kept (List A)) → mapped {A = A × List A} (λ v. v.0 ∷ v.1) (both (λ a b. (a, b)) p q) ≡ both (λ as_ bs. as_ ++ bs) (listed p) q
start_kept (Whole a) (Whole b) = refl
start_kept (Whole a) (Large j) = refl
start_kept (Large i) q = refl

more_kept : {A : Type 0} (k : Kept (List A)) (p : Kept A) (q : Kept (List A)) → both (λ as_ bs. as_ ++ bs) k (mapped {A = A × List A} (λ v. v.0 ∷ v.1) (both (λ a b. (a, b)) p q)) ≡ both (λ as_ bs. as_ ++ bs) (appended k p) q
more_kept (Whole l) (Whole a) (Whole b) = ap (λ m. Whole m) (sym (append_assoc l (a ∷ []) b))
more_kept (Whole l) (Whole a) (Large j) = refl
more_kept (Whole l) (Large i) q = refl
more_kept (Large h) p q = refl

last_kept : {A : Type 0} (k : Kept (List A)) → both (λ as_ bs. as_ ++ bs) k (Whole []) ≡ k
last_kept (Whole l) = ap (λ m. Whole m) (append-nil l)
last_kept (Large h) = refl

abbrev pub Ends : Follow → Sign → Follow
Ends S s us = S us × Lacks s us

-- what is known at the loop: to answer for the rest of the list is to answer for the whole
abbrev pub Leads : {A : Type 0} → Form A → Form (List A) → Follow → Sign → List Lexeme → ℕ → ℕ → Kept (List A) → Type 0
Leads {A} Step L S s xs at m kept = (at ≤ m) × ((r : Result (Found (Kept (List A))) Stuck) → Answers (λ n. Further (Step n)) (Ends S s) xs m r → Answers L (Ends S s) xs at (prefixed kept r))

module _ {A : Type 0} (Item Step : Form A) (L : Form (List A)) (S : Follow) (s : Sign)
    (parted : (ts : List Lexeme) → Begins s ts → S ts)
    (starts : (n : Option ℕ) (a : A) (ts us : List Lexeme) → Step n a ts us → Begins s ts)
    (to_list : (n : Option ℕ) (v : A × List A) (ts ws : List Lexeme) → Both Item (λ m. Further (Step m)) n v ts ws → L n (v.0 ∷ v.1) ts ws)
    (of_list : (n : Option ℕ) (as_ : List A) (ts ws : List Lexeme) → L n as_ ts ws → (v : A × List A) × Both Item (λ m. Further (Step m)) n v ts ws × (as_ ≡ v.0 ∷ v.1)) where
  goes : (n : Option ℕ) (as_ : List A) (us ws : List Lexeme) → Further (Step n) as_ us ws → Ends S s ws → S us
  goes n as_ us ws done h = h.0
  goes n as_ us ws (next {a} {ts} {us = ks} j f) h = parted ts (starts n a ts ks j)

  module _ (xs : List Lexeme) (at : ℕ) where
    begin_answers : (p : Found (Kept A)) (r : Result (Found (Kept (List A))) Stuck) → Answers Item S xs at (Ok p) → Answers (λ n. Further (Step n)) (Ends S s) xs p.next r → Answers L (Ends S s) xs at (renamed {A = A × List A} (λ v. v.0 ∷ v.1) (joined (λ a b. (a, b)) p.value r))
    begin_answers p r h g = renamed_answers (Both Item (λ n. Further (Step n))) L (Ends S s) (Ends S s) (λ v. v.0 ∷ v.1) Free (λ n v ts ws q b. to_list n v ts ws b) (λ n as_ ts ws q l e. of_list n as_ ts ws l) (λ us h. h) xs at _ (anywhere xs at) (both_answers Item (λ n. Further (Step n)) S (Ends S s) goes xs at p r h g)

    begin_prefixed : (p : Found (Kept A)) (k : Kept (List A)) (r : Result (Found (Kept (List A))) Stuck) → k ≡ listed p.value → Answers L (Ends S s) xs at (renamed {A = A × List A} (λ v. v.0 ∷ v.1) (joined (λ a b. (a, b)) p.value r)) → Answers L (Ends S s) xs at (prefixed k r)
    begin_prefixed p k (Ok q) e h =
        let G : Kept (List A) → Type 0 = λ i. Answers L (Ends S s) xs at (Ok (record { value = i; next = q.next })) in
        let i : both (λ as_ bs. as_ ++ bs) (listed p.value) q.value ≡ both (λ as_ bs. as_ ++ bs) k q.value = ap (λ j. both (λ as_ bs. as_ ++ bs) j q.value) (sym e) in
        subst G (start_kept p.value q.value ∙ i) h
    begin_prefixed p k (Err i) e h = h

    pub leads_first : (p : Found (Kept A)) (k : Kept (List A)) → k ≡ listed p.value → Answers Item S xs at (Ok p) → Leads Step L S s xs at p.next k
    leads_first p k e h = (h.0, λ r g. begin_prefixed p k r e (begin_answers p r h g))

    pub first_stuck : (e : Stuck) → Answers Item S xs at (Err e) → Answers L (Ends S s) xs at (Err e)
    first_stuck e h = renamed_answers (Both Item (λ n. Further (Step n))) L (Ends S s) (Ends S s) (λ v. v.0 ∷ v.1) Free (λ n v ts ws q b. to_list n v ts ws b) (λ n as_ ts ws q l i. of_list n as_ ts ws l) (λ us i. i) xs at (Err e) (anywhere xs at) (both_stuck Item (λ n. Further (Step n)) S (Ends S s) goes xs at e h)

    unstep : (n : Option ℕ) (as_ : List A) (ts us : List Lexeme) → Begins s ts → Further (Step n) as_ ts us → Ends S s us → (v : A × List A) × Both Step (λ m. Further (Step m)) n v ts us × (as_ ≡ v.0 ∷ v.1)
    unstep n as_ ts us b done e = absurd (begun s ts b e.1)
    unstep n as_ ts us b (next {a} {as_ = bs} {us = ks} j f) e = ((a, bs), (ks, j, f), refl)

    step_answers : (m : ℕ) (r : Result (Found (Kept (A × List A))) Stuck) → Shows s xs m → Answers (Both Step (λ n. Further (Step n))) (Ends S s) xs m r → Answers (λ n. Further (Step n)) (Ends S s) xs m (renamed {A = A × List A} (λ v. v.0 ∷ v.1) r)
    step_answers m r x h = renamed_answers (Both Step (λ n. Further (Step n))) (λ n. Further (Step n)) (Ends S s) (Ends S s) (λ v. v.0 ∷ v.1) (Begins s) (λ n v ts us q b. next b.1 b.2) unstep (λ us i. i) xs m r (begins_here xs m s x) h

    more_prefixed : (p : Found (Kept A)) (k c : Kept (List A)) (r : Result (Found (Kept (List A))) Stuck) → c ≡ appended k p.value → Answers L (Ends S s) xs at (prefixed k (renamed {A = A × List A} (λ v. v.0 ∷ v.1) (joined (λ a b. (a, b)) p.value r))) → Answers L (Ends S s) xs at (prefixed c r)
    more_prefixed p k c (Ok q) e h =
        let G : Kept (List A) → Type 0 = λ i. Answers L (Ends S s) xs at (Ok (record { value = i; next = q.next })) in
        let i : both (λ as_ bs. as_ ++ bs) (appended k p.value) q.value ≡ both (λ as_ bs. as_ ++ bs) c q.value = ap (λ j. both (λ as_ bs. as_ ++ bs) j q.value) (sym e) in
        subst G (more_kept k p.value q.value ∙ i) h
    more_prefixed p k c (Err i) e h = h

    pub leads_more : (m : ℕ) (k c : Kept (List A)) (p : Found (Kept A)) → Leads Step L S s xs at m k → Shows s xs m → Answers Step S xs m (Ok p) → c ≡ appended k p.value → Leads Step L S s xs at p.next c
    leads_more m k c p h x g e = (
      let a = h.0 in let b = g.0 in omega arith,
      λ r f.
          more_prefixed p k c r e (h.1 _ (step_answers m _ x (both_answers Step (λ n. Further (Step n)) S (Ends S s) goes xs m p r g f))),
    )

    pub leads_stuck : (m : ℕ) (k : Kept (List A)) (e : Stuck) → Leads Step L S s xs at m k → Shows s xs m → Answers Step S xs m (Err e) → Answers L (Ends S s) xs at (Err e)
    leads_stuck m k e h x g = h.1 (Err e) (step_answers m (Err e) x (both_stuck Step (λ n. Further (Step n)) S (Ends S s) goes xs m e g))

    undone : (n : Option ℕ) (as_ : List A) (ts us : List Lexeme) → Lacks s ts → Further (Step n) as_ ts us → Ends S s us → (as_ ≡ []) × (us ≡ ts)
    undone n as_ ts us b done e = (refl, refl)
    undone n as_ ts us b (next {a} {us = ks} j f) e = absurd (begun s ts (starts n a ts ks j) b)

    pub leads_last : (m : ℕ) (k : Kept (List A)) → Leads Step L S s xs at m k → Lacks s (drop m xs) → Answers L (Ends S s) xs at (Ok (record { value = k; next = m }))
    leads_last m k h l =
        let G : Kept (List A) → Type 0 = λ i. Answers L (Ends S s) xs at (Ok (record { value = i; next = m })) in
        subst G (last_kept k) (h.1 (Ok (record { value = Whole []; next = m })) (empty_answers (λ n. Further (Step n)) (Ends S s) (Lacks s) xs m [] (lacks_here xs m s l) (λ n ts q. done) undone))
