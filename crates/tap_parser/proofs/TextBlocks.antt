-- Lists with separators, blocks, rows, and lists up to a closing sign.
use Rattle.std.proofs.Common.{◌≡◌, ℕ, zero, suc, ◌+◌, ◌<◌, refl, sym, ◌∙◌, ap, subst, List, [], ◌∷◌, Option, Some, None, Result, Ok, Err, take, drop, ◌⊎◌, inl, inr}
use Rattle.std.proofs.lemmas.List.{drop-take}
use Rattle.std.proofs.Math.Nat.{eq-or-lt_of_le}
use Rattle.tap_base.specs.declared.token.Sign.{Sign}
use Rattle.tap_lexer.specs.Lexeme.{Lexeme}
use Rattle.tap_lexer.specs.Rows.{Separated, last, more, SomeSeparated, none, some, Row}
use Rattle.tap_lexer.specs.declared.found.Found.{Found}
use Rattle.tap_lexer.specs.inner.Reading.{Shows}
use Rattle.tap_lexer.specs.inner.Reading.{Lacks, Free, Closed, closed, Stands}
use Rattle.tap_expr.specs.declared.found.Stuck.{Stuck}
use Rattle.tap_expr.specs.inner.ExprReading.{Alike}
use Rattle.tap_parser.specs.Declarations.{Block, absent, present}
use Rattle.tap_parser.specs.declared.kept.Kept.{Kept}
use Rattle.tap_parser.specs.declared.kept.Kept.TheVariants.{Whole, Large}
use Rattle.tap_parser.specs.inner.Forms.{Begins}
use Rattle.tap_parser.specs.inner.Reading.{Answers, Agrees, Verdict}
use Rattle.tap_parser.proofs.TextParts.{Form, Follow, Both, renamed, After, after, shown_answers, anywhere, begins_here, lacks_here, renamed_answers, empty_answers, token_answers, begun}
use Rattle.tap_parser.proofs.TextLists.{Further, done, next}

module _ {A : Type 0} (Item : Form A) (S : Follow) (s : Sign) where
  abbrev pub Steps : Form A
  Steps n = After s (Item n)

  abbrev pub Lists : Form (List A)
  Lists n = Separated (Item n) s

  pub parts : ((x : Lexeme) (us : List Lexeme) → x.sign ≡ s → S (x ∷ us)) → (ts : List Lexeme) → Begins s ts → S ts
  parts h [] e = absurd e
  parts h (x ∷ us) e = h x us e

  pub separated_starts : (n : Option ℕ) (a : A) (ts us : List Lexeme) → Steps n a ts us → Begins s ts
  separated_starts n a ts us (after e i) = e

  list_of : (n : Option ℕ) (a : A) (l : List A) (ts us ws : List Lexeme) → Item n a ts us → Further (Steps n) l us ws → Separated (Item n) s (a ∷ l) ts ws
  list_of n a l ts us ws i done = last i
  list_of n a l ts us ws i (next {a = b} {as_ = k} {us = ms} (after {ts = ns} e j) f) = more i e (list_of n b k ns ms ws j f)

  pub to_separated : (n : Option ℕ) (v : A × List A) (ts ws : List Lexeme) → Both Item (λ m. Further (Steps m)) n v ts ws → Lists n (v.0 ∷ v.1) ts ws
  to_separated n v ts ws (us, i, f) = list_of n v.0 v.1 ts us ws i f

  pub of_separated : (n : Option ℕ) (l : List A) (ts ws : List Lexeme) → Lists n l ts ws → (v : A × List A) × Both Item (λ m. Further (Steps m)) n v ts ws × (l ≡ v.0 ∷ v.1)
  of_separated n l ts ws (last {a} i) = ((a, []), (ws, i, done), refl)
  of_separated n l ts ws (more {a} {as_ = k} {x} {us = ks} i e r) =
      let b = of_separated n k ks ws r in
      let G : List A → Type 0 = λ m. Further (Steps n) m (x ∷ ks) ws in
      ((a, k), (x ∷ ks, i, subst G (sym b.2) (next (after e b.1.1) b.1.2)), refl)

  abbrev pub ListStops : Follow
  ListStops us = S us × Lacks s us

  -- ---- blocks

  module _ (word : Sign) where
    abbrev pub Blocks : Form (List A)
    Blocks n = Block (Item n) word s

    roll_block : (n : Option ℕ) (l : List A) (ts us : List Lexeme) → After word (Lists n) l ts us → Block (Item n) word s l ts us
    roll_block n l ts us (after e i) = present e i

    unroll_block : (n : Option ℕ) (l : List A) (ts us : List Lexeme) → Begins word ts → Block (Item n) word s l ts us → Lacks word us → (v : List A) × After word (Lists n) v ts us × (l ≡ v)
    unroll_block n l ts us q absent k = absurd (begun word ts q k)
    unroll_block n l ts us q (present e i) k = (l, after e i, refl)

    no_block : (n : Option ℕ) (l : List A) (ts us : List Lexeme) → Lacks word ts → Block (Item n) word s l ts us → (l ≡ []) × (us ≡ ts)
    no_block n l ts us q absent = (refl, refl)
    no_block n l ts us q (present e i) = absurd (q e)

    abbrev pub BlockStops : Follow
    BlockStops us = ListStops us × Lacks word us

    pub block_answers : (xs : List Lexeme) (at : ℕ) (r : Result (Found (Kept (List A))) Stuck) → Shows word xs at → Answers Lists ListStops xs (at + 1) r → Answers Blocks BlockStops xs at (renamed (λ l. l) r)
    block_answers xs at r x h = renamed_answers (λ n. After word (Lists n)) Blocks ListStops BlockStops (λ l. l) (Begins word) (λ n a ts us q p. roll_block n a ts us p) (λ n b ts us q p k. unroll_block n b ts us q p k.1) (λ us k. k.0) xs at r (begins_here xs at word x) (shown_answers word Lists ListStops xs at r x h)

    pub no_block_answers : (xs : List Lexeme) (at : ℕ) → Lacks word (drop at xs) → Answers Blocks BlockStops xs at (Ok (record { value = Whole []; next = at }))
    no_block_answers xs at l = empty_answers Blocks BlockStops (Lacks word) xs at [] (lacks_here xs at word l) (λ n ts q. absent) (λ n b ts us q p k. no_block n b ts us q p)

  -- ---- up to a closing sign

  module _ (close : Sign) (apart : (n : Option ℕ) (a : A) (x : Lexeme) (ts us : List Lexeme) → x.sign ≡ close → Item n a (x ∷ ts) us → ⊥) where
    abbrev pub Untils : Form (List A)
    Untils n = Closed (SomeSeparated (Item n) s) close

    abbrev pub ClosedLists : Form (List A)
    ClosedLists n = Closed (Lists n) close

    first_apart : (n : Option ℕ) (l : List A) (x : Lexeme) (ts us : List Lexeme) → x.sign ≡ close → Separated (Item n) s l (x ∷ ts) us → ⊥
    first_apart n l x ts us e (last {a} i) = apart n a x ts us e i
    first_apart n l x ts us e (more {a} {x = y} {us = ks} i f r) = apart n a x ts (y ∷ ks) e i

    only_closed : (n : Option ℕ) (l : List A) (x : Lexeme) (ts us : List Lexeme) → x.sign ≡ close → Untils n l (x ∷ ts) us → (l ≡ []) × (us ≡ ts)
    only_closed n l x ts us e (closed none f) = (refl, refl)
    only_closed n l x ts us e (closed {x = y} {us = ks} (some i) f) = absurd (first_apart n l x ts (y ∷ ks) e i)

    pub none_answers : (xs : List Lexeme) (at : ℕ) → Shows close xs at → Answers Untils Free xs at (Ok (record { value = Whole []; next = at + 1 }))
    none_answers xs at x = token_answers Untils Free xs at [] x.x x.stands (λ n ts. closed none x.is) (λ n b ts us r. only_closed n b x.x ts us x.is r)

    roll_some : (n : Option ℕ) (l : List A) (ts us : List Lexeme) → ClosedLists n l ts us → Untils n l ts us
    roll_some n l ts us (closed i e) = closed (some i) e

    unroll_some : (n : Option ℕ) (l : List A) (ts us : List Lexeme) → Lacks close ts → Untils n l ts us → (v : List A) × ClosedLists n v ts us × (l ≡ v)
    unroll_some n l ts us q (closed none e) = absurd (q e)
    unroll_some n l ts us q (closed (some i) e) = (l, closed i e, refl)

    pub until_answers : (xs : List Lexeme) (at : ℕ) (r : Result (Found (Kept (List A))) Stuck) → Lacks close (drop at xs) → Answers ClosedLists Free xs at r → Answers Untils Free xs at (renamed (λ l. l) r)
    until_answers xs at r l h = renamed_answers ClosedLists Untils Free Free (λ k. k) (Lacks close) (λ n a ts us q p. roll_some n a ts us p) (λ n b ts us q p k. unroll_some n b ts us q p) (λ us k. k) xs at r (lacks_here xs at close l) h

-- ---- what is renamed to itself

pub same_kept : {A : Type 0} (R : Form A) (S : Follow) (xs : List Lexeme) (at : ℕ) (r : Result (Found (Kept A)) Stuck) → Answers R S xs at (renamed (λ l. l) r) → Answers R S xs at r
same_kept R S xs at (Err e) h = h
same_kept {A} R S xs at (Ok f) h = at_value f.value f.next h
  where
    at_value : (k : Kept A) (m : ℕ) → Answers R S xs at (renamed (λ l. l) (Ok (record { value = k; next = m }))) → Answers R S xs at (Ok (record { value = k; next = m }))
    at_value (Whole a) m h = h
    at_value (Large j) m h = h

-- ---- rows

take_again : (n : ℕ) (xs : List Lexeme) → take n xs ≡ take n (take n xs)
take_again zero xs = refl
take_again (suc n) [] = refl
take_again (suc n) (x ∷ xs) = ap (λ k. x ∷ k) (take_again n xs)

-- where the tokens end behind the one at a place, it stands alone
alone : (xs : List Lexeme) (at : ℕ) (x : Lexeme) → Stands xs at x → drop at (take (at + 1) xs) ≡ x ∷ []
alone xs at x w = drop-take at 1 xs ∙ ap (λ k. take 1 k) w.cut

module _ {A : Type 0} (Item : Form A) (S : Follow) (word : Sign) where
  not_alone : ((n : Option ℕ) (a : A) (x : Lexeme) (us : List Lexeme) → Item n a (x ∷ []) us → ⊥) → (x : Lexeme) (ts us ys : List Lexeme) (k : Kept A) (o : Option A) → ts ≡ x ∷ [] → Verdict (Item None) S ts us o → Agrees None ys k o → ⊥
  not_alone longer x ts us ys k (Some a) e v g = let G : List Lexeme → Type 0 = λ m. Item None a m us in longer None a x us (subst G e v.spelled)
  not_alone longer x ts us ys (Whole a) None e v g = cc
  not_alone longer x ts us ys (Large j) None e v g = cc

  -- what a form of more than its word is read as goes beyond the word
  pub beyond : ((n : Option ℕ) (a : A) (x : Lexeme) (us : List Lexeme) → Item n a (x ∷ []) us → ⊥) → (xs : List Lexeme) (at : ℕ) (f : Found (Kept A)) → Shows word xs at → Answers Item S xs at (Ok f) → at < f.next
  beyond longer xs at f x h = by_order (eq-or-lt_of_le h.0)
    where
      by_order : (at ≡ f.next) ⊎ (at < f.next) → at < f.next
      by_order (inr l) = l
      by_order (inl e) =
          let ys = take (at + 1) xs in
          let G : ℕ → Type 0 = λ m. Alike (m + 1) xs ys in
          let v = h.2 ys (subst G e (take_again (at + 1) xs)) None in
          absurd (not_alone longer x.x (drop at ys) (drop f.next ys) ys f.value v.0 (alone xs at x.x x.stands) v.1 v.2)

  abbrev pub RowLists : Form (List A)
  RowLists n = Row (Item n)

  abbrev pub RowStops : Follow
  RowStops us = S us × Lacks word us

  row_of : (n : Option ℕ) (a : A) (l : List A) (ts us ws : List Lexeme) → Item n a ts us → Further (Item n) l us ws → Row (Item n) (a ∷ l) ts ws
  row_of n a l ts us ws i done = last i
  row_of n a l ts us ws i (next {a = b} {as_ = k} {us = ms} j f) = more i (row_of n b k us ms ws j f)

  pub to_row : (n : Option ℕ) (v : A × List A) (ts ws : List Lexeme) → Both Item (λ m. Further (Item m)) n v ts ws → RowLists n (v.0 ∷ v.1) ts ws
  to_row n v ts ws (us, i, f) = row_of n v.0 v.1 ts us ws i f

  pub of_row : (n : Option ℕ) (l : List A) (ts ws : List Lexeme) → RowLists n l ts ws → (v : A × List A) × Both Item (λ m. Further (Item m)) n v ts ws × (l ≡ v.0 ∷ v.1)
  of_row n l ts ws (last {a} i) = ((a, []), (ws, i, done), refl)
  of_row n l ts ws (more {a} {as_ = k} {us = ks} i r) =
      let b = of_row n k ks ws r in
      let G : List A → Type 0 = λ m. Further (Item n) m ks ws in
      ((a, k), (ks, i, subst G (sym b.2) (next b.1.1 b.1.2)), refl)

  -- where anything may follow a form, the word alone carries a row on
  pub row_stops : ((us : List Lexeme) → S us) → (xs : List Lexeme) (at : ℕ) (r : Result (Found (Kept (List A))) Stuck) → Answers RowLists RowStops xs at r → Answers RowLists (Lacks word) xs at (renamed (λ l. l) r)
  row_stops all xs at r h = renamed_answers RowLists RowLists RowStops (Lacks word) (λ l. l) Free (λ n a ts us q p. p) (λ n b ts us q p k. (b, p, refl)) (λ us k. (all us, k)) xs at r (anywhere xs at) h
