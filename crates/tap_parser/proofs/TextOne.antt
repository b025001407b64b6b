-- Tokens spell at most one tree.
use Rattle.std.proofs.Common.{◌≡◌, ℕ, ℤ, neg_ℤ, refl, sym, ◌∙◌, ap, subst, List, [], ◌∷◌, Option, Some, None}
use Rattle.tap_base.specs.declared.ast.AstScalar.{AstScalar}
use Rattle.tap_base.specs.declared.ast.AstScalar.TheVariants as scalar
use Rattle.tap_base.specs.declared.ast.AstType.{AstType}
use Rattle.tap_base.specs.declared.ast.AstType.TheVariants as type_of
use Rattle.tap_base.specs.declared.ast.Bound.{Bound}
use Rattle.tap_base.specs.declared.ast.Bound.TheVariants as bound
use Rattle.tap_base.specs.declared.ast.Ident.{Ident}
use Rattle.tap_base.specs.declared.token.Sign.{Sign}
use Rattle.tap_base.specs.declared.token.Sign.TheVariants as sign
use Rattle.tap_lexer.specs.Lexeme.{Lexeme}
use Rattle.tap_lexer.specs.Leaves.{ident}
use Rattle.tap_lexer.specs.Rows.{Separated, last, more, SomeSeparated, none, some, Row}
use Rattle.tap_lexer.specs.inner.Reading.{Lacks, Free, Closed, closed, Only}
use Rattle.tap_parser.specs.Declarations.{Optional, absent, present, Block, absent as no_block_there, present as block_there, IsName, name, IsNumber, number as plain_number, IsSigned, plain, negative, IsBound, number, name as bound_name, IsScalar, boolean, between, IsType, single, array}
use Rattle.tap_parser.specs.declared.leaves.Numeral.{Numeral}
use Rattle.tap_parser.specs.inner.Forms.{Begins, IsNumeral, numeral}
use Rattle.tap_parser.proofs.TextParts.{begun, Form, Follow, Both, After, after}
use Rattle.tap_parser.proofs.TextBounds.{Number, Bounds, ToBound, OfScalar, unroll_minus, unroll_plain, unroll_named, unroll_counted, boolean_only, unroll_between, unroll_array, unroll_single}

abbrev pub Rel : Type 0 → Type 1
Rel A = A → List Lexeme → List Lexeme → Type 0

-- ---- from the parts to the whole

pub as_renamed : {A B : Type 0} (P : Rel A) (R : Rel B) (SP SR : Follow) (f : A → B) (a : A) (ts us : List Lexeme) → Only P SP ts a us → ((b : B) (ws : List Lexeme) → R b ts ws → SR ws → (v : A) × P v ts ws × (b ≡ f v)) → ((ws : List Lexeme) → SR ws → SP ws) → Only R SR ts (f a) us
as_renamed P R SP SR f a ts us h unroll follow = λ b ws r s. let u = unroll b ws r s in let q = h u.0 ws u.1 (follow ws s) in (u.2 ∙ ap f q.0, q.1)

pub as_both : {A B : Type 0} (P : Form A) (Q : Form B) (SP SQ : Follow) (n : Option ℕ) → ((b : B) (us ws : List Lexeme) → Q n b us ws → SQ ws → SP us) → (a : A) (b : B) (ts us ws : List Lexeme) → Only (P n) SP ts a us → Only (Q n) SQ us b ws → Only (Both P Q n) SQ ts (a, b) ws
as_both P Q SP SQ n leads a b ts us ws h g = λ c vs r s.
    let p = h c.0 r.0 r.1 (leads c.1 r.0 vs r.2 s) in
    let G : List Lexeme → Type 0 = λ k. Q n c.1 k vs in
    let q = g c.1 vs (subst G p.1 r.2) s in
    (ap (λ k. (k, c.1)) p.0 ∙ ap (λ k. (a, k)) q.0, q.1)

behind : {A : Type 0} (s : Sign) (Q : Rel A) (a : A) (x : Lexeme) (ts ws : List Lexeme) → After s Q a (x ∷ ts) ws → Q a ts ws
behind s Q a x ts ws (after e q) = q

pub as_after : {A : Type 0} (s : Sign) (Q : Rel A) (S : Follow) (x : Lexeme) (ts us : List Lexeme) (a : A) → Only Q S ts a us → Only (After s Q) S (x ∷ ts) a us
as_after s Q S x ts us a h = λ b ws r k. h b ws (behind s Q b x ts ws r) k

before : {A : Type 0} (P : Rel A) (s : Sign) (a : A) (ts us : List Lexeme) → Closed P s a ts us → (x : Lexeme) × P a ts (x ∷ us) × (x.sign ≡ s)
before P s a ts us (closed {x} p e) = (x, p, e)

pub as_closed : {A : Type 0} (P : Rel A) (S : Follow) (s : Sign) → ((x : Lexeme) (us : List Lexeme) → x.sign ≡ s → S (x ∷ us)) → (a : A) (x : Lexeme) (ts us : List Lexeme) → Only P S ts a (x ∷ us) → Only (Closed P s) Free ts a us
as_closed P S s leads a x ts us h = λ b ws r k.
    let u = before P s b ts ws r in
    let q = h b (u.0 ∷ ws) u.1 (leads u.0 ws u.2) in
    (q.0, cc)

-- ---- lists with separators

module _ {A : Type 0} (Item : Rel A) (S : Follow) (s : Sign) (parted : (x : Lexeme) (us : List Lexeme) → x.sign ≡ s → S (x ∷ us)) where
  abbrev pub ListStops : Follow
  ListStops us = S us × Lacks s us

  pub last_as : (a : A) (ts us : List Lexeme) → Only Item S ts a us → ListStops us → Only (Separated Item s) ListStops ts (a ∷ []) us
  last_as a ts us one h = λ b ws r k. go b ws r k
    where
      go : (b : List A) (ws : List Lexeme) → Separated Item s b ts ws → ListStops ws → (b ≡ a ∷ []) × (ws ≡ us)
      go b ws (last {a = c} j) k = let q = one c ws j k.0 in (ap (λ v. v ∷ []) q.0, q.1)
      go b ws (more {a = c} {x = y} {us = ks} j e r) k = let q = one c (y ∷ ks) j (parted y ks e) in let G : List Lexeme → Type 0 = λ v. Lacks s v in absurd (subst G (sym q.1) h.1 e)

  pub more_as : (a : A) (m : List A) (x : Lexeme) (ts us ws : List Lexeme) → x.sign ≡ s → Only Item S ts a (x ∷ us) → Only (Separated Item s) ListStops us m ws → Only (Separated Item s) ListStops ts (a ∷ m) ws
  more_as a m x ts us ws e one rest = λ b vs r k. go b vs r k
    where
      go : (b : List A) (vs : List Lexeme) → Separated Item s b ts vs → ListStops vs → (b ≡ a ∷ m) × (vs ≡ ws)
      go b vs (last {a = c} j) k = let q = one c vs j k.0 in let G : List Lexeme → Type 0 = λ v. Lacks s v in absurd (subst G q.1 k.1 e)
      go b vs (more {a = c} {as_ = n} {x = y} {us = ks} j f r) k =
          let q = one c (y ∷ ks) j (parted y ks f) in
          let t : ks ≡ us = let i = q.1 in cc in
          let G : List Lexeme → Type 0 = λ v. Separated Item s n v vs in
          let p = rest n vs (subst G t r) k in
          (ap (λ v. v ∷ n) q.0 ∙ ap (λ v. a ∷ v) p.0, p.1)

  module _ (alone : (a : A) (ts us : List Lexeme) → Item a ts us → S us → Only Item S ts a us) where
    pub one_list : {l : List A} {ts us : List Lexeme} → Separated Item s l ts us → ListStops us → Only (Separated Item s) ListStops ts l us
    one_list (last {a} {ts} {us} i) h = last_as a ts us (alone a ts us i h.0) h
    one_list (more {a} {as_ = m} {x} {ts} {us} {ws} i e r) h = more_as a m x ts us ws e (alone a ts (x ∷ us) i (parted x us e)) (one_list r h)

    -- ---- behind a word, or nothing

    module _ (word : Sign) where
      abbrev pub BlockStops : Follow
      BlockStops us = ListStops us × Lacks word us

      pub one_block : {l : List A} {ts us : List Lexeme} → Block Item word s l ts us → BlockStops us → Only (Block Item word s) BlockStops ts l us
      one_block {ts} no_block_there h = λ b ws r k. go ts h.1 b ws r
        where
          go : (ks : List Lexeme) → Lacks word ks → (b : List A) (ws : List Lexeme) → Block Item word s b ks ws → (b ≡ []) × (ws ≡ ks)
          go ks l b ws no_block_there = (refl, refl)
          go ks l b ws (block_there e i) = absurd (l e)
      one_block (block_there {as_ = l} {x} {ts} {us} e i) h = λ b ws r k. go b ws r k
        where
          go : (b : List A) (ws : List Lexeme) → Block Item word s b (x ∷ ts) ws → BlockStops ws → (b ≡ l) × (ws ≡ us)
          go b ws no_block_there k = absurd (k.1 e)
          go b ws (block_there f j) k = one_list i h.0 b ws j k.0

    -- ---- up to a closing sign

    module _ (close : Sign) (apart : (a : A) (x : Lexeme) (ts us : List Lexeme) → x.sign ≡ close → Item a (x ∷ ts) us → ⊥) (ends : (x : Lexeme) (us : List Lexeme) → x.sign ≡ close → ListStops (x ∷ us)) where
      first_apart : (l : List A) (x : Lexeme) (ts us : List Lexeme) → x.sign ≡ close → Separated Item s l (x ∷ ts) us → ⊥
      first_apart l x ts us e (last {a} i) = apart a x ts us e i
      first_apart l x ts us e (more {a} {x = y} {us = ks} i f r) = apart a x ts (y ∷ ks) e i

      pub one_until : {l : List A} {ts us : List Lexeme} → Closed (SomeSeparated Item s) close l ts us → Only (Closed (SomeSeparated Item s) close) Free ts l us
      one_until (closed {x} {us} none e) = λ b ws r k. go b ws r
        where
          go : (b : List A) (ws : List Lexeme) → Closed (SomeSeparated Item s) close b (x ∷ us) ws → (b ≡ []) × (ws ≡ us)
          go b ws (closed none f) = (refl, refl)
          go b ws (closed {x = y} (some i) f) = absurd (first_apart b x us (y ∷ ws) e i)
      one_until (closed {a = l} {x} {ts} {us} (some i) e) = λ b ws r k. go ts i (one_list i (ends x us e)) b ws r
        where
          go : (ks : List Lexeme) → Separated Item s l ks (x ∷ us) → Only (Separated Item s) ListStops ks l (x ∷ us) → (b : List A) (ws : List Lexeme) → Closed (SomeSeparated Item s) close b ks ws → (b ≡ l) × (ws ≡ us)
          go ks j one b ws (closed {x = y} none f) = absurd (first_apart l y ws (x ∷ us) f j)
          go ks j one b ws (closed {x = y} (some m) f) = let q = one b (y ∷ ws) m (ends y ws f) in (q.0, let t = q.1 in cc)

-- ---- rows

module _ {A : Type 0} (Item : Rel A) (word : Sign) (begins : (a : A) (ts us : List Lexeme) → Item a ts us → Begins word ts) (alone : (a : A) (ts us : List Lexeme) → Item a ts us → Only Item Free ts a us) where
  row_begins : {l : List A} {ts us : List Lexeme} → Row Item l ts us → Begins word ts
  row_begins (last {a} {ts} {us} i) = begins a ts us i
  row_begins (more {a} {ts} {us} i r) = begins a ts us i

  pub one_row : {l : List A} {ts us : List Lexeme} → Row Item l ts us → Lacks word us → Only (Row Item) (Lacks word) ts l us
  one_row (last {a} {ts} {us} i) h = λ b ws r k. go b ws r k
    where
      go : (b : List A) (ws : List Lexeme) → Row Item b ts ws → Lacks word ws → (b ≡ a ∷ []) × (ws ≡ us)
      go b ws (last {a = c} j) k = let q = alone a ts us i c ws j tt in (ap (λ v. v ∷ []) q.0, q.1)
      go b ws (more {a = c} {us = ks} j r) k = let q = alone a ts us i c ks j tt in let G : List Lexeme → Type 0 = λ v. Begins word v in absurd (begun word us (subst G q.1 (row_begins r)) h)
  one_row (more {a} {as_ = m} {ts} {us} {ws} i r) h = λ b vs q k. go (one_row r h) b vs q k
    where
      go : Only (Row Item) (Lacks word) us m ws → (b : List A) (vs : List Lexeme) → Row Item b ts vs → Lacks word vs → (b ≡ a ∷ m) × (vs ≡ ws)
      go one b vs (last {a = c} j) k = let q = alone a ts us i c vs j tt in let G : List Lexeme → Type 0 = λ v. Begins word v in absurd (begun word vs (subst G (sym q.1) (row_begins r)) k)
      go one b vs (more {a = c} {as_ = n} {us = ks} j p) k =
          let q = alone a ts us i c ks j tt in
          let G : List Lexeme → Type 0 = λ v. Row Item n v vs in
          let t = one n vs (subst G q.1 p) k in
          (ap (λ v. v ∷ n) q.0 ∙ ap (λ v. a ∷ v) t.0, t.1)

-- ---- single tokens, numbers, bounds and types

pub one_name : (x : Lexeme) (ts : List Lexeme) → Only IsName Free (x ∷ ts) (ident x) ts
one_name x ts = λ b ws r k. go b ws r
  where
    go : (b : Ident) (ws : List Lexeme) → IsName b (x ∷ ts) ws → (b ≡ ident x) × (ws ≡ ts)
    go b ws (name e) = (refl, refl)

abbrev pub numeral_of : Lexeme → Numeral
numeral_of x = record { value = x.value; place = x.place }

pub one_numeral : (x : Lexeme) (ts : List Lexeme) → Only IsNumeral Free (x ∷ ts) (numeral_of x) ts
one_numeral x ts = λ b ws r k. go b ws r
  where
    go : (b : Numeral) (ws : List Lexeme) → IsNumeral b (x ∷ ts) ws → (b ≡ numeral_of x) × (ws ≡ ts)
    go b ws (numeral e) = (refl, refl)

pub one_number : (x : Lexeme) (ts : List Lexeme) → Only IsNumber Free (x ∷ ts) x.value ts
one_number x ts = λ b ws r k. go b ws r
  where
    go : (b : ℤ) (ws : List Lexeme) → IsNumber b (x ∷ ts) ws → (b ≡ x.value) × (ws ≡ ts)
    go b ws (plain_number e) = (refl, refl)

pub one_signed : {m : ℤ} {ts us : List Lexeme} → IsSigned m ts us → Only IsSigned Free ts m us
one_signed (plain {x} {ts} e) = as_renamed IsNumeral IsSigned Free Free (λ v. v.value) (numeral_of x) (x ∷ ts) ts (one_numeral x ts) (λ b ws r s. unroll_plain b (x ∷ ts) ws (λ f. absurd cc) r) (λ ws s. s)
one_signed (negative {x} {y} {ts} e g) = as_renamed (After sign.Minus IsNumeral) IsSigned Free Free (λ v. neg_ℤ v.value) (numeral_of y) (x ∷ y ∷ ts) ts (as_after sign.Minus IsNumeral Free x (y ∷ ts) ts (numeral_of y) (one_numeral y ts)) (λ b ws r s. unroll_minus b (x ∷ y ∷ ts) ws e r) (λ ws s. s)

signed_no_name : {m : ℤ} {ts us : List Lexeme} → IsSigned m ts us → Lacks sign.Name ts
signed_no_name (plain e) = λ f. absurd cc
signed_no_name (negative e g) = λ f. absurd cc

pub one_bound : {b : Bound} {ts us : List Lexeme} → IsBound b ts us → Only IsBound Free ts b us
one_bound (number {n} {ts} {us} i) = as_renamed IsSigned IsBound Free Free (λ v. bound.Number v) n ts us (one_signed i) (λ b ws r s. unroll_counted b ts ws (signed_no_name i) r) (λ ws s. s)
one_bound (bound_name {x} {ts} e) = as_renamed IsName IsBound Free Free (λ v. bound.Name v) (ident x) (x ∷ ts) ts (one_name x ts) (λ b ws r s. unroll_named b (x ∷ ts) ws e r) (λ ws s. s)

bound_no_word : {b : Bound} {ts us : List Lexeme} → IsBound b ts us → Lacks sign.Boolean ts × Lacks sign.Array ts
bound_no_word (number (plain e)) = (λ f. absurd cc, λ f. absurd cc)
bound_no_word (number (negative e g)) = (λ f. absurd cc, λ f. absurd cc)
bound_no_word (bound_name e) = (λ f. absurd cc, λ f. absurd cc)

pub one_scalar : {c : AstScalar} {ts us : List Lexeme} → IsScalar c ts us → Only IsScalar Free ts c us
one_scalar (boolean {x} {ts} e) = λ b ws r s. boolean_only b x ts ws e r
one_scalar (between {lo} {hi} {x} {ts} {us} {ws} l e h) = as_renamed (Both Bounds ToBound None) IsScalar Free Free (λ v. scalar.Between v.0 v.1) (lo, hi) ts ws (as_both Bounds ToBound Free Free None (λ b ks vs r s. tt) lo hi ts (x ∷ us) ws (one_bound l) (as_after sign.Span IsBound Free x us ws hi (one_bound h))) (λ b vs r s. unroll_between None b ts vs (bound_no_word l).0 r) (λ vs s. s)

scalar_no_array : {c : AstScalar} {ts us : List Lexeme} → IsScalar c ts us → Lacks sign.Array ts
scalar_no_array (boolean e) = λ f. absurd cc
scalar_no_array (between l e h) = (bound_no_word l).1

pub one_type : {k : AstType} {ts us : List Lexeme} → IsType k ts us → Only IsType Free ts k us
one_type (single {s} {ts} {us} i) = as_renamed IsScalar IsType Free Free (λ v. type_of.Scalar v) s ts us (one_scalar i) (λ b ws r k. unroll_single b ts ws (scalar_no_array i) r) (λ ws k. k)
one_type (array {s} {x} {y} {z} {ts} {us} e f g i) = as_renamed (After sign.Array (Both Number OfScalar None)) IsType Free Free (λ v. type_of.Array v.0.value v.1) (numeral_of y, s) (x ∷ y ∷ z ∷ ts) us (as_after sign.Array (Both Number OfScalar None) Free x (y ∷ z ∷ ts) us (numeral_of y, s) (as_both Number OfScalar Free Free None (λ b ks vs r k. tt) (numeral_of y) s (y ∷ z ∷ ts) (z ∷ ts) us (one_numeral y (z ∷ ts)) (as_after sign.Of IsScalar Free z ts us s (one_scalar i)))) (λ b ws r k. unroll_array None b (x ∷ y ∷ z ∷ ts) ws e r) (λ ws k. k)

-- ---- what may be absent

module _ {A : Type 0} (Item : Rel A) (s : Sign) where
  pub one_absent : (ts : List Lexeme) → Lacks s ts → Only (Optional Item s) (Lacks s) ts None ts
  one_absent ts l = λ b ws r k. go ts l b ws r
    where
      go : (ks : List Lexeme) → Lacks s ks → (b : Option A) (ws : List Lexeme) → Optional Item s b ks ws → (b ≡ None) × (ws ≡ ks)
      go ks h b ws absent = (refl, refl)
      go ks h b ws (present e i) = absurd (h e)

  pub one_present : (a : A) (x : Lexeme) (ts us : List Lexeme) → x.sign ≡ s → Only Item Free ts a us → Only (Optional Item s) (Lacks s) (x ∷ ts) (Some a) us
  one_present a x ts us e one = λ b ws r k. go b ws r k
    where
      go : (b : Option A) (ws : List Lexeme) → Optional Item s b (x ∷ ts) ws → Lacks s ws → (b ≡ Some a) × (ws ≡ us)
      go b ws absent k = absurd (k e)
      go b ws (present {a = c} f i) k = let q = one c ws i tt in (ap (λ v. Some v) q.0, q.1)

pub one_initial : {o : Option Bound} {ts us : List Lexeme} → Optional IsBound sign.Equal o ts us → Lacks sign.Equal us → Only (Optional IsBound sign.Equal) (Lacks sign.Equal) ts o us
one_initial {ts} absent l = one_absent IsBound sign.Equal ts l
one_initial (present {a} {x} {ts} {us} e i) l = one_present IsBound sign.Equal a x ts us e (one_bound i)

pub one_fixed : {o : Option ℤ} {ts us : List Lexeme} → Optional IsNumber sign.Equal o ts us → Lacks sign.Equal us → Only (Optional IsNumber sign.Equal) (Lacks sign.Equal) ts o us
one_fixed {ts} absent l = one_absent IsNumber sign.Equal ts l
one_fixed (present {x} e (plain_number {x = y} {ts} f)) l = one_present IsNumber sign.Equal y.value x (y ∷ ts) ts e (one_number y ts)
