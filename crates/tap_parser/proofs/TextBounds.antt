-- Single tokens, numbers with a sign, bounds and ranges.
use Rattle.std.proofs.Common.{◌≡◌, ℕ, ◌+◌, ℤ, neg_ℤ, refl, sym, subst, List, ◌∷◌, Option, Result, Ok, Err, drop}
use Rattle.tap_base.specs.declared.ast.AstScalar.{AstScalar}
use Rattle.tap_base.specs.declared.ast.AstScalar.TheVariants as scalar
use Rattle.tap_base.specs.declared.ast.AstType.{AstType}
use Rattle.tap_base.specs.declared.ast.AstType.TheVariants as type_of
use Rattle.tap_base.specs.declared.ast.Bound.{Bound}
use Rattle.tap_base.specs.declared.ast.Bound.TheVariants as bound
use Rattle.tap_base.specs.declared.ast.Ident.{Ident}
use Rattle.tap_base.specs.declared.token.Sign.TheVariants as sign
use Rattle.tap_lexer.specs.Lexeme.{Lexeme}
use Rattle.tap_lexer.specs.Leaves.{ident}
use Rattle.tap_lexer.specs.declared.found.Found.{Found}
use Rattle.tap_lexer.specs.inner.Reading.{Shows}
use Rattle.tap_lexer.specs.inner.Reading.{Lacks, Free, IsTaken}
use Rattle.tap_expr.specs.declared.found.Stuck.{Stuck}
use Rattle.tap_expr.specs.declared.found.Stuck.TheVariants as stuck
use Rattle.tap_parser.specs.Declarations.{IsName, name, number, IsSigned, plain, negative, IsBound, IsScalar, boolean, between, IsType, single, array}
use Rattle.tap_parser.specs.declared.kept.Kept.{Kept}
use Rattle.tap_parser.specs.declared.kept.Kept.TheVariants.{Whole}
use Rattle.tap_parser.specs.declared.leaves.Numeral.{Numeral}
use Rattle.tap_parser.specs.inner.Forms.{Begins, IsNumeral, numeral}
use Rattle.tap_parser.specs.inner.Reading.{Answers}
use Rattle.tap_parser.proofs.TextParts.{Form, Follow, Both, joined, renamed, both_answers, both_stuck, After, after, shown_answers, begins_here, lacks_here, renamed_answers, fails, token_answers}

abbrev pub Name : Form Ident
Name n = IsName

abbrev pub Number : Form Numeral
Number n = IsNumeral

-- ---- a part that anything may follow

module _ {A B : Type 0} (P : Form A) (Q : Form B) (S : Follow) (xs : List Lexeme) (at : ℕ) where
  pub followed : (p : Found (Kept A)) (r : Result (Found (Kept B)) Stuck) → Answers P Free xs at (Ok p) → Answers Q S xs p.next r → Answers (Both P Q) S xs at (joined (λ a b. (a, b)) p.value r)
  followed p r h g = both_answers P Q Free S (λ n b us ws q s. tt) xs at p r h g

  pub first_stuck : (e : Stuck) → Answers P Free xs at (Err e) → Answers (Both P Q) S xs at (Err e)
  first_stuck e h = both_stuck P Q Free S (λ n b us ws q s. tt) xs at e h

-- ---- names and numbers

name_only : (b : Ident) (x : Lexeme) (ts us : List Lexeme) → IsName b (x ∷ ts) us → (b ≡ ident x) × (us ≡ ts)
name_only b x ts us (name e) = (refl, refl)

no_name : (b : Ident) (ts us : List Lexeme) → Lacks sign.Name ts → IsName b ts us → ⊥
no_name b ts us l (name e) = l e

numeral_only : (b : Numeral) (x : Lexeme) (ts us : List Lexeme) → IsNumeral b (x ∷ ts) us → (b ≡ record { value = x.value; place = x.place }) × (us ≡ ts)
numeral_only b x ts us (numeral e) = (refl, refl)

no_numeral : (b : Numeral) (ts us : List Lexeme) → Lacks sign.Number ts → IsNumeral b ts us → ⊥
no_numeral b ts us l (numeral e) = l e

module _ (xs : List Lexeme) (at : ℕ) where
  pub name_answers : (x : Lexeme) (t : List ℕ) → IsTaken sign.Name xs at x → t ≡ x.text → Answers Name Free xs at (Ok (record { value = Whole (record { text = t; place = x.place }); next = at + 1 }))
  name_answers x t w e =
      let G : List ℕ → Type 0 = λ k. Answers Name Free xs at (Ok (record { value = Whole (record { text = k; place = x.place }); next = at + 1 })) in
      subst G (sym e) (token_answers Name Free xs at (ident x) x w.stands (λ n ts. name w.is) (λ n b ts us r. name_only b x ts us r))

  pub name_fails : Lacks sign.Name (drop at xs) → Answers Name Free xs at (Err (stuck.At at))
  name_fails l = fails Name Free (Lacks sign.Name) xs at (lacks_here xs at sign.Name l) (λ n b ts us q r s. no_name b ts us q r)

  pub numeral_answers : (x : Lexeme) (v : ℤ) → IsTaken sign.Number xs at x → v ≡ x.value → Answers Number Free xs at (Ok (record { value = Whole (record { value = v; place = x.place }); next = at + 1 }))
  numeral_answers x v w e =
      let G : ℤ → Type 0 = λ k. Answers Number Free xs at (Ok (record { value = Whole (record { value = k; place = x.place }); next = at + 1 })) in
      subst G (sym e) (token_answers Number Free xs at (record { value = x.value; place = x.place }) x w.stands (λ n ts. numeral w.is) (λ n b ts us r. numeral_only b x ts us r))

  pub numeral_fails : Lacks sign.Number (drop at xs) → Answers Number Free xs at (Err (stuck.At at))
  numeral_fails l = fails Number Free (Lacks sign.Number) xs at (lacks_here xs at sign.Number l) (λ n b ts us q r s. no_numeral b ts us q r)

-- ---- numbers with a sign

roll_minus : (v : Numeral) (ts us : List Lexeme) → After sign.Minus IsNumeral v ts us → IsSigned (neg_ℤ v.value) ts us
roll_minus v ts us (after e (numeral g)) = negative e g

pub unroll_minus : (b : ℤ) (ts us : List Lexeme) → Begins sign.Minus ts → IsSigned b ts us → (v : Numeral) × After sign.Minus IsNumeral v ts us × (b ≡ neg_ℤ v.value)
unroll_minus b ts us q (plain e) = absurd cc
unroll_minus b ts us q (negative {y} e g) = (record { value = y.value; place = y.place }, after e (numeral g), refl)

roll_plain : (v : Numeral) (ts us : List Lexeme) → IsNumeral v ts us → IsSigned v.value ts us
roll_plain v ts us (numeral e) = plain e

pub unroll_plain : (b : ℤ) (ts us : List Lexeme) → Lacks sign.Minus ts → IsSigned b ts us → (v : Numeral) × IsNumeral v ts us × (b ≡ v.value)
unroll_plain b ts us q (plain {x} e) = (record { value = x.value; place = x.place }, numeral e, refl)
unroll_plain b ts us q (negative e g) = absurd (q e)

abbrev pub Signed : Form ℤ
Signed n = IsSigned

module _ (xs : List Lexeme) (at : ℕ) (r : Result (Found (Kept Numeral)) Stuck) where
  pub minus_answers : Shows sign.Minus xs at → Answers Number Free xs (at + 1) r → Answers Signed Free xs at (renamed (λ v. neg_ℤ v.value) r)
  minus_answers x h = renamed_answers (λ n. After sign.Minus IsNumeral) Signed Free Free (λ v. neg_ℤ v.value) (Begins sign.Minus) (λ n a ts us q p. roll_minus a ts us p) (λ n b ts us q p s. unroll_minus b ts us q p) (λ us s. s) xs at r (begins_here xs at sign.Minus x) (shown_answers sign.Minus Number Free xs at r x h)

  pub plain_answers : Lacks sign.Minus (drop at xs) → Answers Number Free xs at r → Answers Signed Free xs at (renamed (λ v. v.value) r)
  plain_answers l h = renamed_answers Number Signed Free Free (λ v. v.value) (Lacks sign.Minus) (λ n a ts us q p. roll_plain a ts us p) (λ n b ts us q p s. unroll_plain b ts us q p) (λ us s. s) xs at r (lacks_here xs at sign.Minus l) h

-- ---- bounds

pub unroll_named : (b : Bound) (ts us : List Lexeme) → Begins sign.Name ts → IsBound b ts us → (v : Ident) × IsName v ts us × (b ≡ bound.Name v)
unroll_named b ts us q (number (plain e)) = absurd cc
unroll_named b ts us q (number (negative e g)) = absurd cc
unroll_named b ts us q (name {x} e) = (ident x, name e, refl)

roll_named : (v : Ident) (ts us : List Lexeme) → IsName v ts us → IsBound (bound.Name v) ts us
roll_named v ts us (name e) = name e

pub unroll_counted : (b : Bound) (ts us : List Lexeme) → Lacks sign.Name ts → IsBound b ts us → (v : ℤ) × IsSigned v ts us × (b ≡ bound.Number v)
unroll_counted b ts us q (number {n} i) = (n, i, refl)
unroll_counted b ts us q (name e) = absurd (q e)

abbrev pub Bounds : Form Bound
Bounds n = IsBound

pub named_answers : (xs : List Lexeme) (at : ℕ) (r : Result (Found (Kept Ident)) Stuck) → Shows sign.Name xs at → Answers Name Free xs at r → Answers Bounds Free xs at (renamed (λ v. bound.Name v) r)
named_answers xs at r x h = renamed_answers Name Bounds Free Free (λ v. bound.Name v) (Begins sign.Name) (λ n a ts us q p. roll_named a ts us p) (λ n b ts us q p s. unroll_named b ts us q p) (λ us s. s) xs at r (begins_here xs at sign.Name x) h

pub counted_answers : (xs : List Lexeme) (at : ℕ) (r : Result (Found (Kept ℤ)) Stuck) → Lacks sign.Name (drop at xs) → Answers Signed Free xs at r → Answers Bounds Free xs at (renamed (λ v. bound.Number v) r)
counted_answers xs at r l h = renamed_answers Signed Bounds Free Free (λ v. bound.Number v) (Lacks sign.Name) (λ n a ts us q p. number p) (λ n b ts us q p s. unroll_counted b ts us q p) (λ us s. s) xs at r (lacks_here xs at sign.Name l) h

-- ---- scalars and types

no_boolean_bound : (b : Bound) (x : Lexeme) (ts us : List Lexeme) → x.sign ≡ sign.Boolean → IsBound b (x ∷ ts) us → ⊥
no_boolean_bound b x ts us q (number (plain e)) = cc
no_boolean_bound b x ts us q (number (negative e g)) = cc
no_boolean_bound b x ts us q (name e) = cc

no_array_bound : (b : Bound) (ts us : List Lexeme) → Begins sign.Array ts → IsBound b ts us → ⊥
no_array_bound b ts us q (number (plain e)) = cc
no_array_bound b ts us q (number (negative e g)) = cc
no_array_bound b ts us q (name e) = cc

pub boolean_only : (b : AstScalar) (x : Lexeme) (ts us : List Lexeme) → x.sign ≡ sign.Boolean → IsScalar b (x ∷ ts) us → (b ≡ scalar.Boolean) × (us ≡ ts)
boolean_only b x ts us q (boolean e) = (refl, refl)
boolean_only b x ts us q (between {lo} {x = y} {us = ks} l e h) = absurd (no_boolean_bound lo x ts (y ∷ ks) q l)

abbrev pub Scalars : Form AstScalar
Scalars n = IsScalar

abbrev pub ToBound : Form Bound
ToBound n = After sign.Span IsBound

roll_between : (n : Option ℕ) (v : Bound × Bound) (ts us : List Lexeme) → Both Bounds ToBound n v ts us → IsScalar (scalar.Between v.0 v.1) ts us
roll_between n v ts us (ks, l, after e h) = between l e h

pub unroll_between : (n : Option ℕ) (b : AstScalar) (ts us : List Lexeme) → Lacks sign.Boolean ts → IsScalar b ts us → (v : Bound × Bound) × Both Bounds ToBound n v ts us × (b ≡ scalar.Between v.0 v.1)
unroll_between n b ts us q (boolean e) = absurd (q e)
unroll_between n b ts us q (between {lo} {hi} {x} {us = ks} l e h) = ((lo, hi), (x ∷ ks, l, after e h), refl)

pub boolean_answers : (xs : List Lexeme) (at : ℕ) → Shows sign.Boolean xs at → Answers Scalars Free xs at (Ok (record { value = Whole scalar.Boolean; next = at + 1 }))
boolean_answers xs at x = token_answers Scalars Free xs at scalar.Boolean x.x x.stands (λ n ts. boolean x.is) (λ n b ts us r. boolean_only b x.x ts us x.is r)

pub between_answers : (xs : List Lexeme) (at : ℕ) (r : Result (Found (Kept (Bound × Bound))) Stuck) → Lacks sign.Boolean (drop at xs) → Answers (Both Bounds ToBound) Free xs at r → Answers Scalars Free xs at (renamed (λ v. scalar.Between v.0 v.1) r)
between_answers xs at r l h = renamed_answers (Both Bounds ToBound) Scalars Free Free (λ v. scalar.Between v.0 v.1) (Lacks sign.Boolean) (λ n a ts us q p. roll_between n a ts us p) (λ n b ts us q p s. unroll_between n b ts us q p) (λ us s. s) xs at r (lacks_here xs at sign.Boolean l) h

abbrev pub Types : Form AstType
Types n = IsType

abbrev pub OfScalar : Form AstScalar
OfScalar n = After sign.Of IsScalar

no_array_scalar : (b : AstScalar) (ts us : List Lexeme) → Begins sign.Array ts → IsScalar b ts us → ⊥
no_array_scalar b ts us q (boolean e) = cc
no_array_scalar b ts us q (between {lo} {x = y} {us = ks} l e h) = no_array_bound lo ts (y ∷ ks) q l

roll_array : (n : Option ℕ) (v : Numeral × AstScalar) (ts us : List Lexeme) → After sign.Array (Both Number OfScalar n) v ts us → IsType (type_of.Array v.0.value v.1) ts us
roll_array n v ts us (after e (ks, numeral f, after g s)) = array e f g s

pub unroll_array : (n : Option ℕ) (b : AstType) (ts us : List Lexeme) → Begins sign.Array ts → IsType b ts us → (v : Numeral × AstScalar) × After sign.Array (Both Number OfScalar n) v ts us × (b ≡ type_of.Array v.0.value v.1)
unroll_array n b ts us q (single {s} i) = absurd (no_array_scalar s ts us q i)
unroll_array n b ts us q (array {s} {y} {z} {ts = ks} e f g i) = ((record { value = y.value; place = y.place }, s), after e (z ∷ ks, numeral f, after g i), refl)

pub unroll_single : (b : AstType) (ts us : List Lexeme) → Lacks sign.Array ts → IsType b ts us → (v : AstScalar) × IsScalar v ts us × (b ≡ type_of.Scalar v)
unroll_single b ts us q (single {s} i) = (s, i, refl)
unroll_single b ts us q (array e f g i) = absurd (q e)

pub array_answers : (xs : List Lexeme) (at : ℕ) (r : Result (Found (Kept (Numeral × AstScalar))) Stuck) → Shows sign.Array xs at → Answers (Both Number OfScalar) Free xs (at + 1) r → Answers Types Free xs at (renamed (λ v. type_of.Array v.0.value v.1) r)
array_answers xs at r x h = renamed_answers (λ n. After sign.Array (Both Number OfScalar n)) Types Free Free (λ v. type_of.Array v.0.value v.1) (Begins sign.Array) (λ n a ts us q p. roll_array n a ts us p) (λ n b ts us q p s. unroll_array n b ts us q p) (λ us s. s) xs at r (begins_here xs at sign.Array x) (shown_answers sign.Array (Both Number OfScalar) Free xs at r x h)

pub single_answers : (xs : List Lexeme) (at : ℕ) (r : Result (Found (Kept AstScalar)) Stuck) → Lacks sign.Array (drop at xs) → Answers Scalars Free xs at r → Answers Types Free xs at (renamed (λ v. type_of.Scalar v) r)
single_answers xs at r l h = renamed_answers Scalars Types Free Free (λ v. type_of.Scalar v) (Lacks sign.Array) (λ n a ts us q p. single p) (λ n b ts us q p s. unroll_single b ts us q p) (λ us s. s) xs at r (lacks_here xs at sign.Array l) h
