-- Constants, inputs, variables, fields and messages.
use Rattle.std.proofs.Common.{◌≡◌, ℕ, ◌+◌, ℤ, refl, List, [], ◌∷◌, Option, Some, None, Result, Ok, drop}
use Rattle.tap_base.specs.declared.ast.AstConst.{AstConst}
use Rattle.tap_base.specs.declared.ast.AstField.{AstField}
use Rattle.tap_base.specs.declared.ast.AstMessage.{AstMessage}
use Rattle.tap_base.specs.declared.ast.AstScalar.{AstScalar}
use Rattle.tap_base.specs.declared.ast.AstType.{AstType}
use Rattle.tap_base.specs.declared.ast.AstType.TheVariants as type_of
use Rattle.tap_base.specs.declared.ast.AstVar.{AstVar}
use Rattle.tap_base.specs.declared.ast.Bound.{Bound}
use Rattle.tap_base.specs.declared.ast.Ident.{Ident}
use Rattle.tap_base.specs.declared.token.Sign.{Sign}
use Rattle.tap_base.specs.declared.token.Sign.TheVariants as sign
use Rattle.tap_lexer.specs.Lexeme.{Lexeme}
use Rattle.tap_lexer.specs.Leaves.{ident}
use Rattle.tap_lexer.specs.Rows.{Separated}
use Rattle.tap_lexer.specs.declared.found.Found.{Found}
use Rattle.tap_lexer.specs.inner.Reading.{Shows}
use Rattle.tap_lexer.specs.inner.Reading.{Lacks, Free, Closed, closed}
use Rattle.tap_expr.specs.declared.found.Stuck.{Stuck}
use Rattle.tap_parser.specs.Declarations.{Optional, absent, present, name, IsNumber, number, IsSigned, IsBound, IsScalar, IsConst, IsInput, IsVar, IsField, IsMessage, declared}
use Rattle.tap_parser.specs.declared.kept.Kept.{Kept}
use Rattle.tap_parser.specs.declared.kept.Kept.TheVariants.{Whole, Large}
use Rattle.tap_parser.specs.declared.leaves.Numeral.{Numeral}
use Rattle.tap_parser.specs.inner.Keeping.{both, mapped}
use Rattle.tap_parser.specs.inner.Forms.{Begins, IsNumeral, numeral}
use Rattle.tap_parser.specs.inner.Reading.{Answers}
use Rattle.tap_parser.proofs.TextParts.{Form, Both, renamed, After, after, shown_answers, anywhere, begins_here, lacks_here, renamed_answers, empty_answers, begun}
use Rattle.tap_parser.proofs.TextBounds.{Name, Number, Types}

-- ---- constants and inputs

abbrev pub ToSigned : Form ℤ
ToSigned n = After sign.Equal IsSigned

abbrev pub const_of : Ident × ℤ → AstConst
const_of v = record { name = v.0; value = v.1 }

roll_const : (n : Option ℕ) (v : Ident × ℤ) (ts us : List Lexeme) → Both Name ToSigned n v ts us → IsConst (const_of v) ts us
roll_const n v ts us (ks, name e, after g i) = declared e g i

pub unroll_const : (n : Option ℕ) (b : AstConst) (ts us : List Lexeme) → IsConst b ts us → (v : Ident × ℤ) × Both Name ToSigned n v ts us × (b ≡ const_of v)
unroll_const n b ts us (declared {x} {y} {n = m} {ts = ks} e g i) = ((ident x, m), (y ∷ ks, name e, after g i), refl)

abbrev pub Consts : Form AstConst
Consts n = IsConst

pub const_answers : (xs : List Lexeme) (at : ℕ) (r : Result (Found (Kept (Ident × ℤ))) Stuck) → Answers (Both Name ToSigned) Free xs at r → Answers Consts Free xs at (renamed const_of r)
const_answers xs at r h = renamed_answers (Both Name ToSigned) Consts Free Free const_of Free (λ n a ts us q p. roll_const n a ts us p) (λ n b ts us q p s. unroll_const n b ts us p) (λ us s. s) xs at r (anywhere xs at) h

abbrev pub ToScalar : Form AstScalar
ToScalar n = After sign.Colon IsScalar

abbrev pub input_of : Ident × AstScalar → AstVar
input_of v = record { name = v.0; kind = type_of.Scalar v.1; initial = None }

roll_input : (n : Option ℕ) (v : Ident × AstScalar) (ts us : List Lexeme) → Both Name ToScalar n v ts us → IsInput (input_of v) ts us
roll_input n v ts us (ks, name e, after g i) = declared e g i

pub unroll_input : (n : Option ℕ) (b : AstVar) (ts us : List Lexeme) → IsInput b ts us → (v : Ident × AstScalar) × Both Name ToScalar n v ts us × (b ≡ input_of v)
unroll_input n b ts us (declared {x} {y} {s} {ts = ks} e g i) = ((ident x, s), (y ∷ ks, name e, after g i), refl)

abbrev pub Inputs : Form AstVar
Inputs n = IsInput

pub input_answers : (xs : List Lexeme) (at : ℕ) (r : Result (Found (Kept (Ident × AstScalar))) Stuck) → Answers (Both Name ToScalar) Free xs at r → Answers Inputs Free xs at (renamed input_of r)
input_answers xs at r h = renamed_answers (Both Name ToScalar) Inputs Free Free input_of Free (λ n a ts us q p. roll_input n a ts us p) (λ n b ts us q p s. unroll_input n b ts us p) (λ us s. s) xs at r (anywhere xs at) h

-- ---- what may be absent

module _ {A : Type 0} (Item : A → List Lexeme → List Lexeme → Type 0) (s : Sign) where
  unroll_present : (b : Option A) (ts us : List Lexeme) → Begins s ts → Optional Item s b ts us → Lacks s us → (a : A) × After s Item a ts us × (b ≡ Some a)
  unroll_present b ts us q absent l = absurd (begun s ts q l)
  unroll_present b ts us q (present {a} e i) l = (a, after e i, refl)

  roll_present : (a : A) (ts us : List Lexeme) → After s Item a ts us → Optional Item s (Some a) ts us
  roll_present a ts us (after e i) = present e i

  only_absent : (b : Option A) (ts us : List Lexeme) → Lacks s ts → Optional Item s b ts us → (b ≡ None) × (us ≡ ts)
  only_absent b ts us q absent = (refl, refl)
  only_absent b ts us q (present e i) = absurd (q e)

  pub present_answers : (xs : List Lexeme) (at : ℕ) (r : Result (Found (Kept A)) Stuck) → Shows s xs at → Answers (λ n. Item) Free xs (at + 1) r → Answers (λ n. Optional Item s) (Lacks s) xs at (renamed (λ a. Some a) r)
  present_answers xs at r x h = renamed_answers (λ n. After s Item) (λ n. Optional Item s) Free (Lacks s) (λ a. Some a) (Begins s) (λ n a ts us q p. roll_present a ts us p) (λ n b ts us q p l. unroll_present b ts us q p l) (λ us l. tt) xs at r (begins_here xs at s x) (shown_answers s (λ n. Item) Free xs at r x h)

  pub absent_answers : (xs : List Lexeme) (at : ℕ) → Lacks s (drop at xs) → Answers (λ n. Optional Item s) (Lacks s) xs at (Ok (record { value = Whole None; next = at }))
  absent_answers xs at l = empty_answers (λ n. Optional Item s) (Lacks s) (Lacks s) xs at None (lacks_here xs at s l) (λ n ts q. absent) (λ n b ts us q p k. only_absent b ts us q p)

-- a number behind "="
number_of : (v : Numeral) (ts us : List Lexeme) → IsNumeral v ts us → IsNumber v.value ts us
number_of v ts us (numeral e) = number e

of_number : (b : ℤ) (ts us : List Lexeme) → IsNumber b ts us → (v : Numeral) × IsNumeral v ts us × (b ≡ v.value)
of_number b ts us (number {x} e) = (record { value = x.value; place = x.place }, numeral e, refl)

abbrev pub Plain : Form ℤ
Plain n = IsNumber

pub number_answers : (xs : List Lexeme) (at : ℕ) (r : Result (Found (Kept Numeral)) Stuck) → Answers Number Free xs at r → Answers Plain Free xs at (renamed (λ v. v.value) r)
number_answers xs at r h = renamed_answers Number Plain Free Free (λ v. v.value) Free (λ n a ts us q p. number_of a ts us p) (λ n b ts us q p s. of_number b ts us p) (λ us s. s) xs at r (anywhere xs at) h

-- ---- variables

abbrev pub Initial : Form (Option Bound)
Initial n = Optional IsBound sign.Equal

abbrev pub ToType : Form (AstType × Option Bound)
ToType n = After sign.Colon (Both Types Initial n)

abbrev pub var_of : Ident × (AstType × Option Bound) → AstVar
var_of v = record { name = v.0; kind = v.1.0; initial = v.1.1 }

roll_var : (n : Option ℕ) (v : Ident × (AstType × Option Bound)) (ts us : List Lexeme) → Both Name ToType n v ts us → IsVar (var_of v) ts us
roll_var n v ts us (ks, name e, after g (ms, i, o)) = declared e g i o

pub unroll_var : (n : Option ℕ) (b : AstVar) (ts us : List Lexeme) → IsVar b ts us → (v : Ident × (AstType × Option Bound)) × Both Name ToType n v ts us × (b ≡ var_of v)
unroll_var n b ts us (declared {x} {y} {k} {b = o} {ts = ks} {us = ms} e g i j) = ((ident x, (k, o)), (y ∷ ks, name e, after g (ms, i, j)), refl)

abbrev pub Vars : Form AstVar
Vars n = IsVar

pub var_answers : (xs : List Lexeme) (at : ℕ) (r : Result (Found (Kept (Ident × (AstType × Option Bound)))) Stuck) → Answers (Both Name ToType) (Lacks sign.Equal) xs at r → Answers Vars (Lacks sign.Equal) xs at (renamed var_of r)
var_answers xs at r h = renamed_answers (Both Name ToType) Vars (Lacks sign.Equal) (Lacks sign.Equal) var_of Free (λ n a ts us q p. roll_var n a ts us p) (λ n b ts us q p s. unroll_var n b ts us p) (λ us s. s) xs at r (anywhere xs at) h

-- ---- fields

abbrev pub Fixed : Form (Option ℤ)
Fixed n = Optional IsNumber sign.Equal

abbrev pub ToFixed : Form (Option ℤ)
ToFixed n = After sign.Bits (Fixed n)

abbrev pub ToWidth : Form (Numeral × Option ℤ)
ToWidth n = After sign.Colon (Both Number ToFixed n)

abbrev pub field_of : Ident × (Numeral × Option ℤ) → AstField
field_of v = record { name = v.0; width = v.1.0.value; fixed = v.1.1 }

roll_field : (n : Option ℕ) (v : Ident × (Numeral × Option ℤ)) (ts us : List Lexeme) → Both Name ToWidth n v ts us → IsField (field_of v) ts us
roll_field n v ts us (ks, name e, after g (ms, numeral f, after h o)) = declared e g f h o

pub unroll_field : (n : Option ℕ) (b : AstField) (ts us : List Lexeme) → IsField b ts us → (v : Ident × (Numeral × Option ℤ)) × Both Name ToWidth n v ts us × (b ≡ field_of v)
unroll_field n b ts us (declared {x} {y} {z} {w} {n = o} {ts = ks} e g f h j) = ((ident x, (record { value = z.value; place = z.place }, o)), (y ∷ z ∷ w ∷ ks, name e, after g (w ∷ ks, numeral f, after h j)), refl)

abbrev pub Fields : Form AstField
Fields n = IsField

pub field_answers : (xs : List Lexeme) (at : ℕ) (r : Result (Found (Kept (Ident × (Numeral × Option ℤ)))) Stuck) → Answers (Both Name ToWidth) (Lacks sign.Equal) xs at r → Answers Fields (Lacks sign.Equal) xs at (renamed field_of r)
field_answers xs at r h = renamed_answers (Both Name ToWidth) Fields (Lacks sign.Equal) (Lacks sign.Equal) field_of Free (λ n a ts us q p. roll_field n a ts us p) (λ n b ts us q p s. unroll_field n b ts us p) (λ us s. s) xs at r (anywhere xs at) h

-- ---- messages

abbrev pub FieldList : Form (List AstField)
FieldList n = Closed (Separated IsField sign.Semicolon) sign.End

abbrev pub ToFields : Form (List AstField)
ToFields n = After sign.Begin (FieldList n)

abbrev pub NamedFields : Form (Ident × List AstField)
NamedFields n = After sign.Message (Both Name ToFields n)

abbrev pub message_of : Ident × List AstField → AstMessage
message_of v = record { name = v.0; fields = v.1 }

roll_message : (n : Option ℕ) (v : Ident × List AstField) (ts us : List Lexeme) → NamedFields n v ts us → IsMessage (message_of v) ts us
roll_message n v ts us (after e (ks, name g, after f (closed i h))) = declared e g f i h

pub unroll_message : (n : Option ℕ) (b : AstMessage) (ts us : List Lexeme) → IsMessage b ts us → (v : Ident × List AstField) × NamedFields n v ts us × (b ≡ message_of v)
unroll_message n b ts us (declared {x} {y} {z} {w} {fields} {ts = ks} {us = ms} e g f i h) = ((ident y, fields), after e (z ∷ ks, name g, after f (closed i h)), refl)

abbrev pub Messages : Form AstMessage
Messages n = IsMessage

pub message_answers : (xs : List Lexeme) (at : ℕ) (r : Result (Found (Kept (Ident × List AstField))) Stuck) → Answers NamedFields Free xs at r → Answers Messages Free xs at (renamed message_of r)
message_answers xs at r h = renamed_answers NamedFields Messages Free Free message_of Free (λ n a ts us q p. roll_message n a ts us p) (λ n b ts us q p s. unroll_message n b ts us p) (λ us s. s) xs at r (anywhere xs at) h

pub message_begins : (b : AstMessage) (ts us : List Lexeme) → IsMessage b ts us → Begins sign.Message ts
message_begins b ts us (declared e g f i h) = e

pub message_longer : (b : AstMessage) (x : Lexeme) (us : List Lexeme) → IsMessage b (x ∷ []) us → ⊥
message_longer b x us i = elim i [ ]

pub end_after_field : (x : Lexeme) (us : List Lexeme) → x.sign ≡ sign.End → Lacks sign.Equal (x ∷ us) × Lacks sign.Semicolon (x ∷ us)
end_after_field x us e = (λ f. absurd cc, λ f. absurd cc)

pub message_value : (m : Ident) (k : Kept (List AstField)) → mapped (λ l. record { name = m; fields = l }) k ≡ mapped message_of (both (λ a b. (a, b)) (Whole m) k)
message_value m (Whole l) = refl
message_value m (Large j) = refl
