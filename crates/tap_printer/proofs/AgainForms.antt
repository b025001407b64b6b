-- What is printed of declarations is read as those declarations, places aside.
use Rattle.std.proofs.Common.{◌≡◌, refl, ◌∙◌, ap, ℕ, ◌<◌, ltb-true, arith, ℤ, pos, negsuc, neg_ℤ, int_lt, unsigned_abs, Bool, true, false, if◌then◌else◌, List, [], ◌∷◌, map, Option, Some, None}
use Rattle.std.specs.Option.{option_map}
use Rattle.tap_base.specs.declared.ast.AstConst.{AstConst}
use Rattle.tap_base.specs.declared.ast.AstField.{AstField}
use Rattle.tap_base.specs.declared.ast.AstMessage.{AstMessage}
use Rattle.tap_base.specs.declared.ast.AstScalar.{AstScalar}
use Rattle.tap_base.specs.declared.ast.AstScalar.TheVariants as scalar
use Rattle.tap_base.specs.declared.ast.AstType.{AstType}
use Rattle.tap_base.specs.declared.ast.AstType.TheVariants as type_of
use Rattle.tap_base.specs.declared.ast.AstVar.{AstVar}
use Rattle.tap_base.specs.declared.ast.Bound.{Bound}
use Rattle.tap_base.specs.declared.ast.Bound.TheVariants as bound
use Rattle.tap_base.specs.declared.ast.Ident.{Ident}
use Rattle.tap_base.specs.declared.token.Sign.TheVariants as sign
use Rattle.tap_lexer.specs.Bytes.{start}
use Rattle.tap_lexer.specs.Lexeme.{Lexeme}
use Rattle.tap_lexer.specs.Leaves.{ident}
use Rattle.tap_parser.specs.Declarations.{Optional, absent, present, IsName, IsNumber, IsSigned, IsBound, IsScalar, IsType, IsConst, IsInput, IsVar, IsField, IsMessage}
use Rattle.tap_parser.specs.Declarations as form
use Rattle.tap_printer.specs.Canonical.{separated, optional, ident_tokens, number_tokens, signed_tokens, bound_tokens, scalar_tokens, type_tokens, const_tokens, initial_tokens, var_tokens, fixed_tokens, field_tokens, message_tokens}
use Rattle.tap_printer.specs.CanonicalLaws.{none, next}
use Rattle.tap_printer.specs.PlacesAside.{ident_aside, bound_aside, scalar_aside, type_aside, const_aside, var_aside, field_aside, message_aside}
use Rattle.tap_printer.specs.Printed.{mark}
use Rattle.tap_printer.specs.Printed as printed
use Rattle.tap_printer.proofs.AgainLists.{without_end, both, separated_again}
use Rattle.tap_printer.proofs.Printing.{parts, around, closing, ReadsAgain}

-- a name at the start of a text
abbrev pub named : List ℕ → Ident
named t = record { text = t; place = start }

pub same_value : ℤ → ℤ
same_value n = n

-- ---- names and numbers

pub name_again : (x : Ident) (ts us : List Lexeme) → IsName x ts us → ReadsAgain ident_aside (ident_tokens x) IsName x
name_again x ts us i all end (next {x = y} j none) = record { again = ident y; item = form.IsName.name j.0; same = ap named j.1 }

pub number_again : (n : ℤ) → ReadsAgain (λ v. v) (number_tokens n) IsNumber n
number_again n all end (next {x} i none) = record { again = x.value; item = form.IsNumber.number i.0; same = i.1 }

negated : (n : ℤ) → int_lt n (pos 0) ≡ true → neg_ℤ (pos (unsigned_abs n)) ≡ n
negated (pos n) h = let k : n < 0 = ltb-true n 0 h in absurd (omega (arith, k))
negated (negsuc n) h = refl

pub signed_again : (n : ℤ) → ReadsAgain (λ v. v) (signed_tokens n) IsSigned n
signed_again n = go (int_lt n (pos 0)) refl
  where
    go : (b : Bool) → int_lt n (pos 0) ≡ b → ReadsAgain (λ v. v) (if b then mark sign.Minus ∷ printed.number (pos (unsigned_abs n)) ∷ [] else printed.number n ∷ []) IsSigned n
    go true h all end (next {x} i (next {x = y} j none)) = record { again = neg_ℤ y.value; item = form.IsSigned.negative i j.0; same = ap neg_ℤ j.1 ∙ negated n h }
    go false h all end (next {x} i none) = record { again = x.value; item = form.IsSigned.plain i.0; same = i.1 }

-- ---- bounds, ranges and types

pub bound_again : (b : Bound) → ReadsAgain bound_aside (bound_tokens b) IsBound b
bound_again (bound.Number n) all end g =
    let r = signed_again n all end g in
    record { again = bound.Number r.again; item = form.IsBound.number r.item; same = ap bound.Number r.same }
bound_again (bound.Name x) all end (next {x = y} i none) = record { again = bound.Name (ident y); item = form.IsBound.name i.0; same = ap (λ t. bound.Name (named t)) i.1 }

pub scalar_again : (s : AstScalar) → ReadsAgain scalar_aside (scalar_tokens s) IsScalar s
scalar_again scalar.Boolean all end (next i none) = record { again = scalar.Boolean; item = form.IsScalar.boolean i; same = refl }
scalar_again (scalar.Between lo hi) all end g =
    let c = around (bound_tokens lo) (mark sign.Span) (bound_tokens hi) g in
    let l = bound_again lo all (c.x ∷ c.middle) c.front in
    let h = bound_again hi c.middle end c.rest in
    record { again = scalar.Between l.again h.again; item = form.IsScalar.between l.item c.is h.item; same = both scalar.Between l.same h.same }

pub type_again : (k : AstType) → ReadsAgain type_aside (type_tokens k) IsType k
type_again (type_of.Scalar s) all end g =
    let r = scalar_again s all end g in
    record { again = type_of.Scalar r.again; item = form.IsType.single r.item; same = ap type_of.Scalar r.same }
type_again (type_of.Array n s) all end (next i (next {x = y} j (next {ts} k g))) =
    let r = scalar_again s ts end g in
    record { again = type_of.Array y.value r.again; item = form.IsType.array i j.0 k r.item; same = both type_of.Array j.1 r.same }

-- ---- constants, inputs and variables

constant : List ℕ → ℤ → AstConst
constant t n = record { name = named t; value = n }

pub const_again : (c : AstConst) (ts us : List Lexeme) → IsConst c ts us → ReadsAgain const_aside (const_tokens c) IsConst c
unfolding constant
const_again c ts us d all end (next {x} i (next {ts = rest} j g)) =
    let r = signed_again c.value rest end g in
    record { again = record { name = ident x; value = r.again }; item = form.IsConst.declared i.0 j r.item; same = both constant i.1 r.same }

variable : List ℕ → AstType → Option Bound → AstVar
variable t k b = record { name = named t; kind = k; initial = b }

pub input_again : (v : AstVar) (ts us : List Lexeme) → IsInput v ts us → ReadsAgain var_aside (var_tokens v) IsInput v
unfolding variable
input_again v ts us (form.IsInput.declared {s} a b c) all end (next {x} i (next {ts = rest} j g)) =
    let r = scalar_again s rest end (without_end (scalar_tokens s) g) in
    record { again = record { name = ident x; kind = type_of.Scalar r.again; initial = None }; item = form.IsInput.declared i.0 j r.item; same = both (λ t k. variable t (type_of.Scalar k) None) i.1 r.same }

initial_again : (b : Option Bound) → ReadsAgain (option_map bound_aside) (optional sign.Equal (initial_tokens b)) (Optional IsBound sign.Equal) b
initial_again None all end none = record { again = None; item = absent; same = refl }
initial_again (Some b) all end (next {ts} i g) =
    let r = bound_again b ts end g in
    record { again = Some r.again; item = present i r.item; same = ap Some r.same }

pub var_again : (v : AstVar) (ts us : List Lexeme) → IsVar v ts us → ReadsAgain var_aside (var_tokens v) IsVar v
unfolding variable
var_again v ts us d all end (next {x} i (next {ts = rest} j g)) =
    let c = parts (type_tokens v.kind) (optional sign.Equal (initial_tokens v.initial)) g in
    let k = type_again v.kind rest c.middle c.front in
    let b = initial_again v.initial c.middle end c.rest in
    record {
      again = record { name = ident x; kind = k.again; initial = b.again };
      item = form.IsVar.declared i.0 j k.item b.item;
      same = both (λ t m. variable t m (option_map bound_aside b.again)) i.1 k.same ∙ ap (variable v.name.text (type_aside v.kind)) b.same;
    }

-- ---- messages

fixed_again : (n : Option ℤ) → ReadsAgain (λ v. v) (optional sign.Equal (fixed_tokens n)) (Optional IsNumber sign.Equal) n
fixed_again None all end none = record { again = None; item = absent; same = refl }
fixed_again (Some n) all end (next {ts} i g) =
    let r = number_again n ts end g in
    record { again = Some r.again; item = present i r.item; same = ap Some r.same }

field_of : List ℕ → ℤ → Option ℤ → AstField
field_of t n m = record { name = named t; width = n; fixed = m }

pub field_again : (f : AstField) (ts us : List Lexeme) → IsField f ts us → ReadsAgain field_aside (field_tokens f) IsField f
unfolding field_of
field_again f ts us d all end (next {x} i (next j (next {x = z} k (next {ts = rest} l g)))) =
    let r = fixed_again f.fixed rest end g in
    record {
      again = record { name = ident x; width = z.value; fixed = r.again };
      item = form.IsField.declared i.0 j k.0 l r.item;
      same = both (λ t n. field_of t n r.again) i.1 k.1 ∙ ap (field_of f.name.text f.width) r.same;
    }

message_of : List ℕ → List AstField → AstMessage
message_of t fields = record { name = named t; fields = fields }

pub message_again : (m : AstMessage) (ts us : List Lexeme) → IsMessage m ts us → ReadsAgain message_aside (message_tokens m) IsMessage m
unfolding message_of
message_again m ts us (form.IsMessage.declared a b c s e) all end (next i (next {x = y} j (next {ts = rest} k g))) =
    let d = closing (separated sign.Semicolon (map field_tokens m.fields)) (mark sign.End) g in
    let r = separated_again field_aside field_tokens IsField field_again s rest (d.x ∷ end) d.front in
    record { again = record { name = ident y; fields = r.again }; item = form.IsMessage.declared i j.0 k r.item d.is; same = both message_of j.1 r.same }
