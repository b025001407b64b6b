-- The grammar of declarations: what stands in messages and in processes before their actions, one constructor for each production.
use Rattle.std.specs.Prelude.{◌≡◌, ℤ, neg_ℤ, List, [], ◌∷◌, Option, Some, None}
use Rattle.tap_base.specs.declared.ast.AstConst.{AstConst}
use Rattle.tap_base.specs.declared.ast.AstField.{AstField}
use Rattle.tap_base.specs.declared.ast.AstMessage.{AstMessage}
use Rattle.tap_base.specs.declared.ast.AstScalar.{AstScalar}
use Rattle.tap_base.specs.declared.ast.AstScalar.TheVariants as scalar
use Rattle.tap_base.specs.declared.ast.AstType.{AstType}
use Rattle.tap_base.specs.declared.ast.AstType.TheVariants as type_of
use Rattle.tap_base.specs.declared.ast.AstVar.{AstVar}
use Rattle.tap_base.specs.declared.ast.Bound.{Bound}
use Rattle.tap_base.specs.declared.ast.Bound.TheVariants as bound
use Rattle.tap_base.specs.declared.ast.Ident.{Ident}
use Rattle.tap_base.specs.declared.token.Sign.{Sign}
use Rattle.tap_base.specs.declared.token.Sign.TheVariants as sign
use Rattle.tap_lexer.specs.Lexeme.{Lexeme}
use Rattle.tap_lexer.specs.Leaves.{ident}
use Rattle.tap_lexer.specs.Rows.{Separated}

-- [ sign item ]
pub data Optional {A : Type 0} (Item : A → List Lexeme → List Lexeme → Type 0) (s : Sign) : Option A → List Lexeme → List Lexeme → Type 0 where
  absent : {ts : List Lexeme} → Optional Item s None ts ts
  present : {a : A} {x : Lexeme} {ts us : List Lexeme} → x.sign ≡ s → Item a ts us → Optional Item s (Some a) (x ∷ ts) us

-- [ word item { separator item } ]
pub data Block {A : Type 0} (Item : A → List Lexeme → List Lexeme → Type 0) (word separator : Sign) : List A → List Lexeme → List Lexeme → Type 0 where
  absent : {ts : List Lexeme} → Block Item word separator [] ts ts
  present : {as_ : List A} {x : Lexeme} {ts us : List Lexeme} → x.sign ≡ word → Separated Item separator as_ ts us → Block Item word separator as_ (x ∷ ts) us

pub data IsName : Ident → List Lexeme → List Lexeme → Type 0 where
  name : {x : Lexeme} {ts : List Lexeme} → x.sign ≡ sign.Name → IsName (ident x) (x ∷ ts) ts

pub data IsNumber : ℤ → List Lexeme → List Lexeme → Type 0 where
  number : {x : Lexeme} {ts : List Lexeme} → x.sign ≡ sign.Number → IsNumber x.value (x ∷ ts) ts

-- [ "-" ] number; here "-" is a part of the number
pub data IsSigned : ℤ → List Lexeme → List Lexeme → Type 0 where
  plain : {x : Lexeme} {ts : List Lexeme} → x.sign ≡ sign.Number → IsSigned x.value (x ∷ ts) ts
  negative : {x y : Lexeme} {ts : List Lexeme} → x.sign ≡ sign.Minus → y.sign ≡ sign.Number → IsSigned (neg_ℤ y.value) (x ∷ y ∷ ts) ts

-- bound = [ "-" ] number | name
pub data IsBound : Bound → List Lexeme → List Lexeme → Type 0 where
  number : {n : ℤ} {ts us : List Lexeme} → IsSigned n ts us → IsBound (bound.Number n) ts us
  name : {x : Lexeme} {ts : List Lexeme} → x.sign ≡ sign.Name → IsBound (bound.Name (ident x)) (x ∷ ts) ts

-- scalar = "boolean" | bound ".." bound
pub data IsScalar : AstScalar → List Lexeme → List Lexeme → Type 0 where
  boolean : {x : Lexeme} {ts : List Lexeme} → x.sign ≡ sign.Boolean → IsScalar scalar.Boolean (x ∷ ts) ts
  between : {lo hi : Bound} {x : Lexeme} {ts us ws : List Lexeme} → IsBound lo ts (x ∷ us) → x.sign ≡ sign.Span → IsBound hi us ws → IsScalar (scalar.Between lo hi) ts ws

-- scalar | "array" number "of" scalar
pub data IsType : AstType → List Lexeme → List Lexeme → Type 0 where
  single : {s : AstScalar} {ts us : List Lexeme} → IsScalar s ts us → IsType (type_of.Scalar s) ts us
  array : {s : AstScalar} {x y z : Lexeme} {ts us : List Lexeme} → x.sign ≡ sign.Array → y.sign ≡ sign.Number → z.sign ≡ sign.Of → IsScalar s ts us → IsType (type_of.Array y.value s) (x ∷ y ∷ z ∷ ts) us

-- const = name "=" [ "-" ] number
pub data IsConst : AstConst → List Lexeme → List Lexeme → Type 0 where
  declared : {x y : Lexeme} {n : ℤ} {ts us : List Lexeme} → x.sign ≡ sign.Name → y.sign ≡ sign.Equal → IsSigned n ts us → IsConst (record { name = ident x; value = n }) (x ∷ y ∷ ts) us

-- input = name ":" scalar
pub data IsInput : AstVar → List Lexeme → List Lexeme → Type 0 where
  declared : {x y : Lexeme} {s : AstScalar} {ts us : List Lexeme} → x.sign ≡ sign.Name → y.sign ≡ sign.Colon → IsScalar s ts us → IsInput (record { name = ident x; kind = type_of.Scalar s; initial = None }) (x ∷ y ∷ ts) us

-- var = name ":" ( scalar | "array" number "of" scalar ) [ "=" bound ]
pub data IsVar : AstVar → List Lexeme → List Lexeme → Type 0 where
  declared : {x y : Lexeme} {k : AstType} {b : Option Bound} {ts us ws : List Lexeme} → x.sign ≡ sign.Name → y.sign ≡ sign.Colon → IsType k ts us → Optional IsBound sign.Equal b us ws → IsVar (record { name = ident x; kind = k; initial = b }) (x ∷ y ∷ ts) ws

-- field = name ":" number "bits" [ "=" number ]
pub data IsField : AstField → List Lexeme → List Lexeme → Type 0 where
  declared : {x y z w : Lexeme} {n : Option ℤ} {ts us : List Lexeme} → x.sign ≡ sign.Name → y.sign ≡ sign.Colon → z.sign ≡ sign.Number → w.sign ≡ sign.Bits → Optional IsNumber sign.Equal n ts us → IsField (record { name = ident x; width = z.value; fixed = n }) (x ∷ y ∷ z ∷ w ∷ ts) us

-- message = "message" name "begin" field { ";" field } "end"
pub data IsMessage : AstMessage → List Lexeme → List Lexeme → Type 0 where
  declared : {x y z w : Lexeme} {fields : List AstField} {ts us : List Lexeme} → x.sign ≡ sign.Message → y.sign ≡ sign.Name → z.sign ≡ sign.Begin → Separated IsField sign.Semicolon fields ts (w ∷ us) → w.sign ≡ sign.End → IsMessage (record { name = ident y; fields = fields }) (x ∷ y ∷ z ∷ ts) us
