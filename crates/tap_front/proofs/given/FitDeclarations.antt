-- Declarations that are read from fitting tokens: constants have 64 bits, and fitting tokens are left.
use Rattle.std.proofs.Common.{List, ◌∷◌}
use Rattle.tap_base.specs.declared.ast.AstMessage.{AstMessage}
use Rattle.tap_base.specs.declared.token.Sign.{Sign}
use Rattle.tap_base.specs.declared.token.Sign.TheVariants as sign
use Rattle.tap_base.specs.Lists.{Each}
use Rattle.tap_lexer.specs.Lexeme.{Lexeme}
use Rattle.tap_lexer.specs.Rows.{Rows, none, more}
use Rattle.tap_parser.specs.Declarations.{Optional, absent, present, Block, IsName, name, IsNumber, number, IsSigned, plain, negative, IsBound, IsScalar, boolean, between, IsType, single, array, IsConst, IsInput, IsVar, IsField, IsMessage, declared}
use Rattle.tap_types.specs.Given.{IsFit}
use Rattle.tap_front.proofs.given.FitExprs.{Gives, separated_fit}
use Rattle.tap_front.proofs.given.FitTokens.{Fit}

-- nothing but fitting tokens behind
abbrev pub Passes : {A : Type 0} → (A → List Lexeme → List Lexeme → Type 0) → Type 0
Passes {A} Item = Gives Item (λ a. Unit {0})

-- ---- what may be absent

module _ {A : Type 0} (Item : A → List Lexeme → List Lexeme → Type 0) (s : Sign) where
  pub optional_passes : Passes Item → Passes (Optional Item s)
  optional_passes f o ts us absent h = (tt, h)
  optional_passes f o ts us (present {a} {ts = vs} e i) h = (tt, (f a vs us i h.1).1)

module _ {A : Type 0} (Item : A → List Lexeme → List Lexeme → Type 0) (Q : A → Type 0) (word s : Sign) where
  pub block_fit : Gives Item Q → Gives (Block Item word s) (Each Q)
  block_fit f as_ ts us absent h = (tt, h)
  block_fit f as_ ts us (present {ts = vs} e r) h = separated_fit Item Q f s as_ vs us r h.1

-- ---- leaves

pub name_passes : Passes IsName
name_passes a ts us (name e) h = (tt, h.1)

number_passes : Passes IsNumber
number_passes a ts us (number e) h = (tt, h.1)

signed_fit : Gives IsSigned IsFit
signed_fit n ts us (plain e) h = (h.0.0, h.1)
signed_fit n ts us (negative e g) h = (h.1.0.1, h.1.1)

bound_passes : Passes IsBound
bound_passes b ts us (number {n} {ts = vs} {us = ws} i) h = (tt, (signed_fit n ts us i h).1)
bound_passes b ts us (name e) h = (tt, h.1)

scalar_passes : Passes IsScalar
scalar_passes k ts us (boolean e) h = (tt, h.1)
scalar_passes k ts us (between {lo} {hi} {x} {us = vs} l e i) h =
    let a = bound_passes lo ts (x ∷ vs) l h in
    let b = bound_passes hi vs us i a.1.1 in
    (tt, b.1)

type_passes : Passes IsType
type_passes k ts us (single {s} i) h = scalar_passes s ts us i h
type_passes k ts us (array {s} {ts = vs} e g i k_) h = scalar_passes s vs us k_ h.1.1.1

-- ---- declarations

pub const_fit : Gives IsConst (λ c. IsFit c.value)
const_fit c ts us (declared {n} {ts = vs} e g i) h = signed_fit n vs us i h.1.1

pub input_passes : Passes IsInput
input_passes v ts us (declared {s} {ts = vs} e g i) h = (tt, (scalar_passes s vs us i h.1.1).1)

pub var_passes : Passes IsVar
var_passes v ts us (declared {k} {b} {ts = vs} {us = ws} e g i o) h =
    let a = type_passes k vs ws i h.1.1 in
    optional_passes IsBound sign.Equal bound_passes b ws us o a.1

field_passes : Passes IsField
field_passes f ts us (declared {n} {ts = vs} e g i k o) h = optional_passes IsNumber sign.Equal number_passes n vs us o h.1.1.1.1

message_passes : Passes IsMessage
message_passes m ts us (declared {w} {fields} {ts = vs} {us = ws} e g i s k) h =
    let a = separated_fit IsField (λ f. Unit {0}) field_passes sign.Semicolon fields vs (w ∷ us) s h.1.1.1 in
    (tt, a.1.1)

pub messages_pass : {ms : List AstMessage} {ts us : List Lexeme} → Rows IsMessage ms ts us → Fit ts → Fit us
messages_pass none h = h
messages_pass (more {a} {ts} {us} i r) h = messages_pass r (message_passes a ts us i h).1
