-- Lists of what rules read, where what is read has a fact, and where a fact of each token stays one of those that are left.
use Rattle.std.proofs.Common.{List, ◌∷◌, Option}
use Rattle.tap_base.specs.Lists.{Each}
use Rattle.tap_base.specs.declared.token.Sign.{Sign}
use Rattle.tap_lexer.specs.Lexeme.{Lexeme}
use Rattle.tap_lexer.specs.Rows.{Separated, SomeSeparated, Rows, Row, last, more, none, some}
use Rattle.tap_parser.specs.Declarations.{Optional, Block, absent, present}

module _ (P : Lexeme → Type 0) {A : Type 0} (Q : A → Type 0) (Item : A → List Lexeme → List Lexeme → Type 0) (one : (a : A) (ts us : List Lexeme) → Item a ts us → Each P ts → Q a × Each P us) where
  pub separated : {s : Sign} {l : List A} {ts us : List Lexeme} → Separated Item s l ts us → Each P ts → Each Q l × Each P us
  separated (last {a} {ts} {us} i) h = let k = one a ts us i h in ((k.0, tt), k.1)
  separated (more {a} {x} {ts} {us} i e r) h = let k = one a ts (x ∷ us) i h in let m = separated r k.1.1 in ((k.0, m.0), m.1)

  pub block : {word s : Sign} {l : List A} {ts us : List Lexeme} → Block Item word s l ts us → Each P ts → Each Q l × Each P us
  block absent h = (tt, h)
  block (present e r) h = separated r h.1

  pub rows : {l : List A} {ts us : List Lexeme} → Rows Item l ts us → Each P ts → Each Q l × Each P us
  rows none h = (tt, h)
  rows (more {a} {ts} {us} i r) h = let k = one a ts us i h in let m = rows r k.1 in ((k.0, m.0), m.1)

  pub row : {l : List A} {ts us : List Lexeme} → Row Item l ts us → Each P ts → Each Q l × Each P us
  row (last {a} {ts} {us} i) h = let k = one a ts us i h in ((k.0, tt), k.1)
  row (more {a} {ts} {us} i r) h = let k = one a ts us i h in let m = row r k.1 in ((k.0, m.0), m.1)

-- the same where nothing is said of what is read
module _ (P : Lexeme → Type 0) {A : Type 0} (Item : A → List Lexeme → List Lexeme → Type 0) (one : (a : A) (ts us : List Lexeme) → Item a ts us → Each P ts → Each P us) where
  pub separated_left : {s : Sign} {l : List A} {ts us : List Lexeme} → Separated Item s l ts us → Each P ts → Each P us
  separated_left r h = (separated P (λ a. Unit {0}) Item (λ a ts us i k. (tt, one a ts us i k)) r h).1

  pub some_left : {s : Sign} {l : List A} {ts us : List Lexeme} → SomeSeparated Item s l ts us → Each P ts → Each P us
  some_left none h = h
  some_left (some r) h = separated_left r h

  pub optional_left : {s : Sign} {a : Option A} {ts us : List Lexeme} → Optional Item s a ts us → Each P ts → Each P us
  optional_left absent h = h
  optional_left (present {a} {ts} {us} e i) h = one a ts us i h.1
