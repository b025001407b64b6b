-- Tokens that begin with printed ones.
use Rattle.std.proofs.Common.{◌≡◌, List, [], ◌∷◌, ◌++◌}
use Rattle.tap_lexer.specs.Lexeme.{Lexeme}
use Rattle.tap_printer.specs.CanonicalLaws.{IsPrinted, Begins, none, next}
use Rattle.tap_printer.specs.Printed.{Printed}

-- where printed tokens stand one behind the other, the tokens between them
pub record Parts (first second : List Printed) (ts us : List Lexeme) : Type 0 where
  pub middle : List Lexeme
  pub front : Begins first ts middle
  pub rest : Begins second middle us

pub parts : (first second : List Printed) {ts us : List Lexeme} → Begins (first ++ second) ts us → Parts first second ts us
parts [] second {ts} {us} h = record { middle = ts; front = none; rest = h }
parts (t ∷ first) second (next i h) =
    let r = parts first second h in
    record { middle = r.middle; front = next i r.front; rest = r.rest }

-- the same where one token stands between the two
pub record Around (first : List Printed) (t : Printed) (second : List Printed) (ts us : List Lexeme) : Type 0 where
  pub x : Lexeme
  pub middle : List Lexeme
  pub front : Begins first ts (x ∷ middle)
  pub is : IsPrinted t x
  pub rest : Begins second middle us

pub around : (first : List Printed) (t : Printed) (second : List Printed) {ts us : List Lexeme} → Begins (first ++ t ∷ second) ts us → Around first t second ts us
around [] t second (next {x} {ts} i h) = record { x = x; middle = ts; front = none; is = i; rest = h }
around (a ∷ first) t second (next i h) =
    let r = around first t second h in
    record { x = r.x; middle = r.middle; front = next i r.front; is = r.is; rest = r.rest }

-- a last token
pub record Closing (first : List Printed) (t : Printed) (ts us : List Lexeme) : Type 0 where
  pub x : Lexeme
  pub front : Begins first ts (x ∷ us)
  pub is : IsPrinted t x

pub closing : (first : List Printed) (t : Printed) {ts us : List Lexeme} → Begins (first ++ t ∷ []) ts us → Closing first t ts us
closing [] t (next {x} i none) = record { x = x; front = none; is = i }
closing (a ∷ first) t (next i h) =
    let r = closing first t h in
    record { x = r.x; front = next i r.front; is = r.is }

-- ---- what is printed of a form is read as that form, but for its places

pub record Read {A : Type 0} (aside : A → A) (Item : A → List Lexeme → List Lexeme → Type 0) (a : A) (ts us : List Lexeme) : Type 0 where
  pub again : A
  pub item : Item again ts us
  pub same : aside again ≡ aside a

abbrev pub ReadsAgain : {A : Type 0} → (A → A) → List Printed → (A → List Lexeme → List Lexeme → Type 0) → A → Type 0
ReadsAgain aside printed Item a = (ts us : List Lexeme) → Begins printed ts us → Read aside Item a ts us
