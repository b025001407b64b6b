-- What any grammar is built of: rules over tokens, and rows of what a rule reads.
use Rattle.std.specs.Prelude.{◌≡◌, List, [], ◌∷◌}
use Rattle.tap_base.specs.declared.token.Sign.{Sign}
use Rattle.tap_lexer.specs.Lexeme.{Lexeme}

-- A rule relates what is read, the tokens that are there, and the tokens behind what is read.
abbrev pub Rule : Type 0 → Type 1
Rule A = A → List Lexeme → List Lexeme → Type 0

-- item { separator item }
pub data Separated {A : Type 0} (Item : A → List Lexeme → List Lexeme → Type 0) (separator : Sign) : List A → List Lexeme → List Lexeme → Type 0 where
  last : {a : A} {ts us : List Lexeme} → Item a ts us → Separated Item separator (a ∷ []) ts us
  more : {a : A} {as_ : List A} {x : Lexeme} {ts us ws : List Lexeme} → Item a ts (x ∷ us) → x.sign ≡ separator → Separated Item separator as_ us ws → Separated Item separator (a ∷ as_) ts ws

-- [ item { separator item } ]
pub data SomeSeparated {A : Type 0} (Item : A → List Lexeme → List Lexeme → Type 0) (separator : Sign) : List A → List Lexeme → List Lexeme → Type 0 where
  none : {ts : List Lexeme} → SomeSeparated Item separator [] ts ts
  some : {as_ : List A} {ts us : List Lexeme} → Separated Item separator as_ ts us → SomeSeparated Item separator as_ ts us

-- { item }
pub data Rows {A : Type 0} (Item : A → List Lexeme → List Lexeme → Type 0) : List A → List Lexeme → List Lexeme → Type 0 where
  none : {ts : List Lexeme} → Rows Item [] ts ts
  more : {a : A} {as_ : List A} {ts us ws : List Lexeme} → Item a ts us → Rows Item as_ us ws → Rows Item (a ∷ as_) ts ws

-- item { item }
pub data Row {A : Type 0} (Item : A → List Lexeme → List Lexeme → Type 0) : List A → List Lexeme → List Lexeme → Type 0 where
  last : {a : A} {ts us : List Lexeme} → Item a ts us → Row Item (a ∷ []) ts us
  more : {a : A} {as_ : List A} {ts us ws : List Lexeme} → Item a ts us → Row Item as_ us ws → Row Item (a ∷ as_) ts ws
