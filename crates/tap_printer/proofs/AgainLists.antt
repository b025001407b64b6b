-- What is printed of lists of forms is read as those lists, places aside.
use Rattle.std.proofs.Common.{◌≡◌, refl, ◌∙◌, ap, subst, List, [], ◌∷◌, ◌++◌, map, flat_map, append-nil}
use Rattle.tap_base.specs.declared.token.Sign.{Sign}
use Rattle.tap_lexer.specs.Lexeme.{Lexeme}
use Rattle.tap_lexer.specs.Rows.{Separated, last, more, SomeSeparated, none as no_items, some, Rows, Row}
use Rattle.tap_lexer.specs.Rows as rows
use Rattle.tap_parser.specs.Declarations.{Block}
use Rattle.tap_parser.specs.Declarations as declarations
use Rattle.tap_printer.specs.Canonical.{separated, block}
use Rattle.tap_printer.specs.CanonicalLaws.{Begins, none, next}
use Rattle.tap_printer.specs.Printed.{Printed, mark}
use Rattle.tap_printer.proofs.Printing.{parts, around, ReadsAgain}
use Rattle.tap_printer.proofs.Separators.{further_is, block_is}

pub without_end : (printed : List Printed) {ts us : List Lexeme} → Begins (printed ++ []) ts us → Begins printed ts us
without_end printed {ts} {us} g = subst (λ p. Begins p ts us) (append-nil printed) g

-- both of two facts make one of a function of two
pub both : {A B C : Type 0} (f : A → B → C) {a c : A} {b d : B} → a ≡ c → b ≡ d → f a b ≡ f c d
both f {c} {b} p q = ap (λ x. f x b) p ∙ ap (f c) q

module _ {A : Type 0} (aside : A → A) (f : A → List Printed) (Item : A → List Lexeme → List Lexeme → Type 0) (h : (a : A) (ts us : List Lexeme) → Item a ts us → ReadsAgain aside (f a) Item a) where
  pub separated_again : {s : Sign} {items : List A} {ts us : List Lexeme} → Separated Item s items ts us → ReadsAgain (map aside) (separated s (map f items)) (Separated Item s) items
  separated_again (last {a} {ts} {us} i) all end g =
      let r = h a ts us i all end (without_end (f a) g) in
      record { again = r.again ∷ []; item = last r.item; same = ap (λ v. v ∷ []) r.same }
  separated_again {s} (more {a} {as_} {x} {ts} {us} i e r) all end g =
      let c = around (f a) (mark s) (separated s (map f as_)) (subst (λ p. Begins (f a ++ p) all end) (further_is f Item r) g) in
      let q = h a ts (x ∷ us) i all (c.x ∷ c.middle) c.front in
      let n = separated_again r c.middle end c.rest in
      record { again = q.again ∷ n.again; item = more q.item c.is n.item; same = both (λ v w. v ∷ w) q.same n.same }

  pub some_again : {s : Sign} {items : List A} {ts us : List Lexeme} → SomeSeparated Item s items ts us → ReadsAgain (map aside) (separated s (map f items)) (SomeSeparated Item s) items
  some_again no_items all end none = record { again = []; item = no_items; same = refl }
  some_again (some r) all end g =
      let n = separated_again r all end g in
      record { again = n.again; item = some n.item; same = n.same }

  block_present : {word s : Sign} {items : List A} → ReadsAgain (map aside) (separated s (map f items)) (Separated Item s) items → ReadsAgain (map aside) (mark word ∷ separated s (map f items)) (Block Item word s) items
  block_present h all end (next {ts} i k) =
      let n = h ts end k in
      record { again = n.again; item = declarations.present i n.item; same = n.same }

  pub block_again : {word s : Sign} {items : List A} {ts us : List Lexeme} → Block Item word s items ts us → ReadsAgain (map aside) (block word s (map f items)) (Block Item word s) items
  block_again declarations.absent all end none = record { again = []; item = declarations.absent; same = refl }
  block_again {word} (declarations.present e r) all end g = block_present (separated_again r) all end (subst (λ p. Begins p all end) (block_is f Item word r) g)

  pub rows_again : {items : List A} {ts us : List Lexeme} → Rows Item items ts us → ReadsAgain (map aside) (flat_map f items) (Rows Item) items
  rows_again rows.Rows.none all end none = record { again = []; item = rows.Rows.none; same = refl }
  rows_again (rows.Rows.more {a} {as_} {ts} {us} i r) all end g =
      let c = parts (f a) (flat_map f as_) g in
      let q = h a ts us i all c.middle c.front in
      let n = rows_again r c.middle end c.rest in
      record { again = q.again ∷ n.again; item = rows.Rows.more q.item n.item; same = both (λ v w. v ∷ w) q.same n.same }

  pub row_again : {items : List A} {ts us : List Lexeme} → Row Item items ts us → ReadsAgain (map aside) (flat_map f items) (Row Item) items
  row_again (rows.Row.last {a} {ts} {us} i) all end g =
      let r = h a ts us i all end (without_end (f a) g) in
      record { again = r.again ∷ []; item = rows.Row.last r.item; same = ap (λ v. v ∷ []) r.same }
  row_again (rows.Row.more {a} {as_} {ts} {us} i r) all end g =
      let c = parts (f a) (flat_map f as_) g in
      let q = h a ts us i all c.middle c.front in
      let n = row_again r c.middle end c.rest in
      record { again = q.again ∷ n.again; item = rows.Row.more q.item n.item; same = both (λ v w. v ∷ w) q.same n.same }
