-- What a reader of a form of the language answers.
use Rattle.std.specs.Prelude.{◌≡◌, ℕ, ◌+◌, ◌<◌, ◌≤◌, nat_lt, Bool, true, false, List, Option, Some, None, Result, Ok, Err, drop, length}
use Rattle.tap_base.specs.declared.token.Sign.{Sign}
use Rattle.tap_lexer.specs.Lexeme.{Lexeme}
use Rattle.tap_lexer.specs.declared.found.Found.{Found}
use Rattle.tap_lexer.specs.inner.Reading.{Shows}
use Rattle.tap_lexer.specs.inner.Reading.{Lacks, Never}
use Rattle.tap_expr.specs.declared.found.Stuck.{Stuck}
use Rattle.tap_expr.specs.declared.found.Stuck.TheVariants as stuck
use Rattle.tap_expr.specs.inner.ExprReading.{Alike}
use Rattle.tap_parser.specs.declared.kept.Kept.{Kept}
use Rattle.tap_parser.specs.declared.kept.Kept.TheVariants.{Whole, Large}

-- The tokens before us spell a, and no other reading of ts is followed by what can't carry it on.
pub record IsReadOnce {A : Type 0} (Item : A → List Lexeme → List Lexeme → Type 0) (Stops : List Lexeme → Type 0) (ts us : List Lexeme) (a : A) : Type 0 where
  pub spelled : Item a ts us
  pub only : (b : A) (ws : List Lexeme) → Item b ts ws → Stops ws → (b ≡ a) × (ws ≡ us)

-- the form that the tokens of a list spell from one place to another, or that none stands there
abbrev pub Verdict : {A : Type 0} → (A → List Lexeme → List Lexeme → Type 0) → (List Lexeme → Type 0) → List Lexeme → List Lexeme → Option A → Type 0
Verdict Item Stops ts us (Some a) = IsReadOnce Item Stops ts us a
Verdict Item Stops ts us None = Never Item Stops ts

-- whether an expression that begins at a place is asked to be small
abbrev pub asks : Option ℕ → List Lexeme → ℕ → Bool
asks None ys k = false
asks (Some n) ys k = nat_lt n (length (drop k ys))

-- What is kept is the form; or there is none, exactly where the large expression is asked to be small.
abbrev pub Agrees : {A : Type 0} → Option ℕ → List Lexeme → Kept A → Option A → Type 0
Agrees n ys (Whole a) o = o ≡ Some a
Agrees n ys (Large k) (Some a) = asks n ys k ≡ false
Agrees n ys (Large k) None = asks n ys k ≡ true

-- the large expression begins within the form, at a token
abbrev pub Lies : {A : Type 0} → List Lexeme → ℕ → ℕ → Kept A → Type 0
Lies xs at next (Whole a) = Unit {0}
Lies xs at next (Large k) = (at ≤ k) × (k ≤ next) × (k < length xs)

-- What a list spells there, whatever is asked of its expressions.
abbrev pub Told : {A : Type 0} → (Option ℕ → A → List Lexeme → List Lexeme → Type 0) → (List Lexeme → Type 0) → List Lexeme → ℕ → ℕ → Kept A → Type 0
Told {A} Item Stops ys at next kept = (n : Option ℕ) → (o : Option A) × Verdict (Item n) Stops (drop at ys) (drop next ys) o × Agrees n ys kept o

-- What is read, and that nothing is, holds for every list that agrees up to the last token looked at.
abbrev pub Answers : {A : Type 0} → (Option ℕ → A → List Lexeme → List Lexeme → Type 0) → (List Lexeme → Type 0) → List Lexeme → ℕ → Result (Found (Kept A)) Stuck → Type 0
Answers Item Stops xs at (Ok found) = (at ≤ found.next) × Lies xs at found.next found.value × ((ys : List Lexeme) → Alike (found.next + 1) xs ys → Told Item Stops ys at found.next found.value)
Answers Item Stops xs at (Err (stuck.At k)) = (at ≤ k) × ((ys : List Lexeme) → Alike (k + 1) xs ys → (n : Option ℕ) → Never (Item n) Stops (drop at ys))
Answers Item Stops xs at (Err stuck.NoMemory) = Unit {0}

-- a form without expressions is kept whole
abbrev pub whole : {A : Type 0} → Result (Found A) Stuck → Result (Found (Kept A)) Stuck
whole (Ok found) = Ok (record { value = Whole found.value; next = found.next })
whole (Err e) = Err e

abbrev pub Tells : {A : Type 0} → (A → List Lexeme → List Lexeme → Type 0) → (List Lexeme → Type 0) → List Lexeme → ℕ → Result (Found A) Stuck → Type 0
Tells Item Stops xs at r = Answers (λ n. Item) Stops xs at (whole r)

-- a token with the sign stands at the place, and the number of the token after it
abbrev pub Expects : Sign → List Lexeme → ℕ → Result ℕ Stuck → Type 0
Expects s xs at (Ok next) = Shows s xs at × (next ≡ at + 1)
Expects s xs at (Err (stuck.At k)) = (k ≡ at) × Lacks s (drop at xs)
Expects s xs at (Err stuck.NoMemory) = Unit {0}
