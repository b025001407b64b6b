-- Messages that are not told apart, and the first two of them.
use Rattle.std.specs.Prelude.{◌≡◌, ◌⊎◌, ℕ, ◌<◌, List, [], ◌∷◌, slice_get, Some}
use Rattle.tap_base.specs.declared.wire.Wire.{Wire}
use Rattle.tap_base.specs.declared.wire.WireField.{WireField}
use Rattle.byte_meaning.specs.Apart.{Apart}
use Rattle.byte_meaning.specs.Meaning.{HasReceive}

-- p receives m and a later message n from q, and they are not told apart
pub record Clash (wire : Wire) (p q m n : ℕ) : Type 0 where
  pub one : List WireField
  pub other : List WireField
  pub one_there : slice_get wire.messages m ≡ Some one
  pub other_there : slice_get wire.messages n ≡ Some other
  pub one_received : HasReceive wire p m q
  pub other_received : HasReceive wire p n q
  pub later : m < n
  pub alike : Apart one other → ⊥

-- numbers stand before others: where they first differ, they have the lesser number
abbrev pub StandBefore : List ℕ → List ℕ → Type 0
StandBefore (x ∷ xs) (y ∷ ys) = (x < y) ⊎ ((x ≡ y) × StandBefore xs ys)
StandBefore _ _ = ⊥

-- m and n are the first two messages that clash: by receiver, then peer, then the first message, then the second
pub record IsFirstClash (wire : Wire) (m n : ℕ) : Type 0 where
  pub receiver : ℕ
  pub peer : ℕ
  pub clash : Clash wire receiver peer m n
  pub first : (p q j k : ℕ) → Clash wire p q j k → StandBefore (p ∷ q ∷ j ∷ k ∷ []) (receiver ∷ peer ∷ m ∷ n ∷ []) → ⊥
