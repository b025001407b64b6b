-- Messages that are not told apart, marked before it is asked who receives them.
use Rattle.std.specs.Prelude.{◌≡◌, ◌≢◌, ◌⊎◌, ℕ, ◌<◌, Bool, true, false, List, length, slice_get, slice_index_or, Some, unwrap_or, MatchBool}
use Rattle.std.specs.List.{Contains}
use Rattle.tap_base.specs.declared.wire.WireField.{WireField}
use Rattle.byte_meaning.specs.Apart.{DifferAt, byte_length, pattern}
use Rattle.message_layout.specs.declared.arrivals.Arrival.{Arrival}
use Rattle.message_layout.specs.declared.shapes.Shape.{Shape}
use Rattle.message_layout.specs.inner.Arrivals.{arrival}

-- ---- shapes

abbrev pub shape_of : List WireField → Shape
shape_of fields = record { length = byte_length fields; pattern = pattern fields }

-- messages of two shapes are told apart
abbrev pub AreApart : Shape → Shape → Type 0
AreApart one other = (one.length ≢ other.length) ⊎ ((at : ℕ) × DifferAt one.pattern other.pattern at)

-- ---- marks

-- the message numbered n is marked
abbrev pub is_rival : List Bool → ℕ → Bool
is_rival row n = unwrap_or (slice_get row n) false

-- a mark says whether n, a message behind m, is not told apart from it
abbrev pub IsMark : List Shape → ℕ → ℕ → Bool → Type 0
IsMark shapes m n mark =
    (one other : Shape) → m < n → slice_get shapes m ≡ Some one → slice_get shapes n ≡ Some other
    → MatchBool mark (AreApart one other → ⊥) (AreApart one other)

-- of the messages behind m those are marked that are not told apart from it
abbrev pub AreRivals : List Shape → ℕ → List Bool → Type 0
AreRivals shapes m row = (n : ℕ) → IsMark shapes m n (is_rival row n)

-- for each message a row
pub record AreAllRivals (shapes : List Shape) (rivals : List (List Bool)) : Type 0 where
  pub counted : length rivals ≡ length shapes
  pub marked : (m : ℕ) (row : List Bool) → slice_get rivals m ≡ Some row → AreRivals shapes m row

-- ---- arrivals

-- n comes the same way as the arrival a, and is a later message
pub record ComesLater (arrivals : List Arrival) (a : Arrival) (n : ℕ) : Type 0 where
  pub there : Contains arrivals (arrival a.to a.from n)
  pub later : a.message < n

-- no such message is marked
abbrev pub NoRival : List Arrival → ℕ → List Bool → Type 0
NoRival arrivals at row = (d : Arrival) (n : ℕ) → ComesLater arrivals (slice_index_or arrivals at d) n → is_rival row n ≡ false

-- n is the first such message that is marked
pub record IsFirstRival (arrivals : List Arrival) (at : ℕ) (row : List Bool) (n : ℕ) : Type 0 where
  pub comes : (d : Arrival) → ComesLater arrivals (slice_index_or arrivals at d) n
  pub marked : is_rival row n ≡ true
  pub first : (d : Arrival) (k : ℕ) → ComesLater arrivals (slice_index_or arrivals at d) k → k < n → is_rival row k ≡ false
