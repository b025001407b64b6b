-- The order of rejects: a process rejects the errors that have arrived at it in the order in which they arrived, whatever
-- peer they came from. Of each process there is a list of the senders of these errors.
use Rattle.std.specs.Prelude.{ℕ, ◌≡◌, ◌==◌, Bool, if◌then◌else◌, List, [], ◌∷◌, ◌++◌, take, length, replicate, count_by, position, slice_get, slice_set, Option, Some, unwrap_or}
use Rattle.std.specs.Option.{option_map}
use Rattle.tap_base.specs.Option.{◌>>=◌, is_yes}
use Rattle.abstract_run.specs.declared.label.Label.{Label}
use Rattle.abstract_run.specs.declared.label.Label.TheVariants as label
use Rattle.abstract_run.specs.declared.state.Channel.{Channel}
use Rattle.abstract_run.specs.declared.state.State.{State}
use Rattle.abstract_run.specs.Channels.{channel_of, is_error}
use Rattle.tap_exec.specs.Semantics.{Semantics}
use Rattle.exact_choice.specs.Moments.{Moment, moments}

-- ---- errors in a channel

-- how many errors stand before the mark
abbrev pub arrived_errors : Channel → ℕ
arrived_errors c = count_by is_error (take c.mark c.cells)

-- how many errors from q have arrived at p and stand there
abbrev pub errors_from : List Channel → ℕ → ℕ → ℕ
errors_from channels q p = unwrap_or (option_map arrived_errors (channel_of q p channels)) 0

-- the place of the first error before the mark, from the head
abbrev pub first_error_in : Channel → Option ℕ
first_error_in c = position is_error (take c.mark c.cells)

-- the place of the first error from q that has arrived at p
abbrev pub first_error : State → ℕ → ℕ → Option ℕ
first_error s q p = channel_of q p s.channels >>= first_error_in

-- the cell at the mark is an error
abbrev pub has_bad_next : Channel → Bool
has_bad_next c = is_yes (option_map is_error (slice_get c.cells c.mark))

-- the next cell from q to arrive at p is an error
abbrev pub arrives_bad : State → ℕ → ℕ → Bool
arrives_bad s q p = is_yes (option_map has_bad_next (channel_of q p s.channels))

-- ---- the senders of the errors that have arrived

-- at the opening there are none
abbrev pub opening_errors : Semantics → List (List ℕ)
opening_errors semantics = replicate (length semantics.processes) []

-- Of each process there is a list, and each peer stands in it as often as errors from it have arrived there.
pub record AreErrorsOf (semantics : Semantics) (s : State) (errors : List (List ℕ)) : Type 0 where
  pub counted : length errors ≡ length semantics.processes
  pub stand : (p : ℕ) (senders : List ℕ) → slice_get errors p ≡ Some senders → (q : ℕ) → count_by (λ r. r == q) senders ≡ errors_from s.channels q p

-- one more error from q is the last that arrived at p
abbrev pub one_more : ℕ → ℕ → List (List ℕ) → List (List ℕ)
one_more q p errors = slice_set errors p (unwrap_or (slice_get errors p) [] ++ q ∷ [])

-- The error that p rejects is the one that arrived first: its sender is the first of the list of p, and it is the first
-- error in the channel from there. The other lists stay.
pub record RejectsFirst (s : State) (q p i : ℕ) (old new : List (List ℕ)) : Type 0 where
  pub others : List ℕ
  pub stood : slice_get old p ≡ Some (q ∷ others)
  pub first : first_error s q p ≡ Some i
  pub moved : new ≡ slice_set old p others

-- An error is rejected so, and one that arrives is the last. Every other label leaves the lists.
abbrev pub Rejects : Moment → List (List ℕ) → List (List ℕ) → Type 0
Rejects (s, label.Arrive q p) old new = new ≡ (if arrives_bad s q p then one_more q p old else old)
Rejects (s, label.Reject q p i) old new = RejectsFirst s q p i old new
Rejects m old new = new ≡ old

-- one moment after another
abbrev pub AllReject : List Moment → List (List ℕ) → List (List ℕ) → Type 0
AllReject [] old new = new ≡ old
AllReject (m ∷ ms) old new = (middle : List (List ℕ)) × Rejects m old middle × AllReject ms middle new

-- Each error of a run is rejected so; at its beginning none has arrived.
pub record RejectsInOrder (semantics : Semantics) (s : State) (labels : List Label) : Type 0 where
  -- the senders of those that stand there at the end
  pub errors : List (List ℕ)
  pub all : AllReject (moments semantics s labels) (opening_errors semantics) errors

-- What is rejected is determined, and so are the lists.
abbrev pub OneReject : Type 0
OneReject = (s : State) (p q r i j : ℕ) (old new other : List (List ℕ)) → RejectsFirst s q p i old new → RejectsFirst s r p j old other → (q ≡ r) × (i ≡ j) × (new ≡ other)
