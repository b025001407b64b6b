-- The meaning of bytes as a value.
use Rattle.std.specs.Prelude.{ℕ, ◌==◌, ℤ, pos, if◌then◌else◌, List, [], ◌∷◌, flat_map, take, drop, slice_get, Option, Some, None, unwrap_or}
use Rattle.std.specs.Int.Digits.{number_from_digits}
use Rattle.std.specs.Option.{option_map}
use Rattle.std.specs.Str.{bytes_eq}
use Rattle.tap_base.specs.declared.wire.WireField.{WireField}
use Rattle.tap_base.specs.ListWords.{first}
use Rattle.tap_base.specs.Option.{◌>>=◌, provided}
use Rattle.byte_meaning.specs.declared.cell.Cell.{Cell}
use Rattle.byte_meaning.specs.declared.cell.Cell.TheVariants as cell
use Rattle.tap_exec.specs.Semantics.{Semantics, ActionSemantics, ProcessSemantics, GuardSemantics, local, receive, timeout}
use Rattle.byte_meaning.specs.Spelling.{digits, spelling}

-- ---- values

-- the bits of bytes, the most significant first
abbrev pub bits_of : List ℕ → List ℕ
bits_of bytes = flat_map (digits 8) bytes

-- the value of a field with these bits: its fixed value, or else their number
abbrev pub value_by : Option ℤ → List ℕ → ℤ
value_by (Some v) bits = v
value_by None bits = pos (number_from_digits 2 bits)

-- the values of fields whose bits stand one behind the other
abbrev pub values_by : List WireField → List ℕ → List ℤ
values_by [] bits = []
values_by (f ∷ fs) bits = value_by f.fixed (take f.width bits) ∷ values_by fs (drop f.width bits)

-- the values that bytes spell: those by their bits, where the spelling of these is the bytes again
abbrev pub values_spelled : List WireField → List ℕ → Option (List ℤ)
values_spelled fields bytes = provided (bytes_eq (spelling fields values) bytes) values where
  values : List ℤ
  values = values_by fields (bits_of bytes)

-- ---- messages

abbrev pub as_list : Option Cell → List Cell
as_list None = []
as_list (Some c) = c ∷ []

-- the message numbered m with the values that bytes spell, where they spell it
abbrev pub spelled_message : List (List WireField) → List ℕ → ℕ → List Cell
spelled_message messages bytes m = as_list (option_map (cell.Msg m) (slice_get messages m >>= λ fields. values_spelled fields bytes))

-- the first one of the messages with these numbers that bytes spell, or an error
abbrev pub meaning_among : List (List WireField) → List ℕ → List ℕ → Cell
meaning_among messages numbers bytes = unwrap_or (first (flat_map (spelled_message messages bytes) numbers)) cell.Error

-- ---- what a process receives

abbrev pub heard_by : ℕ → GuardSemantics → List ℕ
heard_by q (receive m r) = if r == q then m ∷ [] else []
heard_by q (local test) = []
heard_by q (timeout t) = []

abbrev pub heard_in : ℕ → Option ProcessSemantics → List ℕ
heard_in q None = []
heard_in q (Some process) = flat_map (λ (a : ActionSemantics). heard_by q a.guard) process.actions

-- the messages that p receives from q, by its actions in text order
abbrev pub heard : Semantics → ℕ → ℕ → List ℕ
heard semantics q p = heard_in q (slice_get semantics.processes p)

-- what bytes from q to p mean
abbrev pub meaning : Semantics → ℕ → ℕ → List ℕ → Cell
meaning semantics q p bytes = meaning_among semantics.messages (heard semantics q p) bytes
