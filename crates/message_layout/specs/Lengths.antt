-- The lengths of messages in bytes.
use Rattle.std.specs.Prelude.{ℕ, ◌==◌, max, if◌then◌else◌, List, [], ◌∷◌, slice_get, unwrap_or}
use Rattle.std.specs.Option.{option_map}
use Rattle.tap_base.specs.declared.wire.Receive.{Receive}
use Rattle.tap_base.specs.declared.wire.Wire.{Wire}
use Rattle.tap_base.specs.declared.wire.WireField.{WireField}
use Rattle.byte_meaning.specs.Apart.{byte_length}

-- the length of the message numbered m
abbrev pub length_of : List (List WireField) → ℕ → ℕ
length_of messages m = unwrap_or (option_map byte_length (slice_get messages m)) 0

-- the greatest length of the messages that p receives by these, 0 for none, where `length_at` gives the length of each
abbrev pub longest_of : (ℕ → ℕ) → ℕ → List Receive → ℕ
longest_of length_at p [] = 0
longest_of length_at p (r ∷ rs) = max (if r.by == p then length_at r.message else 0) (longest_of length_at p rs)

-- the greatest length of a message that p receives, 0 for none
abbrev pub longest : Wire → ℕ → ℕ
longest wire p = longest_of (length_of wire.messages) p wire.receives
