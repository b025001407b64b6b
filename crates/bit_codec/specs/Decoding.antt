-- What a decoder answers.
use Rattle.std.specs.Prelude.{◌≡◌, ℕ, ℤ, List, ◌++◌, drop, length, Option, Some, None}
use Rattle.tap_base.specs.declared.wire.Wire.{Wire}
use Rattle.byte_meaning.specs.declared.cell.Cell.TheVariants as cell
use Rattle.byte_meaning.specs.Meaning.{HasReceive, Means}

-- Of bytes from q to p: the message that they mean, and its values stand at the front; or none where they mean an error, and
-- nothing has changed.
abbrev pub Decodes : Wire → ℕ → ℕ → List ℕ → List ℤ → Option ℕ → List ℤ → Type 0
Decodes wire q p bytes old (Some m) new =
    (values : List ℤ) × Means wire.messages (HasReceive wire) q p bytes (cell.Msg m values) × (new ≡ values ++ drop (length values) old)
Decodes wire q p bytes old None new = Means wire.messages (HasReceive wire) q p bytes cell.Error × (new ≡ old)
