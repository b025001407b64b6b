-- What the names in an action may stand for.
use Rattle.std.specs.Prelude.{ℕ, ◌==◌, Bool, false, List, length, filter, Option, Some, None, is_none, position, bytes_eq, slice_get}
use Rattle.tap_base.specs.declared.ast.AstField.{AstField}
use Rattle.tap_base.specs.declared.ast.AstMessage.{AstMessage}
use Rattle.tap_base.specs.Option.{◌>>=◌}
use Rattle.tap_names.specs.declared.named.Named.{Named}
use Rattle.tap_names.specs.MessageOffences.{message_names, field_names}
use Rattle.tap_names.specs.Tables.{Entry, standing_for}

-- the place of a name among names
abbrev pub number_of : List ℕ → List (List ℕ) → Option ℕ
number_of name names = position (λ x. bytes_eq name x) names

-- The messages, the names of the processes, which process this is, what its names stand for, and which message the
-- action receives.
pub record Scope : Type 0 where
  pub messages : List AstMessage
  pub processes : List (List ℕ)
  pub me : ℕ
  pub names : List (Entry Named)
  pub received : Option ℕ

abbrev pub named_in : Scope → List ℕ → Option Named
named_in c x = standing_for x c.names

abbrev pub message_in : Scope → List ℕ → Option ℕ
message_in c x = number_of x (message_names c.messages)

abbrev pub process_in : Scope → List ℕ → Option ℕ
process_in c x = number_of x c.processes

-- the number of a field, by the number of its message
abbrev pub field_in : Scope → ℕ → List ℕ → Option ℕ
field_in c m x = do
  message ← slice_get c.messages m
  number_of x (field_names message.fields)

-- how many fields have no fixed value
abbrev pub free_fields : List AstField → ℕ
free_fields fields = length (filter (λ f. is_none f.fixed) fields)

abbrev pub is_number : ℕ → Option ℕ → Bool
is_number n None = false
is_number n (Some m) = m == n
