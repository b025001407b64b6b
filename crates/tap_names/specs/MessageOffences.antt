-- The offences of declared messages and of their fields, in text order: each is judged by those that stand before it.
use Rattle.std.specs.Prelude.{ℕ, ◌^◌, ℤ, pos, Bool, true, not, ◌&&◌, int_le, int_lt, List, [], ◌++◌, map, Option, Some, None, unsigned_abs}
use Rattle.tap_base.specs.declared.ast.AstField.{AstField}
use Rattle.tap_base.specs.declared.ast.AstMessage.{AstMessage}
use Rattle.tap_base.specs.declared.refusal.Refusal.{Refusal}
use Rattle.tap_base.specs.declared.refusal.RefusalCode.TheVariants.{X2}
use Rattle.tap_names.specs.Limits.{most_bits, most_fields, most_messages}
use Rattle.tap_base.specs.ListWords.{behind}
use Rattle.tap_names.specs.NameOffences.{count_offences, name_offences}
use Rattle.tap_base.specs.Offences.{where_}

-- ---- fields

abbrev pub field_names : List AstField → List (List ℕ)
field_names fields = map (λ f. f.name.text) fields

-- a width from 1 to 63
abbrev pub is_width : ℤ → Bool
is_width w = int_le (pos 1) w && int_le w (pos most_bits)

-- no fixed value, or one that the width has room for
abbrev pub holds_fixed : ℤ → Option ℤ → Bool
holds_fixed w None = true
holds_fixed w (Some v) = int_le (pos 0) v && int_lt v (pos (2 ^ unsigned_abs w))

-- a field behind fields of these names
abbrev pub field_offences : List (List ℕ) → AstField → List Refusal
field_offences before f =
    name_offences before f.name
    ++ count_offences most_fields before f.name
    ++ where_ (not (is_width f.width && holds_fixed f.width f.fixed)) X2 f.name.place

-- the fields of a message are a space of names
abbrev pub fields_offences : List AstField → List Refusal
fields_offences fields = behind (λ before f. field_offences (field_names before) f) [] fields

-- ---- messages

abbrev pub message_names : List AstMessage → List (List ℕ)
message_names messages = map (λ m. m.name.text) messages

-- a message behind messages of these names
abbrev pub message_offences : List (List ℕ) → AstMessage → List Refusal
message_offences before m =
    name_offences before m.name
    ++ count_offences most_messages before m.name
    ++ fields_offences m.fields

abbrev pub messages_offences : List AstMessage → List Refusal
messages_offences messages = behind (λ before m. message_offences (message_names before) m) [] messages
