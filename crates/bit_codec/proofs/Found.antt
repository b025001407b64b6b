-- What is found is what bytes mean, and what is encoded is what is spelled.
use Rattle.std.proofs.Common.{◌≡◌, ℕ, ◌*◌, ◌≤◌, ℤ, List, length, ap, sym, ◌∙◌, subst, arith, Some, None}
use Rattle.std.specs.Prelude.{slice_get, unwrap_or}
use Rattle.std.specs.Option.{option_map}
use Rattle.std.proofs.lemmas.Option.{same_Some}
use Rattle.tap_base.specs.declared.wire.Wire.{Wire}
use Rattle.tap_base.specs.declared.wire.WireField.{WireField}
use Rattle.byte_meaning.specs.declared.cell.Cell.TheVariants as cell
use Rattle.byte_meaning.specs.Messages.{AreFields, AreValuesOf}
use Rattle.byte_meaning.specs.Spelling.{spelling}
use Rattle.byte_meaning.specs.Apart.{bit_length, byte_length}
use Rattle.byte_meaning.specs.Meaning.{HasReceive, Means}
use Rattle.byte_meaning.specs.Reading.{bits_of, values_by, values_spelled}
use Rattle.byte_meaning.proofs.Meant.{spelled_by_values, values_of_spelling}
use Rattle.byte_meaning.proofs.Spelled.{counted_by, length_spelling}
use Rattle.message_layout.specs.Lengths.{length_of}
use Rattle.bit_codec.specs.inner.Finds.{Finds, IsFound}

pub one_message : (messages : List (List WireField)) (m : ℕ) (one other : List WireField) → slice_get messages m ≡ Some one → slice_get messages m ≡ Some other → one ≡ other
one_message messages m one other e f = same_Some one other (sym e ∙ f)

-- ---- what bytes mean

pub no_meaning : (wire : Wire) (q p : ℕ) (bytes : List ℕ) → Finds wire q p bytes None → Means wire.messages (HasReceive wire) q p bytes cell.Error
no_meaning wire q p bytes none m values received s =
    let here : values_spelled s.fields bytes ≡ Some values = values_of_spelling s.fields values bytes s.fitting s.spelled in
    let not_here : values_spelled s.fields bytes ≡ None = none m s.fields received s.declared in
    absurd (cc)

spelled_here : (wire : Wire) (q p : ℕ) (bytes : List ℕ) (m : ℕ) (fields : List WireField) → IsFound wire q p bytes m → slice_get wire.messages m ≡ Some fields
    → AreFields fields (values_by fields (bits_of bytes)) × (spelling fields (values_by fields (bits_of bytes)) ≡ bytes)
spelled_here wire q p bytes m fields found is =
    let same : found.fields ≡ fields = one_message wire.messages m found.fields fields found.declared is in
    spelled_by_values fields (values_by fields (bits_of bytes)) bytes (subst (λ fs. values_spelled fs bytes ≡ Some (values_by fs (bits_of bytes))) same found.spelled)

pub found_meaning : (wire : Wire) (q p : ℕ) (bytes : List ℕ) (m : ℕ) (fields : List WireField) → IsFound wire q p bytes m → slice_get wire.messages m ≡ Some fields
    → Means wire.messages (HasReceive wire) q p bytes (cell.Msg m (values_by fields (bits_of bytes)))
found_meaning wire q p bytes m fields found is =
    let s = spelled_here wire q p bytes m fields found is in
    (found.received, record { fields = fields; declared = is; fitting = s.0; spelled = s.1 })

pub found_length : (wire : Wire) (q p : ℕ) (bytes : List ℕ) (m : ℕ) (fields : List WireField) → IsFound wire q p bytes m → slice_get wire.messages m ≡ Some fields
    → bit_length fields ≤ 8 * length bytes
found_length wire q p bytes m fields found is =
    let s = spelled_here wire q p bytes m fields found is in
    let long : length bytes ≡ byte_length fields = sym (ap length s.1) ∙ length_spelling fields (values_by fields (bits_of bytes)) (counted_by fields (bits_of bytes)) in
    omega arith

-- ---- what is encoded

pub values_fit : (messages : List (List WireField)) (m : ℕ) (values : List ℤ) (fields : List WireField) → AreValuesOf messages m values → slice_get messages m ≡ Some fields → AreFields fields values
values_fit messages m values fields h is = subst (λ fs. AreFields fs values) (one_message messages m h.fields fields h.declared is) h.fitting

pub length_there : (messages : List (List WireField)) (m : ℕ) (fields : List WireField) → slice_get messages m ≡ Some fields → length_of messages m ≡ byte_length fields
length_there messages m fields is = ap (λ o. unwrap_or (option_map byte_length o) 0) is
