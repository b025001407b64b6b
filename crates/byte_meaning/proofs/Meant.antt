-- The function of the meaning of bytes gives what they mean.
use Rattle.std.proofs.Common.{◌≡◌, ℕ, zero, suc, ℤ, List, [], ◌∷◌, ◌++◌, refl, ap, sym, ◌∙◌, subst, arith, Bool, true, false, Option, Some, None}
use Rattle.std.specs.Prelude.{slice_get, flat_map, unwrap_or}
use Rattle.std.specs.Option.{option_map}
use Rattle.std.specs.Str.{bytes_eq}
use Rattle.std.specs.List.{Contains}
use Rattle.std.proofs.lemmas.Slice.Eq.{bytes_eq-Decides}
use Rattle.tap_base.specs.declared.wire.WireField.{WireField}
use Rattle.tap_base.specs.ListWords.{first}
use Rattle.tap_base.specs.Option.{◌>>=◌, provided}
use Rattle.byte_meaning.specs.declared.cell.Cell.{Cell}
use Rattle.byte_meaning.specs.declared.cell.Cell.TheVariants as cell
use Rattle.byte_meaning.specs.Messages.{AreFields, Receives}
use Rattle.tap_exec.specs.Semantics.{Semantics}
use Rattle.byte_meaning.specs.Spelling.{spelling}
use Rattle.byte_meaning.specs.Meaning.{Means, Spells}
use Rattle.byte_meaning.specs.Reading.{as_list, bits_of, values_by, values_spelled, spelled_message, meaning_among, heard, meaning}
use Rattle.byte_meaning.proofs.Elements.{no_element}
use Rattle.byte_meaning.proofs.Heard.{received_when_heard, heard_when_received}
use Rattle.byte_meaning.proofs.Spelled.{read_spelling, fields_by}

-- ---- one message

-- what a message is spelled as is read from it
pub values_of_spelling : (fields : List WireField) (values : List ℤ) (bytes : List ℕ) → AreFields fields values → spelling fields values ≡ bytes → values_spelled fields bytes ≡ Some values
values_of_spelling fields values bytes fit e =
    let read : values_by fields (bits_of bytes) ≡ values = ap (λ b. values_by fields (bits_of b)) (sym e) ∙ read_spelling fields values fit in
    let same : bytes_eq (spelling fields (values_by fields (bits_of bytes))) bytes ≡ true =
    (bytes_eq-Decides (spelling fields (values_by fields (bits_of bytes))) bytes).1 (ap (spelling fields) read ∙ e) in
    ap (λ b. provided b (values_by fields (bits_of bytes))) same ∙ ap Some read

pub spelled_by_values : (fields : List WireField) (values : List ℤ) (bytes : List ℕ) → values_spelled fields bytes ≡ Some values → AreFields fields values × (spelling fields values ≡ bytes)
spelled_by_values fields values bytes h = by_test (bytes_eq (spelling fields (values_by fields (bits_of bytes))) bytes) refl h where
  by_test : (b : Bool) → bytes_eq (spelling fields (values_by fields (bits_of bytes))) bytes ≡ b → provided b (values_by fields (bits_of bytes)) ≡ Some values
      → AreFields fields values × (spelling fields values ≡ bytes)
  by_test true same is =
      let read : values_by fields (bits_of bytes) ≡ values = cc in
      (subst (AreFields fields) read (fields_by fields bytes), ap (spelling fields) (sym read) ∙ (bytes_eq-Decides (spelling fields (values_by fields (bits_of bytes))) bytes).0 same)
  by_test false same is = absurd (cc)

abbrev values_in : List (List WireField) → List ℕ → ℕ → Option (List ℤ)
values_in messages bytes m = slice_get messages m >>= λ fields. values_spelled fields bytes

found : (messages : List (List WireField)) (bytes : List ℕ) (m : ℕ) (values : List ℤ) → values_in messages bytes m ≡ Some values → Spells messages m values bytes
found messages bytes m values h = by_fields (slice_get messages m) refl h where
  by_fields : (o : Option (List WireField)) → slice_get messages m ≡ o → (o >>= λ fields. values_spelled fields bytes) ≡ Some values → Spells messages m values bytes
  by_fields None is e = absurd (cc)
  by_fields (Some fields) is e = let s = spelled_by_values fields values bytes e in record { fields = fields; declared = is; fitting = s.0; spelled = s.1 }

found_from : (messages : List (List WireField)) (bytes : List ℕ) (m : ℕ) (values : List ℤ) → Spells messages m values bytes → values_in messages bytes m ≡ Some values
found_from messages bytes m values s = ap (λ o. o >>= λ fields. values_spelled fields bytes) s.declared ∙ values_of_spelling s.fields values bytes s.fitting s.spelled

-- ---- one after another

-- what the numbers that are left mean
abbrev MeansAmong : List (List WireField) → List ℕ → List ℕ → Cell → Type 0
MeansAmong messages numbers bytes (cell.Msg m values) = Contains numbers m × Spells messages m values bytes
MeansAmong messages numbers bytes cell.Error = (m : ℕ) (values : List ℤ) → Contains numbers m → Spells messages m values bytes → ⊥

behind : (numbers : List ℕ) (n m : ℕ) → Contains numbers m → Contains (n ∷ numbers) m
behind numbers n m h = (suc h.0, omega (arith, h.1), h.2)

in_front : (numbers : List ℕ) (n m : ℕ) → Contains (n ∷ numbers) m → (n ≡ m → ⊥) → Contains numbers m
in_front numbers n m (zero, within, same) other = absurd (other same)
in_front numbers n m (suc k, within, same) other = (k, omega arith, same)

later : (messages : List (List WireField)) (bytes : List ℕ) (n : ℕ) (numbers : List ℕ) (c : Cell) → values_in messages bytes n ≡ None → MeansAmong messages numbers bytes c → MeansAmong messages (n ∷ numbers) bytes c
later messages bytes n numbers (cell.Msg m values) none h = (behind numbers n m h.0, h.1)
later messages bytes n numbers cell.Error none h = λ m values heard_ s.
    h m values (in_front numbers n m heard_ (λ same. let e = found_from messages bytes m values s in let f : values_in messages bytes m ≡ None = ap (values_in messages bytes) (sym same) ∙ none in absurd (cc))) s

-- the first one that is found, or else that of the numbers behind
abbrev next_meaning : ℕ → Option (List ℤ) → List Cell → Cell
next_meaning n o rest = unwrap_or (first (as_list (option_map (cell.Msg n) o) ++ rest)) cell.Error

one_among : (messages : List (List WireField)) (n : ℕ) (numbers bytes : List ℕ) → MeansAmong messages numbers bytes (meaning_among messages numbers bytes)
    → (o : Option (List ℤ)) → values_in messages bytes n ≡ o → MeansAmong messages (n ∷ numbers) bytes (next_meaning n o (flat_map (spelled_message messages bytes) numbers))
one_among messages n numbers bytes h None e = later messages bytes n numbers (meaning_among messages numbers bytes) e h
one_among messages n numbers bytes h (Some values) e = ((0, omega arith, refl), found messages bytes n values e)

among : (messages : List (List WireField)) (numbers bytes : List ℕ) → MeansAmong messages numbers bytes (meaning_among messages numbers bytes)
among messages [] bytes = λ m values h s. absurd (no_element m h)
among messages (n ∷ numbers) bytes = one_among messages n numbers bytes (among messages numbers bytes) (values_in messages bytes n) refl

-- the meaning among numbers is what bytes mean, where the numbers are those of what p receives from q
pub means_among : (messages : List (List WireField)) (receives : ℕ → ℕ → ℕ → Type 0) (q p : ℕ) (numbers bytes : List ℕ)
    → ((m : ℕ) → Contains numbers m → receives p m q) → ((m : ℕ) → receives p m q → Contains numbers m)
    → Means messages receives q p bytes (meaning_among messages numbers bytes)
means_among messages receives q p numbers bytes to from = by_cell (meaning_among messages numbers bytes) (among messages numbers bytes) where
  by_cell : (c : Cell) → MeansAmong messages numbers bytes c → Means messages receives q p bytes c
  by_cell (cell.Msg m values) h = (to m h.0, h.1)
  by_cell cell.Error h = λ m values received s. h m values (from m received) s

pub meaning_is_meant : (semantics : Semantics) (q p : ℕ) (bytes : List ℕ) → Means semantics.messages (Receives semantics) q p bytes (meaning semantics q p bytes)
meaning_is_meant semantics q p bytes =
    means_among semantics.messages (Receives semantics) q p (heard semantics q p) bytes (received_when_heard semantics q p) (heard_when_received semantics q p)
