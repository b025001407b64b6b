-- Messages without an offence are messages of a resolved system.
use Rattle.std.proofs.Common.{◌≡◌, ℕ, ◌<◌, ◌≤◌, ◌≤ℤ◌, ◌<ℤ◌, ◌^◌, ℤ, pos, true, not, ◌&&◌, List, [], ◌∷◌, ◌++◌, Option, Some, None, map, length, refl, ap, sym, subst, arith}
use Rattle.std.specs.Prelude.{IfSome, int_le, int_lt, nat_le, nat_lt, unsigned_abs}
use Rattle.std.proofs.lemmas.Int.{ints}
use Rattle.std.proofs.lemmas.List.{length-map}
use Rattle.tap_base.specs.declared.ast.AstField.{AstField}
use Rattle.tap_base.specs.declared.ast.AstMessage.{AstMessage}
use Rattle.tap_base.specs.declared.ast.Ident.{Ident}
use Rattle.tap_base.specs.declared.refusal.RefusalCode.TheVariants.{N2, X1, X2}
use Rattle.tap_base.specs.declared.system.Field.{Field}
use Rattle.tap_base.specs.declared.system.Message.{Message}
use Rattle.tap_base.specs.Lists.{AreDistinct, Each, IsNoneOf}
use Rattle.tap_base.proofs.ListFacts.{each_map, none_first, none_second}
use Rattle.tap_names.specs.MessageOffences.{field_names, field_offences, fields_offences, holds_fixed, is_width, message_names, message_offences, messages_offences}
use Rattle.tap_names.specs.NameOffences.{count_offences, name_offences}
use Rattle.tap_names.specs.Names.{field_of, message_of}
use Rattle.tap_base.specs.Offences.{where_}
use Rattle.tap_names.specs.Tables.{is_among}
use Rattle.tap_base.specs.NamesOfSystems.{FieldsAreDistinct, IsShort, MessageIsShort}
use Rattle.tap_base.specs.Resolved.{IsField, IsMessage}
use Rattle.tap_types.proofs.whole.NewNames.{none_among}
use Rattle.tap_types.proofs.whole.Numbers.{at_most, below, fewer, no_more}
use Rattle.tap_base.proofs.GatheredFacts.{behind_distinct, behind_each, behind_few}
use Rattle.tap_base.proofs.OffenceFacts.{both_true, met, unmet}

-- ---- names

-- a name without an offence is short, and none of those before it
pub name_short : (before : List (List ℕ)) (name : Ident) → name_offences before name ≡ [] → IsShort name.text
name_short before name h = no_more 64 (length name.text) (unmet (nat_lt 64 (length name.text)) X1 name.place (none_first (where_ (nat_lt 64 (length name.text)) X1 name.place) (where_ (is_among name.text before) N2 name.place) h))

pub name_new : (before : List (List ℕ)) (name : Ident) → name_offences before name ≡ [] → IsNoneOf name.text before
name_new before name h = none_among name.text before (unmet (is_among name.text before) N2 name.place (none_second (where_ (nat_lt 64 (length name.text)) X1 name.place) (where_ (is_among name.text before) N2 name.place) h))

pub count_fewer : (most : ℕ) (before : List (List ℕ)) (name : Ident) → count_offences most before name ≡ [] → length before < most
count_fewer most before name h = fewer most (length before) (unmet (nat_le most (length before)) X1 name.place h)

-- ---- fields

-- three lists of offences
first_of_three : (before : List (List ℕ)) (f : AstField) → field_offences before f ≡ [] → (name_offences before f.name ≡ []) × (count_offences 256 before f.name ≡ []) × (where_ (not (is_width f.width && holds_fixed f.width f.fixed)) X2 f.name.place ≡ [])
first_of_three before f h =
    let n = name_offences before f.name in
    let c = count_offences 256 before f.name in
    let w = where_ (not (is_width f.width && holds_fixed f.width f.fixed)) X2 f.name.place in
    let nc = none_first (n ++ c) w h in
    (none_first n c nc, none_second n c nc, none_second (n ++ c) w h)

width_good : (w : ℤ) → pos 1 ≤ℤ w → w ≤ℤ pos 63 → (1 ≤ unsigned_abs w) × (unsigned_abs w ≤ 63)
width_good w low high = (grind (arith, ints), grind (arith, ints))

fixed_good : (w : ℤ) (o : Option ℤ) → holds_fixed w o ≡ true → IfSome o (λ x. (pos 0 ≤ℤ x) × (x <ℤ pos (2 ^ unsigned_abs w)))
fixed_good w None h = tt
fixed_good w (Some v) h =
    let b = both_true (int_le (pos 0) v) (int_lt v (pos (2 ^ unsigned_abs w))) h in
    (at_most (pos 0) v b.0, below v (pos (2 ^ unsigned_abs w)) b.1)

field_good : (before : List (List ℕ)) (f : AstField) → field_offences before f ≡ [] → IsField (field_of f) × IsShort f.name.text
field_good before f h =
    let t = first_of_three before f h in
    let b = both_true (is_width f.width) (holds_fixed f.width f.fixed) (met (is_width f.width && holds_fixed f.width f.fixed) X2 f.name.place t.2) in
    let w = both_true (int_le (pos 1) f.width) (int_le f.width (pos 63)) b.0 in
    let g = width_good f.width (at_most (pos 1) f.width w.0) (at_most f.width (pos 63) w.1) in
    let field : IsField (field_of f) = (g.0, g.1, fixed_good f.width f.fixed b.1) in
    (field, name_short before f.name t.0)

-- ---- messages

-- what is known of one message of a system
pub record GoodMessage (m : Message) : Type 0 where
  pub is : IsMessage m
  pub short : MessageIsShort m
  pub distinct : FieldsAreDistinct m

field_texts : (fs : List AstField) → map (λ (f : Field). f.name) (map field_of fs) ≡ field_names fs
field_texts [] = refl
field_texts (f ∷ fs) = ap (λ z. f.name.text ∷ z) (field_texts fs)

fields_few : (fs : List AstField) → fields_offences fs ≡ [] → length fs ≤ 256
fields_few fs h = behind_few (λ before f. field_offences (field_names before) f) 256 few fs h
  where
    few : (before : List AstField) (f : AstField) → field_offences (field_names before) f ≡ [] → length before < 256
    few before f e = subst (λ z. z < 256) (length-map before (λ (f : AstField). f.name.text)) (count_fewer 256 (field_names before) f.name (first_of_three (field_names before) f e).1)

fields_distinct : (fs : List AstField) → fields_offences fs ≡ [] → AreDistinct (field_names fs)
fields_distinct fs h = behind_distinct (λ before f. field_offences (field_names before) f) (λ f. f.name.text) [] tt (λ before f e. name_new (field_names before) f.name (first_of_three (field_names before) f e).0) fs h

fields_good : (fs : List AstField) → fields_offences fs ≡ [] → Each (λ f. IsField (field_of f) × IsShort f.name.text) fs
fields_good fs h = behind_each (λ before f. field_offences (field_names before) f) (λ f. IsField (field_of f) × IsShort f.name.text) (λ before f e. field_good (field_names before) f e) [] fs h

of_message : (before : List (List ℕ)) (m : AstMessage) → message_offences before m ≡ [] → (name_offences before m.name ≡ []) × (count_offences 256 before m.name ≡ []) × (fields_offences m.fields ≡ [])
of_message before m h =
    let n = name_offences before m.name in
    let c = count_offences 256 before m.name in
    let nc = none_first (n ++ c) (fields_offences m.fields) h in
    (none_first n c nc, none_second n c nc, none_second (n ++ c) (fields_offences m.fields) h)

message_good : (before : List (List ℕ)) (m : AstMessage) → message_offences before m ≡ [] → GoodMessage (message_of m)
message_good before m h =
    let t = of_message before m h in
    let all = fields_good m.fields t.2 in
    let few : length (map field_of m.fields) ≤ 256 = subst (λ z. z ≤ 256) (sym (length-map m.fields field_of)) (fields_few m.fields t.2) in
    record {
      is = (few, each_map (λ f. IsField (field_of f) × IsShort f.name.text) IsField field_of m.fields (λ f g. g.0) all);
      short = (name_short before m.name t.0, each_map (λ f. IsField (field_of f) × IsShort f.name.text) (λ (f : Field). IsShort f.name) field_of m.fields (λ f g. g.1) all);
      distinct = subst AreDistinct (sym (field_texts m.fields)) (fields_distinct m.fields t.2);
    }

pub messages_good : (ms : List AstMessage) → messages_offences ms ≡ [] → Each GoodMessage (map message_of ms)
messages_good ms h = each_map (λ m. GoodMessage (message_of m)) GoodMessage message_of ms (λ m g. g) (behind_each (λ before m. message_offences (message_names before) m) (λ m. GoodMessage (message_of m)) (λ before m e. message_good (message_names before) m e) [] ms h)

pub messages_few : (ms : List AstMessage) → messages_offences ms ≡ [] → length ms ≤ 256
messages_few ms h = behind_few (λ before m. message_offences (message_names before) m) 256 few ms h
  where
    few : (before : List AstMessage) (m : AstMessage) → message_offences (message_names before) m ≡ [] → length before < 256
    few before m e = subst (λ z. z < 256) (length-map before (λ (m : AstMessage). m.name.text)) (count_fewer 256 (message_names before) m.name (of_message (message_names before) m e).1)

pub messages_distinct : (ms : List AstMessage) → messages_offences ms ≡ [] → AreDistinct (message_names ms)
messages_distinct ms h = behind_distinct (λ before m. message_offences (message_names before) m) (λ m. m.name.text) [] tt (λ before m e. name_new (message_names before) m.name (of_message (message_names before) m e).0) ms h
