-- Tables of the names of fields.
use Rattle.std.proofs.Common.{◌≡◌, ℕ, zero, suc, ◌+◌, ◌<◌, ◌≤◌, refl, sym, ◌∙◌, ap, false, List, [], ◌∷◌, ◌++◌, Some, length, map, take, drop, get_or, arith}
use Rattle.std.specs.Prelude.{slice_get}
use Rattle.std.specs.Option.{option_and_then}
use Rattle.std.proofs.lemmas.List.{length-map}
use Rattle.tap_base.specs.declared.ast.AstField.{AstField}
use Rattle.tap_base.specs.declared.ast.AstMessage.{AstMessage}
use Rattle.tap_base.specs.declared.refusal.Refusal.{Refusal}
use Rattle.tap_base.specs.declared.refusal.RefusalCode.TheVariants.{N2}
use Rattle.tap_base.specs.Lists.{Each}
use Rattle.tap_base.proofs.ListFacts.{cut_at_item, each_at, element_alike, none_first, none_second, same_parts}
use Rattle.tap_names.specs.declared.table.Table.{Table}
use Rattle.tap_names.specs.Limits.{most_fields, most_messages}
use Rattle.tap_base.specs.ListWords.{behind}
use Rattle.tap_names.specs.MessageOffences.{field_names, field_offences, fields_offences, message_names, message_offences}
use Rattle.tap_names.specs.Messages.{HasFewFields}
use Rattle.tap_names.specs.NameOffences.{count_offences, name_offences}
use Rattle.tap_base.specs.Offences.{where_}
use Rattle.tap_names.specs.Tables.{Entry, entries_of, is_among}
use Rattle.tap_types.specs.Scopes.{number_of}
use Rattle.tap_types.specs.inner.Listed.{HasFields, fields_in}
use Rattle.tap_base.proofs.OffenceFacts.{unmet}

-- a field without an offence has a name of its own
own_name : (before : List (List ℕ)) (f : AstField) → field_offences before f ≡ [] → is_among f.name.text before ≡ false
own_name before f h =
    unmet (is_among f.name.text before) N2 f.name.place
    (none_second _ (where_ (is_among f.name.text before) N2 f.name.place) (none_first (name_offences before f.name) (count_offences most_fields before f.name) (none_first _ _ h)))

module _ (xs : List AstField) (i : ℕ) (x : AstField) (l : i < length xs) (q : x ≡ get_or xs i x) where
  abbrev F : List AstField → AstField → List Refusal
  F before f = field_offences (field_names before) f

  pub here : behind F (take i xs) (drop i xs) ≡ [] → F (take i xs) x ++ behind F (take i xs ++ x ∷ []) (drop (i + 1) xs) ≡ []
  here h = sym (ap (behind F (take i xs)) (cut_at_item xs i x l q)) ∙ h

  pub fresh_field : behind F (take i xs) (drop i xs) ≡ [] → is_among x.name.text (field_names (take i xs)) ≡ false
  fresh_field h = own_name (field_names (take i xs)) x (none_first (F (take i xs) x) _ (here h))

-- where no message has an offence, no field has one
pub all_fields : (before xs : List AstMessage) → behind (λ seen m. message_offences (message_names seen) m) before xs ≡ [] → Each HasFields xs
all_fields before [] h = tt
all_fields before (m ∷ ms) h =
    let names = message_names before in (
      none_second (name_offences names m.name ++ count_offences most_messages names m.name) (fields_offences m.fields) (none_first (message_offences names m) _ h),
      all_fields (before ++ m ∷ []) ms (none_second (message_offences names m) _ h),
    )

-- the number of a name among the fields of a message, by the table of its number
pub numbers_alike : (tables : List (Table (Unit {0}))) (messages : List AstMessage) (k : ℕ) (x : List ℕ) → map fields_in tables ≡ map (λ m. field_names m.fields) messages → option_and_then (λ t. number_of x (fields_in t)) (slice_get tables k) ≡ option_and_then (λ m. number_of x (field_names m.fields)) (slice_get messages k)
numbers_alike [] [] k x e = refl
numbers_alike [] (m ∷ ms) k x e = absurd cc
numbers_alike (t ∷ ts) [] k x e = absurd cc
numbers_alike (t ∷ ts) (m ∷ ms) zero x e = ap (number_of x) (same_parts (fields_in t) (field_names m.fields) (map fields_in ts) (map (λ n. field_names n.fields) ms) e).0
numbers_alike (t ∷ ts) (m ∷ ms) (suc k) x e = numbers_alike ts ms k x (same_parts (fields_in t) (field_names m.fields) (map fields_in ts) (map (λ n. field_names n.fields) ms) e).1

-- a table of fields has few names
pub few_names : (tables : List (Table (Unit {0}))) (messages : List AstMessage) (k : ℕ) (t : Table (Unit {0})) → map fields_in tables ≡ map (λ m. field_names m.fields) messages → Each HasFewFields messages → slice_get tables k ≡ Some t → length (entries_of t) ≤ most_fields
few_names tables messages k t e few g =
    let f = element_alike (λ (m : AstMessage). field_names m.fields) fields_in messages tables k t (sym e) g in
    let n = each_at HasFewFields messages k f.0 few f.1 in
    let a = length-map (entries_of t) (λ (z : Entry (Unit {0})). z.0) in
    let b = ap length f.2 in
    let d = length-map f.0.fields (λ (z : AstField). z.name.text) in
    omega (arith, n, a, b, d)
