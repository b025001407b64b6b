-- Values of fields: of a message that is received, and of one that is sent.
use Rattle.std.proofs.Common.{◌≡◌, suc, ℤ, List, [], ◌∷◌, ◌++◌, map, length, refl, ap, sym, subst, ◌∙◌, slice_get, Option, None, Some, arith}
use Rattle.std.specs.Int.Signed.{≤ℤ_refl}
use Rattle.std.proofs.lemmas.Option.{slice_get-map}
use Rattle.tap_base.specs.declared.system.Field.{Field}
use Rattle.tap_base.specs.declared.system.Message.{Message}
use Rattle.tap_base.specs.declared.wire.WireField.{WireField}
use Rattle.tap_base.specs.Interval.{IsIn, field_range, from_to}
use Rattle.tap_base.specs.Ranges.{AreAllIn, AreIn}
use Rattle.tap_base.specs.Scope.{fields_of, free_fields, one_free, value_range}
use Rattle.tap_base.proofs.OptionFacts.{mapped}
use Rattle.tap_exec.specs.Filling.{wire_field, wire_fields}
use Rattle.sound_values.specs.Fields.{FillsFields, GivenFieldsFit, ReceivedFieldsFit}

-- ---- received

-- the ranges of fields are those that a run asks of them
same_ranges : (fields : List Field) → map field_range (map wire_field fields) ≡ map value_range fields
same_ranges [] = refl
same_ranges (f ∷ fs) = ap (λ ranges. value_range f ∷ ranges) (same_ranges fs)

pub received_fit : ReceivedFieldsFit
received_fit messages process m q fields values declared h =
    let x = mapped wire_fields (slice_get messages m) fields (sym (slice_get-map wire_fields messages m) ∙ declared) in
    let fitting : AreAllIn (map field_range (wire_fields x.0)) values = subst (λ (wires : List WireField). AreAllIn (map field_range wires) values) (sym x.2) h in
    let own = subst (λ ranges. AreAllIn ranges values) (same_ranges x.0.fields) fitting in
    subst (λ (o : Option Message). AreAllIn (map value_range (fields_of o)) values) (sym x.1) own

-- ---- given

fixed_range : (f : Field) (v : ℤ) → f.fixed ≡ Some v → field_range (wire_field f) ≡ from_to v v
fixed_range f v h = rw h refl

-- the fields behind, whatever is given for them
abbrev AreFilled : List Field → Type 0
AreFilled fs = (given : List ℤ) → length given ≡ length (map value_range (free_fields fs)) → AreIn (map value_range (free_fields fs)) given → FillsFields (map wire_field fs) given

by_fixed : (f : Field) (fs : List Field) → AreFilled fs → (o : Option ℤ) → f.fixed ≡ o → (given : List ℤ) → length given ≡ length (map value_range (one_free o f ++ free_fields fs))
    → AreIn (map value_range (one_free o f ++ free_fields fs)) given → FillsFields (map wire_field (f ∷ fs)) given
by_fixed f fs again (Some v) is given n h =
    let rest = again given n h in
    let own : IsIn v (field_range (wire_field f)) = subst (IsIn v) (sym (fixed_range f v is)) (≤ℤ_refl v, ≤ℤ_refl v) in
    let more = rest.fills in
    record {
      values = v ∷ rest.values;
      fills = rw (is, more) refl;
      fitting = record { counted = ap suc rest.fitting.counted; within = (own, rest.fitting.within) };
    }
by_fixed f fs again None is [] n h = absurd (omega (arith, n))
by_fixed f fs again None is (x ∷ given) n h =
    let rest = again given (omega (arith, n)) h.1 in
    let more = rest.fills in
    record {
      values = x ∷ rest.values;
      fills = rw (is, more) refl;
      fitting = record { counted = ap suc rest.fitting.counted; within = (h.0, rest.fitting.within) };
    }

none_left : (given : List ℤ) → length given ≡ 0 → FillsFields [] given
none_left [] n = record { values = []; fills = refl; fitting = record { counted = refl; within = tt } }
none_left (x ∷ given) n = absurd (omega (arith, n))

all_filled : (fields : List Field) → AreFilled fields
all_filled [] given n h = none_left given n
all_filled (f ∷ fs) given n h = by_fixed f fs (all_filled fs) f.fixed refl given n h

pub given_fit : GivenFieldsFit
given_fit fields given h = all_filled fields given h.counted h.within
