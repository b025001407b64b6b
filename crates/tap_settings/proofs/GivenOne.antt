-- A setting that is put into a table behind others.
use Rattle.std.proofs.Common.{◌≡◌, ◌<◌, ℤ, true, false, List, [], ◌∷◌, ◌++◌, length, slice_get, slice_set, Option, Some, None, is_some, refl, sym, ap, subst, ◌∙◌}
use Rattle.std.proofs.lemmas.Option.{same_Some}
use Rattle.tap_base.specs.declared.system.Process.{Process}
use Rattle.tap_base.specs.Ranges.{is_within}
use Rattle.tap_settings.specs.declared.spots.Spot.{Spot}
use Rattle.tap_settings.specs.Offences.{setting_offences}
use Rattle.tap_settings.specs.SettingText.{Assignment}
use Rattle.tap_settings.specs.Spots.{spot_for}
use Rattle.tap_settings.specs.inner.Table.{HasPlaces, Holds, Rows, held_at}
use Rattle.tap_settings.proofs.Sound.{clear_has_none}
use Rattle.tap_settings.proofs.SpotFacts.{stands}
use Rattle.tap_settings.proofs.TableFacts.{holds_more, place_there, places_stay, row_there}
use Rattle.tap_base.proofs.LoopFacts.{first_none}

pub no_value : {A : Type 0} (o : Option A) → is_some o ≡ false → o ≡ None
no_value None e = refl
no_value (Some x) e = absurd cc

module _ (processes : List Process) (a : Assignment) (spot : Spot) (rows : Rows) (found : spot_for processes a ≡ Some spot) (places : HasPlaces processes rows) where
  -- the input has its place
  pub place_is : (row : List (Option ℤ)) → slice_get rows spot.process ≡ Some row → spot.input < length row
  place_is row e =
      let r = row_there processes rows spot places (stands processes a.process a.input spot found) in
      subst (λ z. spot.input < length z) (same_Some r.0 row (sym r.1 ∙ e)) r.2

  module _ (next : Rows) (x : ℤ) (put : (row : List (Option ℤ)) → slice_get rows spot.process ≡ Some row → next ≡ slice_set rows spot.process (slice_set row spot.input (Some x))) where
    -- the places stay
    pub places_after : HasPlaces processes next
    places_after =
        let r = row_there processes rows spot places (stands processes a.process a.input spot found) in
        subst (HasPlaces processes) (sym (put r.0 r.1)) (places_stay processes rows r.0 spot.process spot.input (Some x) r.1 places)

    -- and the table holds the value too
    pub given_after : (before : List Assignment) → Holds processes before rows → held_at rows spot.process spot.input ≡ None → is_within spot.range a.value ≡ true → x ≡ a.value
        → (setting_offences processes before a ≡ []) × Holds processes (before ++ a ∷ []) next
    given_after before holds free within same =
        let r = row_there processes rows spot places (stands processes a.process a.input spot found) in
        let o = place_there r.0 spot.input r.2 in
        let is : slice_set rows spot.process (slice_set r.0 spot.input (Some a.value)) ≡ next = ap (λ y. slice_set rows spot.process (slice_set r.0 spot.input (Some y))) (sym same) ∙ sym (put r.0 r.1) in (
          clear_has_none processes before a (record { spot = spot; found = found; free = first_none _ (sym (holds spot.process spot.input) ∙ free); within = within }),
          subst (Holds processes (before ++ a ∷ [])) is (holds_more processes before a spot rows r.0 o.0 found holds free r.1 o.1),
        )
