use Rattle.std.proofs.Common.{◌≡◌, sym, ap, ◌∙◌, arith, w64, to_z, of_z}
use Rattle.std.proofs.lemmas.Int.{ints, to_z-of_z}
use Rattle.tap_base.specs.Ranges.{is_within}
use Rattle.tap_settings.specs.SettingText.{assignment_of}
use Rattle.tap_settings.specs.inner.Table.{held_at}
use Rattle.tap_settings.proofs.GivenOne.{given_after, no_value, place_is, places_after}
use Rattle.tap_settings.proofs.giving.give.Goals as goal

pub hold-requires-clause-input : goal.hold-requires-clause-input
hold-requires-clause-input c = place_is c.args.processes.now (assignment_of c.args.setting.now) c.in-Some.spot c.args.rows.now (sym c.spot_of.ensures ∙ c.in-Some.is) c.requires

pub returns-clause-places : goal.returns-clause-places
returns-clause-places c =
    places_after c.args.processes.now (assignment_of c.args.setting.now) c.in-Some.spot c.args.rows.now (sym c.spot_of.ensures ∙ c.in-Some.is) c.requires c.hold.new.rows _ c.hold.ensures

pub returns-clause-given : goal.returns-clause-given
returns-clause-given c before holds =
    let free = no_value _ (sym c.is_some.ensures ∙ c.if-is_some.false) in
    let same : to_z w64 (of_z w64 c.args.setting.now.value) ≡ c.args.setting.now.value = grind (arith, ints, to_z-of_z) in
    given_after c.args.processes.now (assignment_of c.args.setting.now) c.in-Some.spot c.args.rows.now (sym c.spot_of.ensures ∙ c.in-Some.is) c.requires c.hold.new.rows _ c.hold.ensures before holds
    (ap (λ rows. held_at rows c.in-Some.spot.process c.in-Some.spot.input) (sym c.as_slice.ensures) ∙ sym c.held_at.ensures ∙ free)
    (ap (is_within c.in-Some.spot.range) (sym same) ∙ sym c.is_within.ensures ∙ c.if-not-is_within.false) same
