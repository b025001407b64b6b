use Rattle.std.proofs.Common.{[], ◌≡◌, ◌∙◌, ◌<◌, List, Option, Some, None, length, refl, sym, subst}
use Rattle.tap_base.specs.Lists.{Each}
use Rattle.abstract_run.specs.declared.label.Label.{Label}
use Rattle.abstract_run.specs.declared.label.Label.TheVariants as label
use Rattle.abstract_run.specs.declared.state.Falling.{Falling}
use Rattle.abstract_run.specs.Progress.{IsPossible}
use Rattle.abstract_run.proofs.GoesOn.{falls_go_on}
use Rattle.world_run.specs.Served.{Happened}
use Rattle.world_run.specs.inner.Serving.{fall_labels, said_by}
use Rattle.world_run.proofs.OneLabel.{did_nothing}
use Rattle.world_run.proofs.Rejecting.{fall_sized}
use Rattle.world_run.proofs.turn.stop_fallen.Goals as goal

pub perform-requires-clause-possible : goal.perform-requires-clause-possible
perform-requires-clause-possible c =
    let m = said_by c.args.given.now in
    let s = c.args.course.now.state in
    subst (λ rs. IsPossible m s (label.Stop c.in-Some.falling.process rs)) (sym (c.in_ok-receivers.ensures ∙ c.as_slice.ensures))
    (falls_go_on m s c.in-Some.falling c.requires.course.fits c.in-Some.is)

pub perform-requires-clause-sized : goal.perform-requires-clause-sized
perform-requires-clause-sized c =
    let m = said_by c.args.given.now in
    let x = fall_sized m c.args.course.now.state c.in-Some.falling c.requires.course.fits c.in-Some.is in
    (x.0, subst (Each (λ q. q < length m.processes)) (sym (c.in_ok-receivers.ensures ∙ c.as_slice.ensures)) x.1)

none_falls : (o : Option Falling) → ((f : Falling) → o ≡ Some f → ⊥) → fall_labels o ≡ []
none_falls None none = refl
none_falls (Some f) none = absurd (none f refl)

pub returns-in_default-clause-did : goal.returns-in_default-clause-did
returns-in_default-clause-did c =
    let m = said_by c.args.given.now in
    let course = c.args.course.now in
    let deeds = c.args.deeds.now in
    subst (λ (ls : List Label). Happened m ls course course deeds deeds) (sym (none_falls course.state.falling c.in_default.not-Some)) (did_nothing m course deeds)
