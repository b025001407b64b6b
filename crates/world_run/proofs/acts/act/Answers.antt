use Rattle.std.proofs.Common.{◌≡◌, ◌≤◌, ◌+◌, ◌∙◌, ℤ, List, [], ap, sym, subst, arith}
use Rattle.std.specs.Prelude.{FitsSigned, Err}
use Rattle.std.specs.Int.{w64}
use Rattle.rand_pcg.specs.Lcg.{Lcg}
use Rattle.tap_base.specs.Lists.{Each}
use Rattle.abstract_run.specs.declared.label.Label.TheVariants as label
use Rattle.abstract_run.specs.CellCount.{cells_taken}
use Rattle.abstract_run.specs.declared.state.StepFault.{StepFault}
use Rattle.abstract_run.specs.inner.ByChoices.{Acts}
use Rattle.drawn_choices.specs.declared.drawing.Drawing.{Drawing}
use Rattle.drawn_choices.specs.Drawing.{drawing_from}
use Rattle.world_run.specs.inner.Serving.{said_by}
use Rattle.world_run.proofs.DrawnActs.{can_draw, did_act, does, drew, drew_keeps, never_refused}
use Rattle.world_run.proofs.OneLabel.{taken_there}
use Rattle.world_run.proofs.Turns.{on_ok}
use Rattle.world_run.proofs.acts.act.Goals as goal

-- a drawing that has taken nothing
fresh : (g : Lcg) (taken : List ℤ) → taken ≡ [] → ◌≡◌ {A = Drawing} (record { generator = g; taken = taken }) (drawing_from g)
fresh g taken none = ap (λ (ts : List ℤ). let d : Drawing = record { generator = g; taken = ts } in d) none

pub cells_behind-course-requires-clause-sends : goal.cells_behind-course-requires-clause-sends
cells_behind-course-requires-clause-sends c =
    let system = c.args.given.now.system.now in
    let old = c.args.course.now in
    let x = can_draw system old c.args.process c.args.action c.take-generator.result c.requires.runnable c.requires.steady c.requires.room c.requires.live c.requires.enabled in
    let d = drew system old.state c.args.process c.args.action c.take-generator.result _ c.act_by.new.state c.in-Ok.field-0.sends c.in-Ok.field-0.choices x (fresh c.take-generator.result c.new-taken.result c.new-taken.ensures) c.in-Ok.ensures in
    let kept = drew_keeps system old.state c.args.process c.args.action c.take-generator.result c.act_by.new.state c.in-Ok.field-0.sends c.in-Ok.field-0.choices c.requires.runnable c.requires.steady.whole.fits d in
    let few = kept.sent.0 in
    omega (arith, few, c.len.ensures)

pub cells_behind-course-requires-clause-taken : goal.cells_behind-course-requires-clause-taken
cells_behind-course-requires-clause-taken c =
    let system = c.args.given.now.system.now in
    let old = c.args.course.now in
    let l = label.Act c.args.process c.args.action c.in-Ok.field-0.choices.taken in
    let x = can_draw system old c.args.process c.args.action c.take-generator.result c.requires.runnable c.requires.steady c.requires.room c.requires.live c.requires.enabled in
    let d = drew system old.state c.args.process c.args.action c.take-generator.result _ c.act_by.new.state c.in-Ok.field-0.sends c.in-Ok.field-0.choices x (fresh c.take-generator.result c.new-taken.result c.new-taken.ensures) c.in-Ok.ensures in
    let kept = drew_keeps system old.state c.args.process c.args.action c.take-generator.result c.act_by.new.state c.in-Ok.field-0.sends c.in-Ok.field-0.choices c.requires.runnable c.requires.steady.whole.fits d in
    subst (λ n. cells_taken (said_by c.args.given.now) l ≤ old.cells + (0 + n)) (sym c.len.ensures)
    (taken_there (said_by c.args.given.now) l old.state c.act_by.new.state c.in-Ok.field-0.sends old.cells kept.cells c.requires.steady.whole.cells)

pub unreachable-requires : goal.unreachable-requires
unreachable-requires c =
    let system = c.args.given.now.system.now in
    let old = c.args.course.now in
    let x = can_draw system old c.args.process c.args.action c.take-generator.result c.requires.runnable c.requires.steady c.requires.room c.requires.live c.requires.enabled in
    let from : Drawing = record { generator = c.take-generator.result; taken = c.new-taken.result } in
    let refused = subst (λ (why : StepFault). Acts (does system old.state c.args.process c.args.action from) old.state (Err why) c.act_by.new.state) c.in-Err-NotEnabled.field-0-is c.in-Err-NotEnabled.ensures in
    never_refused system old.state c.args.process c.args.action c.take-generator.result from x (fresh c.take-generator.result c.new-taken.result c.new-taken.ensures) refused.0

pub returns-in-Ok-clause-acted : goal.returns-in-Ok-clause-acted
returns-in-Ok-clause-acted c =
    let system = c.args.given.now.system.now in
    let old = c.args.course.now in
    let l = label.Act c.args.process c.args.action c.in-Ok.field-0.choices.taken in
    let x = can_draw system old c.args.process c.args.action c.take-generator.result c.requires.runnable c.requires.steady c.requires.room c.requires.live c.requires.enabled in
    let d = drew system old.state c.args.process c.args.action c.take-generator.result _ c.act_by.new.state c.in-Ok.field-0.sends c.in-Ok.field-0.choices x (fresh c.take-generator.result c.new-taken.result c.new-taken.ensures) c.in-Ok.ensures in
    let new = record old { state = c.act_by.new.state; generators = c.set.new.self; cells = c.cells_behind-course.result } in
    on_ok c.keep.result
    (λ w. did_act system old new c.args.process c.args.action c.take-generator.result c.take-generator.new.generators c.in-Ok.field-0.sends c.in-Ok.field-0.choices c.args.deeds.now c.keep.new.self
    c.requires.runnable c.requires.steady.whole d c.take-generator.ensures c.set.ensures (c.cells_behind-course.ensures ∙ ap (λ n. old.cells + (0 + n)) c.len.ensures)
    w (subst (λ (cs : List ℤ). Each (FitsSigned w64) cs) c.as_slice.ensures c.read.ensures)) c.keep.ensures
