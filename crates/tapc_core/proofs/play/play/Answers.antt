use Rattle.std.proofs.Common.{ap, subst, sym, ◌∙◌}
use Rattle.abstract_run.specs.Opening.{opening_state}
use Rattle.tap_exec.specs.Semantics.{semantics_of}
use Rattle.tapc_core.specs.commands.World.{OfWorld}
use Rattle.tapc_core.specs.inner.Playing.{AreOf}
use Rattle.tapc_core.proofs.Outputs.{closes_alone, refused_memory}
use Rattle.tapc_core.proofs.play.play.Goals as goal

pub returns-in-Ok-new-clause-writes : goal.returns-in-Ok-new-clause-writes
returns-in-Ok-new-clause-writes g c = λ task of.
    let world = c.in-Ok-new.world in
    let same = c.in-Ok-new.ensures.system in
    let begins = c.in-Ok-new.ensures.opening ∙ ap (λ s. opening_state (semantics_of s) c.args.inputs.now) (sym same) in
    c.play_world.ensures.writes task c.args.inputs.now begins
    (subst (λ n. AreOf n world.system c.args.inputs.now c.args.schedule.now task) (sym c.in-Ok-new.ensures.seed) (subst (λ s. AreOf c.args.seed s c.args.inputs.now c.args.schedule.now task) (sym same) of))

pub returns-in_default-clause-writes : goal.returns-in_default-clause-writes
returns-in_default-clause-writes g c = λ task of. closes_alone (OfWorld task) (refused_memory task) c.close.ensures.closes

pub returns-clause-writes : goal.returns-clause-writes
returns-clause-writes g c = λ task of. closes_alone (OfWorld task) (refused_memory task) c.close-in-Err.ensures.closes
