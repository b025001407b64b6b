use Rattle.std.proofs.Common.{ℕ, List, subst, sym}
use Rattle.byte_meaning.specs.Reading.{meaning}
use Rattle.abstract_run.specs.declared.label.Label.{Label}
use Rattle.abstract_run.specs.inner.ComputedSemantics.{computed_semantics}
use Rattle.abstract_run.specs.Channels.{appended}
use Rattle.abstract_run.specs.Step.{Steps, channel_changed, settled_step, silent}
use Rattle.abstract_run.proofs.steps.settled_step.Goals as goal

pub returns-in-Forge : goal.returns-in-Forge
returns-in-Forge c =
    let m = computed_semantics c.args.system.now in
    let s = c.args.state.now in
    let q = c.in-Forge.from in
    let p = c.in-Forge.to in
    subst (λ (l : Label). Steps (settled_step m s l) s c.forge_step.result c.forge_step.new.state) (sym c.in-Forge.is)
    (subst (λ (bytes : List ℕ). Steps (silent (channel_changed (appended (meaning m q p bytes)) s q p)) s c.forge_step.result c.forge_step.new.state) c.as_slice-in-Forge.ensures c.forge_step.ensures)
