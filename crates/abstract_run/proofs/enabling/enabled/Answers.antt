use Rattle.std.proofs.Common.{◌∙◌}
use Rattle.abstract_run.specs.inner.ComputedSemantics.{computed_semantics}
use Rattle.tap_exec.specs.Semantics.{semantics_of}
use Rattle.abstract_run.proofs.SameSteps.{same_enabled}
use Rattle.abstract_run.proofs.enabling.enabled.Goals as goal

pub returns : goal.returns
returns c =
    c.is_enabled.ensures
    ∙ same_enabled (computed_semantics c.args.system.now) (semantics_of c.args.system.now) c.args.state.now c.args.process c.args.action c.requires.computed c.requires.fits
