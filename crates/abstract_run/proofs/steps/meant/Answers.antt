use Rattle.abstract_run.specs.inner.ComputedSemantics.{computed_semantics}
use Rattle.tap_exec.specs.Semantics.{semantics_of}
use Rattle.abstract_run.proofs.Outcome.{meant_same}
use Rattle.abstract_run.proofs.steps.meant.Goals as goal

pub returns : goal.returns
returns c =
    meant_same (computed_semantics c.args.system.now) (semantics_of c.args.system.now) c.args.from c.args.to c.args.bytes.now c.meaning.result c.requires.safe.computed c.meaning.ensures.exact
