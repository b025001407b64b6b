use Rattle.std.proofs.Common.{List, ℕ, Err, ap, refl, subst}
use Rattle.tapc_core.specs.inner.Closing.{Closes}
use Rattle.tapc_core.specs.inner.Soaking.{IsSoaking, OfRun}
use Rattle.tapc_core.specs.declared.status.Status.TheVariants.{Done}
use Rattle.tapc_core.proofs.Outputs.{closes_alone, closes_answered, closes_or}
use Rattle.tapc_core.proofs.soaking.soak_system.Goals as goal

pub returns-in-Ok-clause-closes : goal.returns-in-Ok-clause-closes
returns-in-Ok-clause-closes g c =
    closes_alone (OfRun c.args.asked.seed c.args.asked.faults c.args.asked.events c.args.start.system c.args.start.inputs) c.in-Ok.ensures.text
    (subst (λ (b : List ℕ). Closes Done b (g.O.Sink.written c.args.out.now) (g.O.Sink.written c.close.new.out) c.close.result) c.as_bytes.ensures.value c.close.ensures.closes)

pub returns-in-Ok-clause-answer : goal.returns-in-Ok-clause-answer
returns-in-Ok-clause-answer g c = closes_answered IsSoaking tt tt c.close.ensures.closes

pub returns-in-Err-Full-clause-closes : goal.returns-in-Err-Full-clause-closes
returns-in-Err-Full-clause-closes g c =
    closes_or (OfRun c.args.asked.seed c.args.asked.faults c.args.asked.events c.args.start.system c.args.start.inputs) (c.in-Err-Full.cells, c.in-Err-Full.ensures.full c.in-Err-Full.cells (ap Err c.in-Err-Full.field-0-is), refl) refl c.close_full.ensures.closes

pub returns-in-Err-NoMemory-clause-closes : goal.returns-in-Err-NoMemory-clause-closes
returns-in-Err-NoMemory-clause-closes g c = closes_alone (OfRun c.args.asked.seed c.args.asked.faults c.args.asked.events c.args.start.system c.args.start.inputs) refl c.close-in-Err-NoMemory.ensures.closes
