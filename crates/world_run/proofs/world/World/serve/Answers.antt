use Rattle.std.proofs.Common.{subst}
use Rattle.tap_base.specs.declared.system.System.{System}
use Rattle.tap_exec.specs.Semantics.{semantics_of}
use Rattle.world_run.specs.inner.Writing.{Wrote, labels_text}
use Rattle.world_run.proofs.Trace.{served_by}
use Rattle.world_run.proofs.world.World.serve.Goals as goal

pub returns-in-Ok-clause-answers : goal.returns-in-Ok-clause-answers
returns-in-Ok-clause-answers c =
    let world = c.event.new.self in
    let before = c.args.page.now.items in
    let after = c.append_last.new.page.items in
    let took = c.in_ok-event.ensures.answers in
    let wrote = subst (λ (s : System). Wrote (labels_text (semantics_of s) world.last.sent world.last.labels) before after) c.in_ok-event.ensures.system c.in-Ok.ensures.lines in
    (took.0, served_by (semantics_of c.args.self.now.system) c.args.event.now c.args.self.now.course world.course world.last before after took.1 wrote, took.2)
