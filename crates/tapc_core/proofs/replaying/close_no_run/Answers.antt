use Rattle.std.proofs.Common.{List, ℕ, inl, subst, ◌∙◌}
use Rattle.tapc_core.specs.inner.Closing.{Closes}
use Rattle.tapc_core.specs.declared.status.Status.TheVariants.{NotARun}
use Rattle.tapc_core.proofs.replaying.close_no_run.Goals as goal

pub returns-in-Ok-clause-closes : goal.returns-in-Ok-clause-closes
returns-in-Ok-clause-closes g c =
    inl (subst (λ (b : List ℕ). Closes NotARun b (g.O.Sink.written c.args.out.now) (g.O.Sink.written c.close.new.out) c.close.result) (c.as_bytes.ensures.value ∙ c.in-Ok.ensures) c.close.ensures.closes)
