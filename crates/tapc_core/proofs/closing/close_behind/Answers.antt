use Rattle.tapc_core.specs.inner.Closing.{failed, put}
use Rattle.tapc_core.proofs.closing.close_behind.Goals as goal

pub returns-in-Ok-clause-closes : goal.returns-in-Ok-clause-closes
returns-in-Ok-clause-closes g c = put c.in-Ok.ensures.appends

pub returns-in-Err-clause-closes : goal.returns-in-Err-clause-closes
returns-in-Err-clause-closes g c = let h = c.in-Err.ensures.appends in failed h.0 h.1 h.2 h.3
