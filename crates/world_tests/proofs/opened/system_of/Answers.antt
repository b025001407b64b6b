use Rattle.std.proofs.Common.{subst, sym}
use Rattle.tap_base.specs.Resolved.{IsResolved}
use Rattle.tap_base.specs.Wires.{wire_of}
use Rattle.tap_exec.specs.Semantics.{semantics_of}
use Rattle.exact_choice.specs.Runnable.{IsRunnable}
use Rattle.run_text.specs.Names.{AreNames}
use Rattle.run_text.specs.TraceText.{names_in}
use Rattle.tap_front.proofs.Runs.{accepted_is_checked, accepted_runs}
use Rattle.world_run.specs.Layouts.{HasLayout}
use Rattle.world_tests.proofs.Accepted.{has_layout, names_apart}
use Rattle.world_tests.proofs.opened.system_of.Goals as goal

pub returns-in-Ok-clause-runnable : goal.returns-in-Ok-clause-runnable
returns-in-Ok-clause-runnable c = subst IsRunnable (sym c.into_system.ensures.system) (accepted_runs _ _ c.in-Ok.ensures.reads)

pub returns-in-Ok-clause-resolved : goal.returns-in-Ok-clause-resolved
returns-in-Ok-clause-resolved c = subst IsResolved (sym c.into_system.ensures.system) (accepted_is_checked _ _ c.in-Ok.ensures.reads).resolved

pub returns-in-Ok-clause-wire : goal.returns-in-Ok-clause-wire
returns-in-Ok-clause-wire c = subst (λ s. HasLayout (wire_of s)) (sym c.into_system.ensures.system) (has_layout _ _ c.in-Ok.ensures.reads)

pub returns-in-Ok-clause-names : goal.returns-in-Ok-clause-names
returns-in-Ok-clause-names c = subst (λ s. AreNames (names_in (semantics_of s))) (sym c.into_system.ensures.system) (names_apart _ _ c.in-Ok.ensures.reads)
