use Rattle.std.proofs.Common.{◌≡◌}
use Rattle.world_run.specs.declared.fault.WorldFault.TheVariants as world_fault
use Rattle.tapc_core.proofs.Soaked.{soak_full, soak_text}
use Rattle.tapc_core.proofs.soaking.soak_opened.Goals as goal

pub returns-in_ok-ended_text-in-Ok-clause-text : goal.returns-in_ok-ended_text-in-Ok-clause-text
returns-in_ok-ended_text-in-Ok-clause-text c = λ inputs begins. soak_text c.requires.seed begins c.in-Ok.ensures.soaks c.soak.ensures.system c.in_ok-ended_text-in-Ok.ensures

pub returns-in-Err-clause-full : goal.returns-in-Err-clause-full
returns-in-Err-clause-full c = λ cells inputs begins e. let is : c.in-Err.fault ≡ world_fault.Full cells = cc in soak_full _ c.in-Err.fault c.requires.seed begins c.in-Err.ensures.soaks is
