use Rattle.std.proofs.Common.{arith, map}
use Rattle.std.proofs.lemmas.Grind.{common_steps}
use Rattle.std.proofs.lemmas.Simd.{map-map}
use Rattle.tap_exec.specs.Semantics.{messages_of, process_semantics}
use Rattle.run_text.specs.TraceText.{var_name}
use Rattle.run_text.proofs.names.names_of.Goals as goal

pub returns-clause-processes : goal.returns-clause-processes
returns-clause-processes c =
    let whole = map-map (λ p. p.name) (process_semantics (messages_of c.args.system.now)) c.args.system.now.processes in rw whole (grind (arith, common_steps))

pub returns-clause-vars : goal.returns-clause-vars
returns-clause-vars c =
    let whole = map-map (λ p. map var_name p.vars) (process_semantics (messages_of c.args.system.now)) c.args.system.now.processes in rw whole (grind (arith, common_steps))
