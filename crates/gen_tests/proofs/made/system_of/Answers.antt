use Rattle.std.proofs.Common.{◌<◌, ◌^◌, length, arith, sym, subst}
use Rattle.gen_tests.proofs.made.system_of.Goals as goal

pub returns-in-Ok-clause-some : goal.returns-in-Ok-clause-some
returns-in-Ok-clause-some c =
    let some = c.in-Ok.ensures.checked.resolved.some_process in
    subst (λ s. 0 < length s.processes) (sym c.into_system.ensures.system) (omega (arith, some))

pub returns-in-Ok-clause-few : goal.returns-in-Ok-clause-few
returns-in-Ok-clause-few c =
    let few = c.in-Ok.ensures.checked.resolved.few_processes in
    subst (λ s. length s.processes < 2 ^ 32) (sym c.into_system.ensures.system) (omega (arith, few))
