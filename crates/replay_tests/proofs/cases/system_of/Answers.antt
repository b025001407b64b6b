use Rattle.std.proofs.Common.{sym, subst}
use Rattle.tap_exec.specs.Semantics.{semantics_of}
use Rattle.abstract_run.specs.Safe.{IsSafe}
use Rattle.tap_front.proofs.Named.{names_tell_apart}
use Rattle.tap_front.proofs.Runs.{accepted_is_safe}
use Rattle.tap_front.proofs.VarNames.{var_names_tell_apart}
use Rattle.replay.specs.Grammar.{TellsNames}
use Rattle.replay.proofs.NamesOfSystems.{tells_names}
use Rattle.replay_tests.proofs.cases.system_of.Goals as goal

pub returns-in-Ok-clause-names : goal.returns-in-Ok-clause-names
returns-in-Ok-clause-names c =
    let system = c.in-Ok.checked in
    let accepted = c.in-Ok.ensures.reads in
    subst (λ s. TellsNames (semantics_of s)) (sym c.into_system.ensures.system)
    (tells_names system (names_tell_apart c.args.text.now system accepted) (var_names_tell_apart c.args.text.now system accepted))

pub returns-in-Ok-clause-safe : goal.returns-in-Ok-clause-safe
returns-in-Ok-clause-safe c = subst IsSafe (sym c.into_system.ensures.system) (accepted_is_safe c.args.text.now c.in-Ok.checked c.in-Ok.ensures.reads)
