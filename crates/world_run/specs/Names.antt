-- Which names stand in the lines of a run.
use Rattle.std.specs.Prelude.{◌≡◌}
use Rattle.tap_exec.specs.Semantics.{Semantics}
use Rattle.run_text.specs.TraceText.{names_in, vars_in}
use Rattle.run_text.specs.declared.names.Names.{Names}

-- They are the names of its processes and variables.
pub record AreNamesOf (semantics : Semantics) (names : Names) : Type 0 where
  pub processes : names.processes ≡ names_in semantics
  pub vars : names.vars ≡ vars_in semantics
