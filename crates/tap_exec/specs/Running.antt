-- A body that runs with a list of choices.
use Rattle.std.specs.Prelude.{ℤ, List}
use Rattle.tap_exec.specs.declared.running.Running as declared

abbrev pub Running : Type 0
Running = declared.Running (List ℤ)
