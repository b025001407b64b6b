-- Words that are no command: the usage line.
use Rattle.std.specs.Prelude.{◌≡◌, ◌⊎◌, ⊤, ℕ, List, []}
use Rattle.tapc_core.specs.Command.{Command}
use Rattle.tapc_core.specs.Words.{usage_line}
use Rattle.tapc_core.specs.declared.status.Status.{Status}
use Rattle.tapc_core.specs.declared.status.Status.TheVariants.{Usage, WriteFault}

abbrev pub OfNone : Status → List ℕ → Type 0
OfNone Usage bytes = bytes ≡ usage_line
OfNone _ bytes = ⊥

pub data NoneIsSure : Status → Type 0 where
  usage : NoneIsSure Usage

abbrev pub no_command : Command
no_command = record {
  answers = λ status. (status ≡ Usage) ⊎ (status ≡ WriteFault);
  reads = λ status. [];
  writes = λ contents. OfNone;
  is_sure = λ contents. NoneIsSure;
  leaves = λ contents status left. ⊤;
}
