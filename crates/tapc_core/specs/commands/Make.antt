-- The command `make`: the text of a generated schedule.
use Rattle.std.specs.Prelude.{◌≡◌, ◌⊎◌, ℕ, List, [], ◌++◌, IfSome, Option}
use Rattle.tap_base.specs.declared.system.System.{System}
use Rattle.tap_front.specs.Accepting.{Accepted}
use Rattle.tap_front.specs.Offences.{Offends}
use Rattle.schedule_gen.specs.Listed.{made_text}
use Rattle.tapc_core.specs.Command.{Command}
use Rattle.tapc_core.specs.Lines.{no_memory_line, read_fault_line}
use Rattle.tapc_core.specs.commands.Text.{HasOffence, HasSystem, IsOfText, IsRefusal, leaves_refused, reads_text}
use Rattle.tapc_core.specs.declared.status.Status.{Status}
use Rattle.tapc_core.specs.declared.status.Status.TheVariants.{Done, Refused, ReadFault, NoMemory}

-- what is made: the contents of the file, where they are told, the seed, how many events, and how many of them may be faults
pub record Order : Type 0 where
  pub text : Option (List ℕ)
  pub seed : ℕ
  pub events : ℕ
  pub faults : ℕ

-- The text of the generated schedule of the system that the text is accepted as.
pub record IsMade (order : Order) (bytes : List ℕ) : Type 0 where
  pub system : System
  pub accepted : IfSome order.text (λ t. Accepted t system)
  pub is : bytes ≡ made_text system order.seed order.events order.faults

-- Nothing, or a front of that text, and that memory was refused.
pub record IsHalfMade (order : Order) (bytes : List ℕ) : Type 0 where
  pub front : List ℕ
  pub rest : List ℕ
  pub shown : (front ≡ []) ⊎ IsMade order (front ++ rest)
  pub is : bytes ≡ front ++ no_memory_line

abbrev pub OfMake : Order → Status → List ℕ → Type 0
OfMake order Done bytes = IsMade order bytes
OfMake order Refused bytes = IsRefusal Offends order.text bytes
OfMake order ReadFault bytes = bytes ≡ read_fault_line
OfMake order NoMemory bytes = IsHalfMade order bytes
OfMake order _ bytes = ⊥

pub data MakeIsSure (text : Option (List ℕ)) : Status → Type 0 where
  makes : HasSystem Accepted text → MakeIsSure text Done
  refuses : HasOffence Offends text → MakeIsSure text Refused

abbrev pub make_command : List ℕ → ℕ → ℕ → ℕ → Command
make_command system seed events faults = record {
  answers = IsOfText;
  reads = reads_text system;
  writes = λ contents. OfMake (record { text = contents system; seed = seed; events = events; faults = faults });
  is_sure = λ contents. MakeIsSure (contents system);
  leaves = λ contents. leaves_refused (contents system);
}
