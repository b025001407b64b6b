-- The command `check`: whether the text of a system is accepted.
use Rattle.std.specs.Prelude.{◌≡◌, ℕ, List, IfSome, Option}
use Rattle.tap_base.specs.declared.system.System.{System}
use Rattle.tap_front.specs.Acceptance.{acceptance}
use Rattle.tap_front.specs.Accepting.{Accepted}
use Rattle.tap_front.specs.Offences.{Offends}
use Rattle.tapc_core.specs.Command.{Command}
use Rattle.tapc_core.specs.Lines.{no_memory_line, read_fault_line}
use Rattle.tapc_core.specs.commands.Text.{HasOffence, HasSystem, IsOfText, IsRefusal, leaves_refused, reads_text}
use Rattle.tapc_core.specs.declared.status.Status.{Status}
use Rattle.tapc_core.specs.declared.status.Status.TheVariants.{Done, Refused, ReadFault, NoMemory}

-- What is written of a text that is accepted, where the text is told.
pub record IsAcceptance (text : Option (List ℕ)) (bytes : List ℕ) : Type 0 where
  pub system : System
  pub accepted : IfSome text (λ t. Accepted t system)
  pub is : bytes ≡ acceptance system

abbrev pub OfCheck : Option (List ℕ) → Status → List ℕ → Type 0
OfCheck text Done bytes = IsAcceptance text bytes
OfCheck text Refused bytes = IsRefusal Offends text bytes
OfCheck text ReadFault bytes = bytes ≡ read_fault_line
OfCheck text NoMemory bytes = bytes ≡ no_memory_line
OfCheck text _ bytes = ⊥

pub data CheckIsSure (text : Option (List ℕ)) : Status → Type 0 where
  accepts : HasSystem Accepted text → CheckIsSure text Done
  refuses : HasOffence Offends text → CheckIsSure text Refused

abbrev pub check_command : List ℕ → Command
check_command system = record {
  answers = IsOfText;
  reads = reads_text system;
  writes = λ contents. OfCheck (contents system);
  is_sure = λ contents. CheckIsSure (contents system);
  leaves = λ contents. leaves_refused (contents system);
}
