-- The command `print`: the canonical text of a system.
use Rattle.std.specs.Prelude.{◌≡◌, ℕ, List, IfSome, Option}
use Rattle.tap_base.specs.declared.ast.Ast.{Ast}
use Rattle.tap_front.specs.Accepting.{IsReadAs}
use Rattle.tap_front.specs.Offences.{IsMisspelling}
use Rattle.tap_printer.specs.Canonical.{canonical}
use Rattle.tapc_core.specs.Command.{Command}
use Rattle.tapc_core.specs.Lines.{no_memory_line, read_fault_line}
use Rattle.tapc_core.specs.commands.Text.{HasOffence, HasTree, IsOfText, IsRefusal, leaves_refused, reads_text}
use Rattle.tapc_core.specs.declared.status.Status.{Status}
use Rattle.tapc_core.specs.declared.status.Status.TheVariants.{Done, Refused, ReadFault, NoMemory}

-- The canonical text of the tree that a text is read as, where the text is told.
pub record IsPrinted (text : Option (List ℕ)) (bytes : List ℕ) : Type 0 where
  pub tree : Ast
  pub read : IfSome text (λ t. IsReadAs t tree)
  pub is : bytes ≡ canonical tree

abbrev pub OfPrint : Option (List ℕ) → Status → List ℕ → Type 0
OfPrint text Done bytes = IsPrinted text bytes
OfPrint text Refused bytes = IsRefusal IsMisspelling text bytes
OfPrint text ReadFault bytes = bytes ≡ read_fault_line
OfPrint text NoMemory bytes = bytes ≡ no_memory_line
OfPrint text _ bytes = ⊥

-- it asks only for a tree
pub data PrintIsSure (text : Option (List ℕ)) : Status → Type 0 where
  prints : HasTree text → PrintIsSure text Done
  refuses : HasOffence IsMisspelling text → PrintIsSure text Refused

abbrev pub print_command : List ℕ → Command
print_command system = record {
  answers = IsOfText;
  reads = reads_text system;
  writes = λ contents. OfPrint (contents system);
  is_sure = λ contents. PrintIsSure (contents system);
  leaves = λ contents. leaves_refused (contents system);
}
