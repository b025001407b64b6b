-- What commands say of the text of a system.
use Rattle.std.specs.Prelude.{◌≡◌, ℕ, ⊤, List, [], ◌∷◌, IfSome, Option, Some}
use Rattle.tap_base.specs.declared.ast.Ast.{Ast}
use Rattle.tap_base.specs.declared.system.System.{System}
use Rattle.tap_front.specs.Accepting.{IsReadAs}
use Rattle.tap_front.specs.Lines.{refused_line}
use Rattle.tap_front.specs.declared.offence.Offence.{Offence}
use Rattle.tapc_core.specs.Reading.{LeavesText}
use Rattle.tapc_core.specs.declared.status.Status.{Status}
use Rattle.tapc_core.specs.declared.status.Status.TheVariants.{Done, Refused, ReadFault, WriteFault, NoMemory}

-- ---- what a text has, where it is told

-- it is taken as a system, in the way that a command asks for
pub record HasSystem (Takes : List ℕ → System → Type 0) (told : Option (List ℕ)) : Type 0 where
  pub text : List ℕ
  pub text_is : told ≡ Some text
  pub system : System
  pub taken : Takes text system

-- it is read as a tree
pub record HasTree (told : Option (List ℕ)) : Type 0 where
  pub text : List ℕ
  pub text_is : told ≡ Some text
  pub tree : Ast
  pub read : IsReadAs text tree

-- it has an offence, among those that a command looks for
pub record HasOffence (First : List ℕ → Offence → Type 0) (told : Option (List ℕ)) : Type 0 where
  pub text : List ℕ
  pub text_is : told ≡ Some text
  pub offence : Offence
  pub first : First text offence

-- ---- what is written of it

-- The line of its first offence, among those that a command looks for, where the text is told.
pub record IsRefusal (First : List ℕ → Offence → Type 0) (text : Option (List ℕ)) (bytes : List ℕ) : Type 0 where
  pub offence : Offence
  pub first : IfSome text (λ t. First t offence)
  pub is : bytes ≡ refused_line offence

-- ---- commands on a text alone

-- the answers of a command that reads a text and no other file
abbrev pub IsOfText : Status → Type 0
IsOfText Done = ⊤
IsOfText Refused = ⊤
IsOfText ReadFault = ⊤
IsOfText WriteFault = ⊤
IsOfText NoMemory = ⊤
IsOfText _ = ⊥

-- it has read the text where it is done, or refuses it
abbrev pub reads_text : List ℕ → Status → List (List ℕ)
reads_text system Done = system ∷ []
reads_text system Refused = system ∷ []
reads_text system _ = []

-- where a text is refused, it was read and no other file was begun
abbrev pub leaves_refused : Option (List ℕ) → Status → Option (List ℕ) → Type 0
leaves_refused text Refused left = LeavesText text left
leaves_refused text _ left = ⊤
