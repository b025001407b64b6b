-- What the definitions of texts promise by themselves.
use Rattle.std.specs.Prelude.{◌≡◌, ℕ, ◌≤◌, List, length, codes}
use Rattle.exact_choice.specs.Runnable.{IsRunnable}
use Rattle.byte_meaning.specs.Messages.{Receives}
use Rattle.abstract_run.specs.Safe.{IsSafe}
use Rattle.tap_exec.specs.Semantics.{messages_of, semantics_of}
use Rattle.byte_meaning.specs.Laws.{SpellingsMean}
use Rattle.tap_base.specs.declared.ast.Ast.{Ast}
use Rattle.tap_base.specs.declared.refusal.Refusal.{Refusal}
use Rattle.tap_base.specs.declared.system.System.{System}
use Rattle.tap_printer.specs.Canonical.{canonical}
use Rattle.tap_printer.specs.PlacesAside.{SameTree}
use Rattle.tap_base.specs.Resolved.{IsResolved}
use Rattle.width_check.specs.IsChecked.{IsChecked}
use Rattle.tap_front.specs.Accepting.{Accepted, IsReadAs, ResolvesTo, TellsApart, VarsTellApart, longest_text}
use Rattle.tap_front.specs.Lines.{offence_code}
use Rattle.tap_front.specs.Offences.{Misspells, Offends}
use Rattle.tap_front.specs.declared.offence.Offence.{Offence}

-- A text that is read as a tree has no offence that keeps it from that; one that is accepted has none.
abbrev pub NeverRefused : Type 0
NeverRefused =
    ((text : List ℕ) (tree : Ast) (r : Refusal) → IsReadAs text tree → Misspells text r → ⊥)
    × ((text : List ℕ) (system : System) (o : Offence) → Accepted text system → Offends text o → ⊥)

-- First offences of one text have one code, and but for S1 they are one.
abbrev pub OneOffence : Type 0
OneOffence = (text : List ℕ) (o p : Offence) → Offends text o → Offends text p
    → (offence_code o ≡ offence_code p) × ((offence_code o ≡ codes "S1" → ⊥) → o ≡ p)

-- A text is read as at most one tree.
abbrev pub OneTreeOfText : Type 0
OneTreeOfText = (text : List ℕ) (c d : Ast) → IsReadAs text c → IsReadAs text d → c ≡ d

-- The canonical text of a text, where it is no longer than a text may be, is read as the same tree, places aside, and as no
-- other; and its canonical text is itself.
abbrev pub PrintedAgain : Type 0
PrintedAgain = (text : List ℕ) (tree : Ast) → IsReadAs text tree → length (canonical tree) ≤ longest_text
    → ((d : Ast) × IsReadAs (canonical tree) d × (canonical d ≡ canonical tree)) × ((d : Ast) → IsReadAs (canonical tree) d → SameTree d tree)

-- In a system that a text is accepted as, the names of processes tell them apart.
abbrev pub NamesTellApart : Type 0
NamesTellApart = (text : List ℕ) (system : System) → Accepted text system → TellsApart system

-- And the names of the variables of each process tell these apart.
abbrev pub VarNamesTellApart : Type 0
VarNamesTellApart = (text : List ℕ) (system : System) → Accepted text system → VarsTellApart system

-- A system that a text is accepted as is checked: it is resolved, and has no offence of widths, costs and sends.
abbrev pub AcceptedIsChecked : Type 0
AcceptedIsChecked = (text : List ℕ) (system : System) → Accepted text system → IsChecked system

-- A system that a text is accepted as is safe: it begins within its ranges, its bodies keep them, and 64-bit numbers
-- compute it.
abbrev pub AcceptedIsSafe : Type 0
AcceptedIsSafe = (text : List ℕ) (system : System) → Accepted text system → IsSafe system

-- A system that a text is accepted as can be run.
abbrev pub AcceptedRuns : Type 0
AcceptedRuns = (text : List ℕ) (system : System) → Accepted text system → IsRunnable system

-- In a system that a text is accepted as, the spelling of a message that is received means this message with its values, and
-- nothing else.
abbrev pub AcceptedSpellingsMean : Type 0
AcceptedSpellingsMean = (text : List ℕ) (system : System) → Accepted text system → SpellingsMean (messages_of system) (Receives (semantics_of system))

-- A text is accepted as at most one system.
abbrev pub OneSystemOfText : Type 0
OneSystemOfText = (text : List ℕ) (a b : System) → Accepted text a → Accepted text b → a ≡ b

-- What the tree of a text resolves to is a resolved system.
abbrev pub ResolvedIsWhole : Type 0
ResolvedIsWhole = (text : List ℕ) (tree : Ast) (system : System) → IsReadAs text tree → ResolvesTo tree system → IsResolved system
