-- The first offence of a text, and what reading a text answers.
use Rattle.std.specs.Prelude.{◌≡◌, ℕ, ◌<◌, ◌≤◌, List, [], length, Some, Ok, Err, Result}
use Rattle.tap_base.specs.declared.ast.Ast.{Ast}
use Rattle.tap_base.specs.declared.refusal.Refusal.{Refusal}
use Rattle.tap_base.specs.declared.refusal.RefusalCode.TheVariants as code
use Rattle.tap_base.specs.declared.system.System.{System}
use Rattle.tap_base.specs.declared.token.Token.{Token}
use Rattle.tap_lexer.specs.Bytes.{start}
use Rattle.tap_expr.specs.ExprText.{refusal}
use Rattle.tap_parser.specs.Systems.{TextOffence}
use Rattle.tap_lexer.specs.Tokens.{LexesTo, SpellsTokens}
use Rattle.tap_base.specs.ListWords.{first}
use Rattle.tap_types.specs.Offences.{offences_of}
use Rattle.width_check.specs.Offences.{offences}
use Rattle.tap_front.specs.Layouts.{Mislays}
use Rattle.tap_expr.specs.declared.fault.ParseFault.{ParseFault}
use Rattle.tap_expr.specs.declared.fault.ParseFault.TheVariants as unread
use Rattle.tap_front.specs.Accepting.{Accepted, IsReadAs, ResolvesTo, longest_text}
use Rattle.tap_front.specs.declared.offence.Offence.{Offence}
use Rattle.tap_front.specs.declared.offence.Offence.TheVariants.{Alike, Coded}
use Rattle.tap_front.specs.declared.texts.TextFault.{TextFault}
use Rattle.tap_front.specs.declared.texts.TextFault.TheVariants as fault

-- The first offence that keeps a text from being read as a tree: that it is too long, which stands at 1:1; else the first
-- of its tokens, as bytes; else the first of these as a tree.
pub data Misspells (text : List ℕ) : Refusal → Type 0 where
  too_long : longest_text < length text → Misspells text (refusal code.L0 start)
  unlexed : {r : Refusal} → length text ≤ longest_text → LexesTo text (Err r) → Misspells text r
  unparsed : {r : Refusal} {tokens : List Token} → length text ≤ longest_text → SpellsTokens text tokens → TextOffence text tokens r → Misspells text r

-- The first offence of a tree: the first of names, kinds and limits; else, of the system that it resolves to, the first of
-- widths, costs and sends; else the first of its messages as they are laid out.
pub data Misnames (tree : Ast) : Offence → Type 0 where
  unnamed : {r : Refusal} → first (offences_of tree) ≡ Some r → Misnames tree (Coded r)
  misfit : {r : Refusal} {system : System} → ResolvesTo tree system → first (offences system) ≡ Some r → Misnames tree (Coded r)
  mislaid : {o : Offence} {system : System} → ResolvesTo tree system → offences system ≡ [] → Mislays system o → Misnames tree o

-- The first offence of a text: the one that keeps it from being read as a tree; else that of the tree that it is read as.
pub data Offends (text : List ℕ) : Offence → Type 0 where
  misspelled : {r : Refusal} → Misspells text r → Offends text (Coded r)
  misnamed : {tree : Ast} {o : Offence} → IsReadAs text tree → Misnames tree o → Offends text o

-- an offence that keeps a text from being read as a tree
abbrev pub IsMisspelling : List ℕ → Offence → Type 0
IsMisspelling text (Coded r) = Misspells text r
IsMisspelling text (Alike place first second) = ⊥

-- what reading a text answers: the tree that it is read as, or its first offence;
abbrev pub TreeReads : List ℕ → Result Ast ParseFault → Type 0
TreeReads text (Ok tree) = IsReadAs text tree
TreeReads text (Err (unread.Refused r)) = Misspells text r
TreeReads text (Err unread.NoMemory) = Unit {0}

-- the system that it is accepted as, or its first offence
abbrev pub TextReads : List ℕ → Result System TextFault → Type 0
TextReads text (Ok system) = Accepted text system
TextReads text (Err (fault.Refused offence)) = Offends text offence
TextReads text (Err fault.NoMemory) = Unit {0}
