-- Texts that are read as trees, and trees that resolve.
use Rattle.std.proofs.Common.{◌≡◌, ◌≤◌, ℕ, List, Result, Ok, Err, IsErrAnd, length, sym, subst}
use Rattle.tap_base.specs.declared.ast.Ast.{Ast}
use Rattle.tap_base.specs.declared.system.System.{System}
use Rattle.tap_base.specs.declared.token.Token.{Token}
use Rattle.tap_lexer.specs.Tokens.{SpellsTokens}
use Rattle.tap_expr.specs.declared.fault.ParseFault.{ParseFault}
use Rattle.tap_expr.specs.declared.fault.ParseFault.TheVariants as fault
use Rattle.tap_parser.specs.inner.Texts.{TextAnswers}
use Rattle.tap_names.specs.Refusals.{Faults}
use Rattle.tap_names.specs.declared.fault.TypeFault.{TypeFault}
use Rattle.tap_names.specs.declared.fault.TypeFault.TheVariants as names
use Rattle.tap_types.specs.Offences.{offences_of}
use Rattle.width_check.specs.declared.fault.WidthFault.{WidthFault}
use Rattle.width_check.specs.declared.fault.WidthFault.TheVariants as widths
use Rattle.tap_front.specs.Accepting.{IsReadAs, ResolvesTo, longest_text}
use Rattle.tap_front.specs.Layouts.{Mislays}
use Rattle.tap_front.specs.Offences.{TextReads, TreeReads, misfit, mislaid, misnamed, misspelled, unnamed, unparsed}
use Rattle.tap_front.specs.declared.texts.TextFault.{TextFault}
use Rattle.tap_front.specs.declared.texts.TextFault.TheVariants as fault_of_text
use Rattle.tap_front.specs.inner.Faults.{ChecksTo, LaysOut, unchecked, unread, unresolved}

-- the tree of a text is that of its tokens
pub reads_tokens : (text : List ℕ) (tokens : List Token) → length text ≤ longest_text → SpellsTokens text tokens → (r : Result Ast ParseFault) → TextAnswers text tokens r → TreeReads text r
reads_tokens text tokens sized lexed (Ok tree) h = record { sized = sized; tokens = tokens; lexed = lexed; parsed = h }
reads_tokens text tokens sized lexed (Err (fault.Refused r)) h = unparsed sized lexed h
reads_tokens text tokens sized lexed (Err fault.NoMemory) h = tt

unaccepted : (text : List ℕ) (e : ParseFault) → TreeReads text (Err e) → TextReads text (Err (unread e))
unaccepted text (fault.Refused r) h = misspelled h
unaccepted text fault.NoMemory h = tt

-- what is not read as a tree is not accepted
pub not_accepted : (text : List ℕ) (e : ParseFault) → TreeReads text (Err e) → (r : Result System TextFault) → IsErrAnd r (λ k. k ≡ unread e) → TextReads text r
not_accepted text e h (Ok system) q = absurd q
not_accepted text e h (Err k) q = subst (λ f. TextReads text (Err f)) (sym q) (unaccepted text e h)

unnamed_text : (text : List ℕ) (tree : Ast) (e : TypeFault) → IsReadAs text tree → Faults (offences_of tree) e → TextReads text (Err (unresolved e))
unnamed_text text tree (names.Refused r) read h = misnamed read (unnamed h)
unnamed_text text tree names.NoMemory read h = tt

-- what is read as a tree that does not resolve is not accepted
pub not_resolved : (text : List ℕ) (tree : Ast) (e : TypeFault) → IsReadAs text tree → Faults (offences_of tree) e → (r : Result System TextFault) → IsErrAnd r (λ k. k ≡ unresolved e) → TextReads text r
not_resolved text tree e read h (Ok system) q = absurd q
not_resolved text tree e read h (Err k) q = subst (λ f. TextReads text (Err f)) (sym q) (unnamed_text text tree e read h)

unfit_text : (text : List ℕ) (tree : Ast) (system : System) (e : WidthFault) → IsReadAs text tree → ResolvesTo tree system → ChecksTo system (Err e) → TextReads text (Err (unchecked e))
unfit_text text tree system (widths.Refused r) read h k = misnamed read (misfit h k)
unfit_text text tree system widths.NoMemory read h k = tt

-- what resolves to a system that is not checked is not accepted
pub not_checked : (text : List ℕ) (tree : Ast) (system : System) (e : WidthFault) → IsReadAs text tree → ResolvesTo tree system → ChecksTo system (Err e)
    → (r : Result System TextFault) → IsErrAnd r (λ k. k ≡ unchecked e) → TextReads text r
not_checked text tree system e read h k (Ok other) q = absurd q
not_checked text tree system e read h k (Err f) q = subst (λ z. TextReads text (Err z)) (sym q) (unfit_text text tree system e read h k)

mislaid_text : (text : List ℕ) (tree : Ast) (system checked : System) (e : TextFault) → IsReadAs text tree → ResolvesTo tree system → ChecksTo system (Ok checked)
    → LaysOut {A = Unit {0}} checked (Err e) → TextReads text (Err e)
mislaid_text text tree system checked (fault_of_text.Refused o) read h k m = misnamed read (mislaid h k.1 (subst (λ s. Mislays s o) k.0 m))
mislaid_text text tree system checked fault_of_text.NoMemory read h k m = tt

-- what resolves to a checked system whose messages can't be laid out is not accepted
pub not_laid_out : (text : List ℕ) (tree : Ast) (system checked : System) (e : TextFault) → IsReadAs text tree → ResolvesTo tree system → ChecksTo system (Ok checked)
    → LaysOut {A = Unit {0}} checked (Err e) → (r : Result System TextFault) → IsErrAnd r (λ f. f ≡ e) → TextReads text r
not_laid_out text tree system checked e read h k m (Ok other) q = absurd q
not_laid_out text tree system checked e read h k m (Err f) q = subst (λ z. TextReads text (Err z)) (sym q) (mislaid_text text tree system checked e read h k m)
