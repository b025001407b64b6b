-- What is answered where there is nothing to run.
use Rattle.std.proofs.Common.{◌≡◌, ◌≤◌, ℕ, List, Option, Err, arith, subst, sym}
use Rattle.link_trait.specs.Outside.{Rose}
use Rattle.tap_front.specs.declared.offence.Offence.{Offence}
use Rattle.tapc_core.specs.Causes.{HasStoreCause}
use Rattle.tapc_core.specs.Reading.{HasReadCause, LeavesText}
use Rattle.tapc_core.specs.commands.Text.{leaves_refused}
use Rattle.tapc_core.specs.declared.files.FileFault.{FileFault}
use Rattle.tapc_core.specs.declared.files.FileFault.TheVariants as file
use Rattle.tapc_core.specs.declared.reading.ReadError.{ReadError}
use Rattle.tapc_core.specs.declared.reading.ReadError.TheVariants as read_error
use Rattle.tapc_core.specs.declared.start.StartFault.{StartFault}
use Rattle.tapc_core.specs.declared.start.StartFault.TheVariants as start
use Rattle.tapc_core.specs.declared.status.Status.{Status}
use Rattle.tapc_core.specs.declared.status.Status.TheVariants as status
use Rattle.tapc_core.specs.inner.FileFaults.{GivesUp, HasFileCause, WasRead, unread}
use Rattle.tapc_core.specs.inner.StartFaults.{HasStartCause, StartsNot, WasRefused}
use Rattle.tapc_core.proofs.Outputs.{answered_or, closes_answered}

same_later : {b n : ℕ} → n ≡ b → b ≤ n
same_later h = omega (arith, h)

module _ (P : Status → Type 0) (unread : P status.ReadFault) (none : P status.NoMemory) (unwritten : P status.WriteFault) where
  -- what is so of each status of a command that has nothing to work on is so of its answer
  pub given_up_has : (fault : FileFault) (r : Status) (before now : Option (List ℕ)) → (WasRead {T = Unit {0}} (Err fault) → P status.Refused) → GivesUp fault before now r → P r
  given_up_has (file.Refused o) r before now refused h = answered_or P (refused tt) none unwritten h
  given_up_has file.ReadFault r before now refused h = closes_answered P unread unwritten h
  given_up_has file.NoMemory r before now refused h = closes_answered P none unwritten h

  -- and of one that has nothing to run
  pub start_has : (fault : StartFault) (r : Status) (before now : Option (List ℕ)) → (WasRefused {T = Unit {0}} (Err fault) → P status.Refused) → StartsNot fault before now r → P r
  start_has (start.Misset m) r before now refused h = answered_or P (refused tt) none unwritten h
  start_has (start.File (file.Refused o)) r before now refused h = answered_or P (refused tt) none unwritten h
  start_has (start.File file.ReadFault) r before now refused h = closes_answered P unread unwritten h
  start_has (start.File file.NoMemory) r before now refused h = closes_answered P none unwritten h

-- a refused text was the last that was begun
pub start_leaves : (text left : Option (List ℕ)) (fault : StartFault) (r : Status) (before now : Option (List ℕ)) → (WasRefused {T = Unit {0}} (Err fault) → LeavesText text left) → StartsNot fault before now r
    → leaves_refused text r left
start_leaves text left fault r before now refused h = start_has (λ s. leaves_refused text s left) tt tt tt fault r before now refused h

-- a count that rose did so with a read fault, or with its line that could not be put
pub given_up_cause : (fault : FileFault) (r : Status) (b n : ℕ) (before now : Option (List ℕ)) → HasFileCause {T = Unit {0}} b n (Err fault) → GivesUp fault before now r → HasStoreCause r b n
given_up_cause (file.Refused o) r b n before now h c = answered_or (λ s. HasStoreCause s b n) h h (same_later h) c
given_up_cause file.ReadFault r b n before now h c = closes_answered (λ s. HasStoreCause s b n) h h.0 c
given_up_cause file.NoMemory r b n before now h c = closes_answered (λ s. HasStoreCause s b n) h (same_later h) c

pub start_cause : (fault : StartFault) (r : Status) (b n : ℕ) (before now : Option (List ℕ)) → HasStartCause {T = Unit {0}} b n (Err fault) → StartsNot fault before now r → HasStoreCause r b n
start_cause (start.Misset m) r b n before now h c = answered_or (λ s. HasStoreCause s b n) h h (same_later h) c
start_cause (start.File (file.Refused o)) r b n before now h c = answered_or (λ s. HasStoreCause s b n) h h (same_later h) c
start_cause (start.File file.ReadFault) r b n before now h c = closes_answered (λ s. HasStoreCause s b n) h h.0 c
start_cause (start.File file.NoMemory) r b n before now h c = closes_answered (λ s. HasStoreCause s b n) h (same_later h) c

-- a reading that failed gives no offence
pub no_offence : (error : ReadError) (o : Offence) → unread error ≡ file.Refused o → ⊥
no_offence read_error.NoMemory o e = cc
no_offence read_error.Failed o e = cc

pub never_read : (error : ReadError) (fault : FileFault) → fault ≡ unread error → WasRead {T = Unit {0}} (Err fault) → ⊥
never_read read_error.NoMemory fault e h = subst (λ f. WasRead {T = Unit {0}} (Err f)) e h
never_read read_error.Failed fault e h = subst (λ f. WasRead {T = Unit {0}} (Err f)) e h

pub unread_cause : (T : Type 0) (error : ReadError) (fault : FileFault) (b c n : ℕ) → fault ≡ unread error → b ≡ c → HasReadCause {T = T} b n (Err error) → HasFileCause {T = Unit {0}} c n (Err fault)
unread_cause T read_error.NoMemory fault b c n e same h = subst (λ f. HasFileCause {T = Unit {0}} c n (Err f)) (sym e) (subst (λ x. n ≡ x) same h)
unread_cause T read_error.Failed fault b c n e same h = subst (λ f. HasFileCause {T = Unit {0}} c n (Err f)) (sym e) (subst (λ x. (x ≤ n) × Rose x n) same h)
