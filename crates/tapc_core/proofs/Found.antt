-- The files that a command read are there.
use Rattle.std.proofs.Common.{◌≡◌, inl, inr, ℕ, List, [], Option, Some, None, Err, refl, sym, subst}
use Rattle.tapc_core.specs.Command.{AreFound, Contents}
use Rattle.link_trait.specs.Outside.{IsTold}
use Rattle.tapc_core.specs.Reading.{ReadsText}
use Rattle.tapc_core.specs.commands.World.{IsPlayed, reads_both}
use Rattle.tapc_core.specs.declared.files.FileFault.{FileFault}
use Rattle.tapc_core.specs.declared.files.FileFault.TheVariants as file
use Rattle.tap_front.specs.declared.offence.Offence.{Offence}
use Rattle.tapc_core.specs.declared.reading.Reading.{Reading}
use Rattle.tapc_core.specs.declared.reading.Reading.TheVariants.{Whole, TooLong}
use Rattle.tapc_core.specs.declared.status.Status.{Status}
use Rattle.tapc_core.specs.declared.status.Status.TheVariants.{Done, Refused, Usage, BadSchedule, ReadFault, WriteFault, LinkFault, NoMemory, NotARun, WorldFull}
use Rattle.tapc_core.specs.inner.Closing.{Closes, ClosesOr, failed, put}
use Rattle.tapc_core.specs.inner.FileFaults.{GivesUp, WasRead}
use Rattle.tapc_core.specs.inner.StartFaults.{StartsNot, WasBegun}
use Rattle.tapc_core.specs.declared.start.StartFault.{StartFault}
use Rattle.tapc_core.specs.declared.start.StartFault.TheVariants as start

-- ---- what is left

-- contents that are told leave what is told
pub text_told : (told : Option (List ℕ)) (reading : Reading) (left : Option (List ℕ)) → ReadsText told reading left → IsTold told → IsTold left
text_told None reading left h t = absurd t
text_told (Some contents) (Whole bytes) left h t = subst IsTold (sym h.1.1) tt
text_told (Some contents) TooLong left h t = subst IsTold (sym h.1) tt

-- ---- statuses

-- A fault is no status with which a file counts as read.
pub record AreSpared (reads : Status → List (List ℕ)) : Type 0 where
  pub unwritten : reads WriteFault ≡ []
  pub unread : reads ReadFault ≡ []
  pub no_memory : reads NoMemory ≡ []

none_found : (names : List (List ℕ)) (contents : Contents) → names ≡ [] → AreFound names contents
none_found names contents e = subst (λ n. AreFound n contents) (sym e) tt

-- a command that closed with a status
pub closed_found : (reads : Status → List (List ℕ)) (contents : Contents) (status : Status) (bytes : List ℕ) (before now : Option (List ℕ)) (r : Status)
    → AreSpared reads → AreFound (reads status) contents → Closes status bytes before now r → AreFound (reads r) contents
closed_found reads contents status bytes before now r spared found (put a) = found
closed_found reads contents status bytes before now r spared found (failed front rest e a) = none_found (reads WriteFault) contents spared.unwritten

-- or for want of memory with another one
pub closed_or_found : (reads : Status → List (List ℕ)) (contents : Contents) (status : Status) (bytes others : List ℕ) (before now : Option (List ℕ)) (r : Status)
    → AreSpared reads → AreFound (reads status) contents → ClosesOr status bytes others before now r → AreFound (reads r) contents
closed_or_found reads contents status bytes others before now r spared found (inl c) = closed_found reads contents status bytes before now r spared found c
closed_or_found reads contents status bytes others before now r spared found (inr c) =
    closed_found reads contents NoMemory others before now r spared (none_found (reads NoMemory) contents spared.no_memory) c

-- a command that had nothing to work on
pub given_up_found : (reads : Status → List (List ℕ)) (contents : Contents) (fault : FileFault) (before now : Option (List ℕ)) (r : Status)
    → AreSpared reads → ((o : Offence) → fault ≡ file.Refused o → AreFound (reads Refused) contents) → GivesUp fault before now r → AreFound (reads r) contents
given_up_found reads contents (file.Refused o) before now r spared found (inl c) = closed_found reads contents Refused _ before now r spared (found o refl) c
given_up_found reads contents (file.Refused o) before now r spared found (inr c) = closed_found reads contents NoMemory _ before now r spared (none_found (reads NoMemory) contents spared.no_memory) c
given_up_found reads contents file.ReadFault before now r spared found c = closed_found reads contents ReadFault _ before now r spared (none_found (reads ReadFault) contents spared.unread) c
given_up_found reads contents file.NoMemory before now r spared found c = closed_found reads contents NoMemory _ before now r spared (none_found (reads NoMemory) contents spared.no_memory) c

-- a command that had nothing to run
pub no_start_found : (reads : Status → List (List ℕ)) (contents : Contents) (fault : StartFault) (before now : Option (List ℕ)) (r : Status)
    → AreSpared reads → (WasBegun {T = Unit {0}} (Err fault) → AreFound (reads Refused) contents) → StartsNot fault before now r → AreFound (reads r) contents
no_start_found reads contents (start.Misset m) before now r spared found h = closed_or_found reads contents Refused _ _ before now r spared (found tt) h
no_start_found reads contents (start.File f) before now r spared found h =
    given_up_found reads contents f before now r spared (λ o e. found (subst (λ x. WasBegun {T = Unit {0}} (Err (start.File x))) (sym e) tt)) h

-- a schedule that was played
pub played_found : (system schedule : List ℕ) (contents : Contents) (r : Status) → IsTold (contents system) → IsTold (contents schedule) → IsPlayed r
    → AreFound (reads_both system schedule r) contents
played_found system schedule contents Done a b h = (a, (b, tt))
played_found system schedule contents BadSchedule a b h = (a, (b, tt))
played_found system schedule contents WriteFault a b h = tt
played_found system schedule contents NoMemory a b h = tt
played_found system schedule contents Refused a b h = absurd h
played_found system schedule contents Usage a b h = absurd h
played_found system schedule contents ReadFault a b h = absurd h
played_found system schedule contents LinkFault a b h = absurd h
played_found system schedule contents NotARun a b h = absurd h
played_found system schedule contents WorldFull a b h = (a, (b, tt))

-- a text that was refused was read
pub refused_read : (T : Type 0) (fault : FileFault) (o : Offence) → fault ≡ file.Refused o → WasRead {T = T} (Err fault)
refused_read T fault o e = subst (λ f. WasRead {T = T} (Err f)) (sym e) tt
