-- What is written and answered where a trace was judged.
use Rattle.std.proofs.Common.{◌≡◌, ◌≤◌, ℕ, List, Option, Result, Ok, Err, refl, arith}
use Rattle.replay.specs.Traces.{HasReplayCause}
use Rattle.replay.specs.declared.fault.ReplayFault.{ReplayFault}
use Rattle.replay.specs.declared.fault.ReplayFault.TheVariants as fault
use Rattle.tapc_core.specs.Causes.{HasStoreCause}
use Rattle.tapc_core.specs.Command.{AreFound, Contents}
use Rattle.link_trait.specs.Outside.{IsTold}
use Rattle.tapc_core.specs.Written.{Writes}
use Rattle.tapc_core.specs.commands.Replay.{IsOfReplay, Judged, OfReplay, Trial, reads_trace}
use Rattle.tapc_core.specs.commands.Text.{leaves_refused}
use Rattle.tapc_core.specs.inner.Verdicts.{ClosesVerdict, WasJudged}
use Rattle.tapc_core.specs.declared.status.Status.{Status}
use Rattle.tapc_core.specs.declared.status.Status.TheVariants as status
use Rattle.tapc_core.proofs.Outputs.{answered_or, closes_alone, closes_answered, closes_or}

pub verdict_writes : (trial : Trial) (v : Result Unit ReplayFault) (r : Status) (before now : Option (List ℕ)) → Judged trial v → ClosesVerdict v before now r → Writes (OfReplay trial) r before now
verdict_writes trial (Ok x) r before now j h = closes_alone (OfReplay trial) (j, refl) h
verdict_writes trial (Err (fault.BadLine n)) r before now j h = closes_or (OfReplay trial) (n, j, refl) refl h
verdict_writes trial (Err (fault.NotARun n)) r before now j h = closes_or (OfReplay trial) (n, j, refl) refl h
verdict_writes trial (Err fault.ReadFault) r before now j h = closes_alone (OfReplay trial) refl h
verdict_writes trial (Err fault.NoMemory) r before now j h = closes_alone (OfReplay trial) refl h

-- what is so of each status that such an ending answers is so of the answer
verdict_has : (P : Status → Type 0) (v : Result Unit ReplayFault) (r : Status) (before now : Option (List ℕ)) → (WasJudged v → P status.Done × (P status.BadSchedule × P status.NotARun))
    → P status.ReadFault → P status.NoMemory → P status.WriteFault → ClosesVerdict v before now r → P r
verdict_has P (Ok x) r before now all unread none unwritten h = closes_answered P (all tt).0 unwritten h
verdict_has P (Err (fault.BadLine n)) r before now all unread none unwritten h = answered_or P (all tt).1.0 none unwritten h
verdict_has P (Err (fault.NotARun n)) r before now all unread none unwritten h = answered_or P (all tt).1.1 none unwritten h
verdict_has P (Err fault.ReadFault) r before now all unread none unwritten h = closes_answered P unread unwritten h
verdict_has P (Err fault.NoMemory) r before now all unread none unwritten h = closes_answered P none unwritten h

pub verdict_answers : (v : Result Unit ReplayFault) (r : Status) (before now : Option (List ℕ)) → ClosesVerdict v before now r → IsOfReplay r
verdict_answers v r before now h = verdict_has IsOfReplay v r before now (λ w. (tt, (tt, tt))) tt tt tt h

pub verdict_leaves : (text left : Option (List ℕ)) (v : Result Unit ReplayFault) (r : Status) (before now : Option (List ℕ)) → ClosesVerdict v before now r → leaves_refused text r left
verdict_leaves text left v r before now h = verdict_has (λ s. leaves_refused text s left) v r before now (λ w. (tt, (tt, tt))) tt tt tt h

pub verdict_found : (system trace : List ℕ) (contents : Contents) (v : Result Unit ReplayFault) (r : Status) (before now : Option (List ℕ)) → (WasJudged v → IsTold (contents system) × IsTold (contents trace))
    → ClosesVerdict v before now r → AreFound (reads_trace system trace r) contents
verdict_found system trace contents v r before now found h =
    verdict_has (λ s. AreFound (reads_trace system trace s) contents) v r before now (λ w. let f = found w in ((f.0, (f.1, tt)), ((f.0, (f.1, tt)), (f.0, (f.1, tt))))) tt tt tt h

same_later : {b n : ℕ} → n ≡ b → b ≤ n
same_later h = omega (arith, h)

-- a count that rose did so with a read fault, or with its line that could not be put
pub verdict_cause : (v : Result Unit ReplayFault) (r : Status) (b n : ℕ) (before now : Option (List ℕ)) → HasReplayCause b n v → ClosesVerdict v before now r → HasStoreCause r b n
verdict_cause (Ok x) r b n before now h c = closes_answered (λ s. HasStoreCause s b n) h (same_later h) c
verdict_cause (Err (fault.BadLine k)) r b n before now h c = answered_or (λ s. HasStoreCause s b n) h h (same_later h) c
verdict_cause (Err (fault.NotARun k)) r b n before now h c = answered_or (λ s. HasStoreCause s b n) h h (same_later h) c
verdict_cause (Err fault.ReadFault) r b n before now h c = closes_answered (λ s. HasStoreCause s b n) h h.0 c
verdict_cause (Err fault.NoMemory) r b n before now h c = closes_answered (λ s. HasStoreCause s b n) h (same_later h) c
