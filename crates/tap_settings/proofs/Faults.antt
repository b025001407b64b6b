-- The first offence of lists one behind the other.
use Rattle.std.proofs.Common.{◌≡◌, List, [], ◌++◌, Bool, true, false, refl, subst, ℕ}
use Rattle.std.specs.Prelude.{Result, Err, IsErrAnd}
use Rattle.tap_settings.specs.declared.refusals.SettingCode.{SettingCode}
use Rattle.tap_settings.specs.declared.refusals.SettingRefusal.{SettingRefusal}
use Rattle.tap_settings.specs.declared.refusals.SettingsFault.{SettingsFault}
use Rattle.tap_settings.specs.declared.refusals.SettingsFault.TheVariants as fault
use Rattle.tap_base.proofs.LoopFacts.{fault_passed, first_back, first_front}
use Rattle.tap_settings.specs.Refusals.{Faults, where_}

-- the first offence of a front is that of the whole
pub front : (xs ys : List SettingRefusal) (e : SettingsFault) → Faults xs e → Faults (xs ++ ys) e
front xs ys (fault.Refused r) h = first_front xs ys r h
front xs ys fault.NoMemory h = tt

-- behind a front without an offence comes the first of the rest
pub back : (xs ys : List SettingRefusal) (e : SettingsFault) → xs ≡ [] → Faults ys e → Faults (xs ++ ys) e
back xs ys (fault.Refused r) e h = first_back xs ys r e h
back xs ys fault.NoMemory e h = tt

-- that of a front is that of what the parts make
pub front_of : (xs ys all : List SettingRefusal) (e : SettingsFault) → xs ++ ys ≡ all → Faults xs e → Faults all e
front_of xs ys all e q h = let F : List SettingRefusal → Type 0 = λ z. Faults z e in subst F q (front xs ys e h)

-- a fault is passed on by any answer that tells of one
pub passed_on : {A : Type 0} (P : Result A SettingsFault → Type 0) (offences : List SettingRefusal) → ((d : SettingsFault) → Faults offences d → P (Err d)) → (r : Result A SettingsFault) (e : SettingsFault)
    → IsErrAnd r (λ d. d ≡ e) → Faults offences e → P r
passed_on P offences to r e h k = fault_passed (Faults offences) P to r e h k

-- an offence that is not there was not due
pub not_due : (b : Bool) (code : SettingCode) (process input : List ℕ) → where_ b code process input ≡ [] → b ≡ false
not_due true code process input e = absurd cc
not_due false code process input e = refl
