-- Offences of settings, and what is answered by them.
use Rattle.std.specs.Prelude.{◌≡◌, ℕ, Bool, if◌then◌else◌, List, [], ◌∷◌, Option, Some, Result, Ok, Err}
use Rattle.tap_settings.specs.declared.refusals.SettingCode.{SettingCode}
use Rattle.tap_settings.specs.declared.refusals.SettingRefusal.{SettingRefusal}
use Rattle.tap_settings.specs.declared.refusals.SettingsFault.{SettingsFault}
use Rattle.tap_settings.specs.declared.refusals.SettingsFault.TheVariants as fault
use Rattle.tap_base.specs.ListWords.{first}

-- a code, with the names of a process and an input
abbrev pub refusal : SettingCode → List ℕ → List ℕ → SettingRefusal
refusal code process input = record { code = code; process = process; input = input }

-- one offence
abbrev pub offence : SettingCode → List ℕ → List ℕ → List SettingRefusal
offence code process input = refusal code process input ∷ []

-- one offence, where the test holds
abbrev pub where_ : Bool → SettingCode → List ℕ → List ℕ → List SettingRefusal
where_ b code process input = if b then offence code process input else []

-- why settings give nothing: their first offence, or want of memory
abbrev pub Faults : List SettingRefusal → SettingsFault → Type 0
Faults offences (fault.Refused r) = first offences ≡ Some r
Faults offences fault.NoMemory = Unit {0}

-- What is answered, by the offences in their order and by what is named: what is named, where there is no offence; else the
-- first one.
abbrev pub Judges : {A : Type 0} → List SettingRefusal → Option A → Result A SettingsFault → Type 0
Judges offences named (Ok x) = (offences ≡ []) × (named ≡ Some x)
Judges offences named (Err e) = Faults offences e
