-- Why a run does not begin.
use Rattle.std.specs.Prelude.{◌≡◌, ℕ, ◌≤◌, ⊤, List, Option, Result, Ok, Err}
use Rattle.tap_settings.specs.declared.refusals.SettingsFault.{SettingsFault}
use Rattle.tap_settings.specs.declared.refusals.SettingsFault.TheVariants as settings
use Rattle.tap_settings.specs.Lines.{refused_setting_line}
use Rattle.link_trait.specs.Outside.{Rose}
use Rattle.tapc_core.specs.Lines.{no_memory_line}
use Rattle.tapc_core.specs.inner.Closing.{ClosesOr}
use Rattle.tapc_core.specs.inner.FileFaults.{GivesUp}
use Rattle.tapc_core.specs.declared.status.Status.{Status}
use Rattle.tapc_core.specs.declared.status.Status.TheVariants as status
use Rattle.tapc_core.specs.declared.files.FileFault.TheVariants as file
use Rattle.tapc_core.specs.declared.start.StartFault.{StartFault}
use Rattle.tapc_core.specs.declared.start.StartFault.TheVariants.{File, Misset}

-- what follows from settings that give no inputs
abbrev pub unset : SettingsFault → StartFault
unset (settings.Refused refusal) = Misset refusal
unset settings.NoMemory = File file.NoMemory

-- the text or the settings were refused
abbrev pub WasRefused : {T : Type 0} → Result T StartFault → Type 0
WasRefused (Ok x) = ⊥
WasRefused (Err (Misset refusal)) = ⊤
WasRefused (Err (File (file.Refused offence))) = ⊤
WasRefused (Err (File file.ReadFault)) = ⊥
WasRefused (Err (File file.NoMemory)) = ⊥

-- the text was read, whatever came of it and of the settings
abbrev pub WasBegun : {T : Type 0} → Result T StartFault → Type 0
WasBegun (Ok x) = ⊤
WasBegun (Err fault) = WasRefused {T = Unit {0}} (Err fault)

-- how a command ends that has nothing to run
abbrev pub StartsNot : StartFault → Option (List ℕ) → Option (List ℕ) → Status → Type 0
StartsNot (Misset refusal) before now r = ClosesOr status.Refused (refused_setting_line refusal) no_memory_line before now r
StartsNot (File fault) before now r = GivesUp fault before now r

-- the count of the store rose where a call of it failed, and is as before with every other answer
abbrev pub HasStartCause : {T : Type 0} → ℕ → ℕ → Result T StartFault → Type 0
HasStartCause before now (Ok x) = now ≡ before
HasStartCause before now (Err (Misset refusal)) = now ≡ before
HasStartCause before now (Err (File (file.Refused offence))) = now ≡ before
HasStartCause before now (Err (File file.ReadFault)) = (before ≤ now) × Rose before now
HasStartCause before now (Err (File file.NoMemory)) = now ≡ before
