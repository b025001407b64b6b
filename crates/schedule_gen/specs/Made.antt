-- What `make` writes, and what is behind its faults.
use Rattle.std.specs.Prelude.{◌≡◌, ◌⊎◌, ℕ, ◌≤◌, List, [], ◌++◌, Option, Result, Ok, Err}
use Rattle.std.specs.Io.KnownBytes.{Appends}
use Rattle.tap_base.specs.declared.system.System.{System}
use Rattle.link_trait.specs.Outside.{Rose}
use Rattle.schedule_gen.specs.declared.fault.MakeFault.{MakeFault}
use Rattle.schedule_gen.specs.declared.fault.MakeFault.TheVariants as fault
use Rattle.schedule_gen.specs.Listed.{made_text}

-- Of a schedule of n events all lines are written; where memory was refused, those of the first ones; and where a put failed, a
-- front of the text.
abbrev pub Makes : System → ℕ → ℕ → ℕ → Option (List ℕ) → Result Unit MakeFault → Option (List ℕ) → Type 0
Makes system seed n faults before (Ok x) now = Appends before now (made_text system seed n faults)
Makes system seed n faults before (Err fault.NoMemory) now = (k : ℕ) × (k ≤ n) × Appends before now (made_text system seed k faults)
Makes system seed n faults before (Err fault.WriteFault) now = (front rest : List ℕ) × (front ++ rest ≡ made_text system seed n faults) × Appends before now front

-- The count of faults rose where a put failed, and is as before with every other answer.
abbrev pub HasMakeCause : ℕ → ℕ → Result Unit MakeFault → Type 0
HasMakeCause before now (Err fault.WriteFault) = (before ≤ now) × Rose before now
HasMakeCause before now _ = now ≡ before

-- ---- pages

-- what putting a page leaves: all of it is written and it is empty, or on a failure a front of it is written
abbrev pub Puts : {E : Type 0} → List ℕ → Option (List ℕ) → Result Unit E → List ℕ → Option (List ℕ) → Type 0
Puts old before (Ok x) new now = Appends before now old × (new ≡ [])
Puts old before (Err e) new now = (front rest : List ℕ) × (front ++ rest ≡ old) × Appends before now front

-- the same of a page that may stay as it is
abbrev pub PutsOrKeeps : {E : Type 0} → List ℕ → Option (List ℕ) → Result Unit E → List ℕ → Option (List ℕ) → Type 0
PutsOrKeeps old before (Ok x) new now = ((new ≡ old) × (now ≡ before)) ⊎ (Appends before now old × (new ≡ []))
PutsOrKeeps old before (Err e) new now = (front rest : List ℕ) × (front ++ rest ≡ old) × Appends before now front
