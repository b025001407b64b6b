-- Which counts of faults rise with a status, and what is answered where none rose.
use Rattle.std.specs.Prelude.{◌≡◌, ◌⊎◌, ℕ, ◌≤◌}
use Rattle.link_trait.specs.Outside.{Rose}
use Rattle.tapc_core.specs.declared.status.Status.{Status}
use Rattle.tapc_core.specs.declared.status.Status.TheVariants.{ReadFault, WriteFault, NoMemory}

-- The count of the store rose with ReadFault, and is as before with every other answer; where the line of a read fault
-- could not be put, it may have risen with WriteFault. It never falls.
abbrev pub HasStoreCause : Status → ℕ → ℕ → Type 0
HasStoreCause ReadFault before now = (before ≤ now) × Rose before now
HasStoreCause WriteFault before now = before ≤ now
HasStoreCause _ before now = now ≡ before

-- The count of the sink rose with WriteFault, and is as before with every other answer.
abbrev pub HasSinkCause : Status → ℕ → ℕ → Type 0
HasSinkCause WriteFault before now = (before ≤ now) × Rose before now
HasSinkCause _ before now = now ≡ before

-- where no count of faults rose, one status is answered, but for want of memory
abbrev pub IsSure : Status → ℕ → ℕ → ℕ → ℕ → Status → Type 0
IsSure sure store_before store_now sink_before sink_now status =
    (Rose store_before store_now → ⊥) → (Rose sink_before sink_now → ⊥) → (status ≡ sure) ⊎ (status ≡ NoMemory)
