-- What a command does.
use Rattle.std.specs.Prelude.{ℕ, List, Option}
use Rattle.tap_base.specs.Lists.{Each}
use Rattle.link_trait.specs.Outside.{IsTold}
use Rattle.tapc_core.specs.declared.status.Status.{Status}

-- what names hold, where it is told
abbrev pub Contents : Type 0
Contents = List ℕ → Option (List ℕ)

pub record Command : Type 1 where
  -- the statuses that it answers
  pub answers : Status → Type 0
  -- the files that it has read where it ends with a status
  pub reads : Status → List (List ℕ)
  -- what it writes with a status, where every put succeeds
  pub writes : Contents → Status → List ℕ → Type 0
  -- which status it answers without fail, where no count of faults rose, but for want of memory
  pub is_sure : Contents → Status → Type 0
  -- what is left of the file that it began last, where it ends with a status
  pub leaves : Contents → Status → Option (List ℕ) → Type 0

-- Each file that was read is there: what it holds is told.
abbrev pub AreFound : List (List ℕ) → Contents → Type 0
AreFound names contents = Each (λ name. IsTold (contents name)) names
