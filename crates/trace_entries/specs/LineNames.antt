-- Names that tell processes, and the variables of each, apart in lines.
use Rattle.std.specs.Prelude.{◌≡◌, ℕ, List, [], IsSomeAnd, length, map, slice_get, unwrap_or}
use Rattle.tap_base.specs.Lists.{Each}
use Rattle.run_text.specs.Names.{AreFewNames}
use Rattle.run_text.specs.Operands.{IsNameWord}
use Rattle.run_text.specs.declared.names.Names.{Names}
use Rattle.run_text.specs.declared.names.VarName.{VarName}

-- the names of variables
abbrev pub var_names : List VarName → List (List ℕ)
var_names vars = map (λ v. v.text) vars

-- names of processes, and for each process names of its variables
pub record AreLineNames (names : Names) : Type 0 where
  pub processes : AreFewNames names.processes
  pub both : length names.vars ≡ length names.processes
  pub vars : Each (λ own. AreFewNames (var_names own)) names.vars

-- the variables of a process; none where there is no such process
abbrev pub vars_at : Names → ℕ → List VarName
vars_at names p = unwrap_or (slice_get names.vars p) []

-- the number of the variable that a word names, and how many cells it has
abbrev pub IsVarWord : List VarName → List ℕ → ℕ → ℕ → Type 0
IsVarWord vars word x cells = IsNameWord (var_names vars) word x × IsSomeAnd (slice_get vars x) (λ v. v.cells ≡ cells)
