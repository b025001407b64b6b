-- Which lines stand in the trace of a world.
use Rattle.std.specs.Prelude.{ℕ, List}
use Rattle.tap_base.specs.Lists.{Each}
use Rattle.tap_exec.specs.Semantics.{Semantics}
use Rattle.run_text.specs.Names.{AreNames}
use Rattle.run_text.specs.TraceText.{names_in, vars_in}
use Rattle.run_text.specs.declared.names.Names.{Names}
use Rattle.trace_entries.specs.Entries.{IsLineOfEntry}
use Rattle.trace_entries.specs.LineNames.{var_names}
use Rattle.trace_entries.specs.declared.entry.Entry.{Entry}
use Rattle.trace_entries.specs.declared.entry.Entry.TheVariants as entry

-- The names that lines speak of tell the processes apart, and the variables of each.
pub record TellsNames (semantics : Semantics) : Type 0 where
  pub processes : AreNames (names_in semantics)
  pub vars : Each (λ own. AreNames (var_names own)) (vars_in semantics)

-- the names of the processes, and of the variables of each
abbrev pub names_told : Semantics → Names
names_told semantics = record { processes = names_in semantics; vars = vars_in semantics }

-- all entries but those that only a node writes
abbrev pub IsOfWorld : Entry → Type 0
IsOfWorld (entry.Got q p bytes) = ⊥
IsOfWorld (entry.Strangers n) = ⊥
IsOfWorld _ = Unit {0}

-- The line is that of an entry of a world.
abbrev pub IsInGrammar : Semantics → List ℕ → Type 0
IsInGrammar semantics line = (e : Entry) × IsOfWorld e × IsLineOfEntry (names_told semantics) line e

-- The line is that of no entry of a world.
abbrev pub IsInNoGrammar : Semantics → List ℕ → Type 0
IsInNoGrammar semantics line = (e : Entry) → IsOfWorld e → IsLineOfEntry (names_told semantics) line e → ⊥
