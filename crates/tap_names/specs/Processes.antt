-- What is answered of the processes that a tree declares.
use Rattle.std.specs.Prelude.{◌≡◌, ℕ, ◌≤◌, List, [], ◌∷◌, ◌++◌, length, Some, Result, Ok, Err}
use Rattle.tap_base.specs.declared.ast.AstProcess.{AstProcess}
use Rattle.tap_base.specs.declared.refusal.Refusal.{Refusal}
use Rattle.tap_base.specs.Option.{each}
use Rattle.tap_names.specs.declared.declared.Declared.{Declared}
use Rattle.tap_names.specs.declared.declared.DeclaredProcesses.{DeclaredProcesses}
use Rattle.tap_names.specs.declared.fault.TypeFault.{TypeFault}
use Rattle.tap_names.specs.Declarations.{process_names, process_offences}
use Rattle.tap_names.specs.Limits.{most_processes, most_timers}
use Rattle.tap_base.specs.ListWords.{behind}
use Rattle.tap_names.specs.Names.{constants, input_of, names_of, var_of}
use Rattle.tap_names.specs.Refusals.{Faults}
use Rattle.tap_names.specs.Tables.{entries_of, names_in}

-- what a process declares, with the tables of its names
pub record IsDeclared (p : AstProcess) (d : Declared) : Type 0 where
  pub names : names_of p ≡ Some (entries_of d.constants ++ entries_of d.others)
  pub inputs : each (input_of (constants p.consts)) p.inputs ≡ Some d.inputs
  pub vars : each (var_of (constants p.consts)) p.vars ≡ Some d.vars
  pub timers : length p.timers ≤ most_timers

-- as many of one as of the other, each process with what it declares
abbrev pub AllDeclared : List AstProcess → List Declared → Type 0
AllDeclared [] [] = Unit {0}
AllDeclared [] (d ∷ ds) = ⊥
AllDeclared (p ∷ ps) [] = ⊥
AllDeclared (p ∷ ps) (d ∷ ds) = IsDeclared p d × AllDeclared ps ds

-- a process by the processes that stand before it, behind messages of these names
abbrev pub judged_process : List (List ℕ) → List AstProcess → AstProcess → List Refusal
judged_process messages before p = process_offences messages (process_names before) p

-- The processes behind messages of these names, where none has an offence, with what each declares and the table of their
-- names; else the first offence among them.
abbrev pub DeclaresProcesses : List (List ℕ) → List AstProcess → Result DeclaredProcesses TypeFault → Type 0
DeclaresProcesses messages processes (Ok d) =
    (behind (judged_process messages) [] processes ≡ []) × (names_in (entries_of d.table) ≡ process_names processes)
    × AllDeclared processes d.declared × (length processes ≤ most_processes)
DeclaresProcesses messages processes (Err e) = Faults (behind (judged_process messages) [] processes) e
