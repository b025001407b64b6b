-- What is answered of the parts of a process.
use Rattle.std.specs.Prelude.{◌≡◌, ℕ, ◌≤◌, List, [], ◌++◌, length, Some, Result, Ok, Err}
use Rattle.std.specs.Option.{option_map}
use Rattle.tap_base.specs.declared.ast.AstConst.{AstConst}
use Rattle.tap_base.specs.declared.ast.AstProcess.{AstProcess}
use Rattle.tap_base.specs.declared.ast.AstVar.{AstVar}
use Rattle.tap_base.specs.declared.ast.Ident.{Ident}
use Rattle.tap_base.specs.declared.refusal.Refusal.{Refusal}
use Rattle.tap_base.specs.declared.system.Var.{Var}
use Rattle.tap_base.specs.Option.{each}
use Rattle.tap_names.specs.declared.declared.Declared.{Declared}
use Rattle.tap_names.specs.declared.fault.TypeFault.{TypeFault}
use Rattle.tap_names.specs.declared.inputs.DeclaredInputs.{DeclaredInputs}
use Rattle.tap_names.specs.declared.named.Named.{Named}
use Rattle.tap_names.specs.declared.table.Table.{Table}
use Rattle.tap_names.specs.Declarations.{consts_offences, inner_offences, process_offences}
use Rattle.tap_names.specs.Limits.{most_timers}
use Rattle.tap_base.specs.ListWords.{behind}
use Rattle.tap_names.specs.Names.{constants, input_names, input_of, timer_names, var_of, variable_names}
use Rattle.tap_names.specs.Processes.{IsDeclared}
use Rattle.tap_names.specs.Refusals.{Faults}
use Rattle.tap_names.specs.Tables.{Entry, entries_of, names_in}
use Rattle.tap_names.specs.VariableOffences.{cells_among, idents, input_offences, timer_offences, var_names, variable_offences}

-- the constants of a process in a table
abbrev pub DeclaresConstants : List AstConst → Result (Table Named) TypeFault → Type 0
DeclaresConstants consts (Ok t) = (consts_offences consts ≡ []) × (entries_of t ≡ constants consts)
DeclaresConstants consts (Err e) = Faults (consts_offences consts) e

abbrev pub judged_input : List (Entry Named) → List AstVar → AstVar → List Refusal
judged_input consts before v = input_offences consts (var_names before) v

-- the inputs behind these constants, with the table of their names
abbrev pub DeclaresInputs : List (Entry Named) → List AstVar → Result DeclaredInputs TypeFault → Type 0
DeclaresInputs consts inputs (Ok d) =
    (behind (judged_input consts) [] inputs ≡ []) × (entries_of d.table ≡ input_names 0 inputs)
    × (each (input_of consts) inputs ≡ Some d.inputs)
DeclaresInputs consts inputs (Err e) = Faults (behind (judged_input consts) [] inputs) e

abbrev pub judged_variable : List (Entry Named) → List (List ℕ) → List AstVar → AstVar → List Refusal
judged_variable consts outer before v = variable_offences consts (outer ++ var_names before) (cells_among before) v

-- the variables behind these constants and the names of a table, which grows by their names
abbrev pub DeclaresVariables : List (Entry Named) → List AstVar → List (Entry Named) → Result (List Var) TypeFault → List (Entry Named) → Type 0
DeclaresVariables consts vars old (Ok found) new =
    (behind (judged_variable consts (names_in old)) [] vars ≡ []) × (option_map (λ rest. old ++ rest) (variable_names consts 0 vars) ≡ Some new)
    × (each (var_of consts) vars ≡ Some found)
DeclaresVariables consts vars old (Err e) new = Faults (behind (judged_variable consts (names_in old)) [] vars) e

abbrev pub judged_timer : List (Entry Named) → List (List ℕ) → List Ident → Ident → List Refusal
judged_timer consts outer before t = timer_offences consts outer (idents before) t

-- the timers behind these constants and the names of a table, which grows by their names
abbrev pub DeclaresTimers : List (Entry Named) → List Ident → List (Entry Named) → Result (Unit {0}) TypeFault → List (Entry Named) → Type 0
DeclaresTimers consts timers old (Ok found) new = (behind (judged_timer consts (names_in old)) [] timers ≡ []) × (new ≡ old ++ timer_names 0 timers) × (length timers ≤ most_timers)
DeclaresTimers consts timers old (Err e) new = Faults (behind (judged_timer consts (names_in old)) [] timers) e

-- all that stands in a process
abbrev pub DeclaresInner : AstProcess → Result Declared TypeFault → Type 0
DeclaresInner p (Ok d) = (inner_offences p ≡ []) × IsDeclared p d
DeclaresInner p (Err e) = Faults (inner_offences p) e

-- a process behind messages and processes of these names
abbrev pub DeclaresProcess : List (List ℕ) → List (List ℕ) → AstProcess → Result Declared TypeFault → Type 0
DeclaresProcess messages before p (Ok d) = (process_offences messages before p ≡ []) × IsDeclared p d
DeclaresProcess messages before p (Err e) = Faults (process_offences messages before p) e
