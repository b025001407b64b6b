-- What a machine holds between runs, and what it is made for.
use Rattle.std.specs.Prelude.{◌≡◌, ℕ, ◌+◌, ◌≤◌, ℤ, Bool, List, map, max, length, slice_get, Some}
use Rattle.tap_base.specs.Lists.{Each}
use Rattle.tap_base.specs.Ranges.{AreAllIn}
use Rattle.register_code.specs.declared.code.Code.{Code}
use Rattle.register_code.specs.declared.code.CodeAction.{CodeAction}
use Rattle.register_code.specs.declared.code.CodeKind.TheVariants as kind
use Rattle.register_code.specs.declared.code.CodeProcess.{CodeProcess}
use Rattle.abstract_run.specs.Opening.{opening_cells}
use Rattle.register_code.specs.Registers.{cell_ranges, input_ranges, variable_of}
use Rattle.register_code.specs.Running.{guard_holds}

-- the process by number, its cells and inputs, and for how many registers and counters there is room
pub record Placed : Type 0 where
  pub process : ℕ
  pub cells : List ℤ
  pub inputs : List ℤ
  pub registers_room : ℕ
  pub counters_room : ℕ

-- room for the registers and counters of an action
pub record HasRoom (m : Placed) (action : CodeAction) : Type 0 where
  pub registers : length m.cells + length m.inputs + length action.temporaries ≤ m.registers_room
  pub guard : length action.guard ≤ m.counters_room
  pub body : length action.body ≤ m.counters_room

-- Cells and inputs are those of the machine's process in the code, each in its range, and there is room for each action.
pub record IsMachineOf (code : Code) (m : Placed) : Type 0 where
  pub process : CodeProcess
  pub there : slice_get code.processes m.process ≡ Some process
  pub cells : AreAllIn (cell_ranges process) m.cells
  pub inputs : AreAllIn (input_ranges process) m.inputs
  pub room : (number : ℕ) (action : CodeAction) → slice_get process.actions number ≡ Some action → HasRoom m action

-- an action of a process of code
pub record HasAction (code : Code) (process : ℕ) (number : ℕ) : Type 0 where
  pub of_process : CodeProcess
  pub there : slice_get code.processes process ≡ Some of_process
  pub action : CodeAction
  pub declared : slice_get of_process.actions number ≡ Some action

-- an action with a local guard
pub record HasGuard (code : Code) (process : ℕ) (number : ℕ) : Type 0 where
  pub action : HasAction code process number
  pub local : action.action.kind ≡ kind.Local

-- the value of a local guard, with these cells and inputs
abbrev pub guard_of : (code : Code) (m : Placed) (number : ℕ) → HasAction code m.process number → Bool
guard_of code m number a = guard_holds code.messages a.of_process.timers a.action m.cells m.inputs

-- The inputs fit those of a process of code.
pub record InputsFit (code : Code) (number : ℕ) (inputs : List ℤ) : Type 0 where
  pub process : CodeProcess
  pub there : slice_get code.processes number ≡ Some process
  pub fit : AreAllIn (input_ranges process) inputs

-- each cell of a process with the initial value of its variable
abbrev pub initial_cells : CodeProcess → List ℤ
initial_cells process = opening_cells (map variable_of process.variables)

-- A machine of a process with these inputs, as it is made.
pub record IsNew (code : Code) (number : ℕ) (given : List ℤ) (m : Placed) : Type 0 where
  pub machine : IsMachineOf code m
  pub of_process : m.process ≡ number
  pub initial : (process : CodeProcess) → slice_get code.processes number ≡ Some process → m.cells ≡ initial_cells process
  pub inputs_are : m.inputs ≡ given

-- how many temporaries an action has, and how many counters its longer part asks for
abbrev pub temporaries_of : CodeAction → ℕ
temporaries_of a = length a.temporaries

abbrev pub counters_of : CodeAction → ℕ
counters_of a = max (length a.guard) (length a.body)

-- No action has more.
abbrev pub AreAtMost : (CodeAction → ℕ) → List CodeAction → ℕ → Type 0
AreAtMost count actions most = Each (λ a. count a ≤ most) actions
