-- What verified code keeps.
use Rattle.std.specs.Prelude.{◌≡◌, ◌≢◌, ℕ, ◌+◌, ◌≤◌, ℤ, pos, true, [], List, length, slice_get, Option, Some, None, ◌⊎◌}
use Rattle.tap_exec.specs.Running.{Running}
use Rattle.tap_base.specs.Lists.{Each}
use Rattle.tap_base.specs.Ranges.{AreAllIn}
use Rattle.byte_meaning.specs.Messages.{IsFitSend}
use Rattle.abstract_run.specs.Safe.{IsFitRunning}
use Rattle.register_code.specs.CodeSemantics.{code_process, code_semantics}
use Rattle.register_code.specs.declared.bad.Part.{Part}
use Rattle.register_code.specs.declared.bad.Part.TheVariants as part
use Rattle.register_code.specs.declared.instr.Instr.TheVariants as instr
use Rattle.register_code.specs.declared.code.Code.{Code}
use Rattle.register_code.specs.declared.code.CodeAction.{CodeAction}
use Rattle.tap_base.specs.Interval.{IsIn, truth_range}
use Rattle.register_code.specs.declared.code.CodeKind.TheVariants as kind
use Rattle.register_code.specs.declared.code.CodeProcess.{CodeProcess}
use Rattle.register_code.specs.declared.instr.Instr.{Instr}
use Rattle.sound_code.specs.Fitting.{FitsSite, IsRefused, ReceivedFit}
use Rattle.register_code.specs.Instructions.{Moment, Setting}
use Rattle.register_code.specs.Loops.{choices, cost, sends}
use Rattle.register_code.specs.Registers.{cell_ranges, input_ranges}
use Rattle.register_code.specs.Running.{EndsWithin, Fails, Leads, code_run, guard_running, is_ended, opening, run, step}
use Rattle.register_code.specs.Sites.{Site}
use Rattle.register_code.specs.Verified.{IsVerified, instrs_of, received_fields, site_of}

-- a part of an action of verified code
pub record IsPartOf (code : Code) (p : ℕ) (process : CodeProcess) (action : CodeAction) : Type 0 where
  pub verified : IsVerified code
  pub there : slice_get code.processes p ≡ Some process
  pub number : ℕ
  pub declared : slice_get process.actions number ≡ Some action

abbrev pub setting_of : Code → CodeAction → Part → List ℤ → Setting
setting_of code action which received = record { messages = code.messages; received = received; instrs = instrs_of which action }

abbrev pub opening_of : CodeAction → Part → List ℤ → Running → Moment
opening_of action which inputs r = opening inputs action.temporaries (instrs_of which action) r

-- From any values each part ends within its cost, or its choices fail before.
abbrev pub PartsEnd : Type 0
PartsEnd =
    (code : Code) (p : ℕ) (process : CodeProcess) (action : CodeAction) (which : Part) (received inputs : List ℤ) (r : Running) → IsPartOf code p process action
    → EndsWithin (setting_of code action which received) (cost (instrs_of which action)) (opening_of action which inputs r)
    (run (setting_of code action which received) (cost (instrs_of which action)) (opening_of action which inputs r))

-- ---- one instruction

-- A divisor is not 0.
abbrev pub DividesWell : Instr → Moment → Type 0
DividesWell (instr.Div r a b) m = slice_get m.registers b ≢ Some (pos 0)
DividesWell (instr.Mod r a b) m = slice_get m.registers b ≢ Some (pos 0)
DividesWell _ m = Unit {0}

-- The next moment fits again. There is none where the part has ended, or where a choice is refused, and for no other
-- reason: nothing that an instruction names is missing, no index is outside its run, no delay is too long.
abbrev pub GoesOn : Site → Setting → Moment → Option Moment → Type 0
GoesOn site e m (Some t) = FitsSite site t
GoesOn site e m None = (is_ended e m ≡ true) ⊎ ((i : Instr) × (slice_get e.instrs m.next ≡ Some i) × IsRefused i m)

-- Every register stays within its range, whatever is run, and nothing is divided by 0.
abbrev pub StepsFit : Type 0
StepsFit =
    (code : Code) (p : ℕ) (process : CodeProcess) (action : CodeAction) (which : Part) (received : List ℤ) (m : Moment) → IsPartOf code p process action
    → ReceivedFit (received_fields code action) received → FitsSite (site_of code p process action which) m
    → GoesOn (site_of code p process action which) (setting_of code action which received) m (step (setting_of code action which received) m)
    × ((i : Instr) → slice_get (instrs_of which action) m.next ≡ Some i → DividesWell i m)

-- ---- a whole body

-- what a body begins with and leaves: fitting cells and timers, and fitting sends
pub record FitsRunning (code : Code) (p : ℕ) (process : CodeProcess) (r : Running) : Type 0 where
  pub running : IsFitRunning (code_process code process) r
  pub sends : Each (IsFitSend (code_semantics code) p) r.sends

-- The run comes to a choice that is refused.
pub record IsRefusedAfter (e : Setting) (s : Moment) : Type 0 where
  pub ran : ℕ
  pub at : Moment
  pub leads : Leads e s ran at
  pub instr : Instr
  pub next : slice_get e.instrs at.next ≡ Some instr
  pub refused : IsRefused instr at

-- A body leaves what fits again, within its cost, its sends and its choices.
pub record Leaves (code : Code) (p : ℕ) (process : CodeProcess) (body : List Instr) (r : Running) (left : Running) (ran : ℕ) : Type 0 where
  pub fits : FitsRunning code p process left
  pub steps : ran ≤ cost body
  pub sends : length left.sends ≤ length r.sends + sends body
  pub choices : length r.choices ≤ length left.choices + choices body

abbrev pub BodyRuns : Code → ℕ → CodeProcess → CodeAction → Setting → Moment → Running → Option (Running × ℕ) → Type 0
BodyRuns code p process action e s r None = IsRefusedAfter e s
BodyRuns code p process action e s r (Some ran) = Leaves code p process action.body r ran.0 ran.1

-- From fitting values each body ends within its cost and keeps every cell in range, or comes to a choice that is refused.
abbrev pub BodiesRun : Type 0
BodiesRun =
    (code : Code) (p : ℕ) (process : CodeProcess) (action : CodeAction) (received inputs : List ℤ) (r : Running) → IsPartOf code p process action
    → ReceivedFit (received_fields code action) received → AreAllIn (input_ranges process) inputs → FitsRunning code p process r
    → BodyRuns code p process action (setting_of code action part.Body received) (opening_of action part.Body inputs r) r (code_run code.messages action inputs received r)

-- ---- steps and runs

-- A run of verified code is what its instructions lead to: an end, or a refusal.
abbrev pub RunsAreSteps : Type 0
RunsAreSteps =
    (code : Code) (p : ℕ) (process : CodeProcess) (action : CodeAction) (which : Part) (received inputs : List ℤ) (r : Running) → IsPartOf code p process action
    → ((t : Moment) (n : ℕ) → Leads (setting_of code action which received) (opening_of action which inputs r) n t → is_ended (setting_of code action which received) t ≡ true
    → run (setting_of code action which received) (cost (instrs_of which action)) (opening_of action which inputs r) ≡ Some (t, n))
    × (Fails (setting_of code action which received) (opening_of action which inputs r) → run (setting_of code action which received) (cost (instrs_of which action)) (opening_of action which inputs r) ≡ None)

-- What leads on leads together, and what leads to a refusal is one.
abbrev pub StepsJoin : Type 0
StepsJoin =
    (e : Setting) (s t u : Moment) (m n : ℕ) → Leads e s m t → (Leads e t n u → Leads e s (m + n) u) × (Fails e t → Fails e s)

-- ---- a guard

-- The code of a local guard takes no choice: from fitting values it ends within its cost, with 0 or 1 in its result.
pub record GuardRuns (code : Code) (process : CodeProcess) (action : CodeAction) (cells inputs : List ℤ) : Type 0 where
  pub end : Moment
  pub ran : ℕ
  pub run_is : run (setting_of code action part.Guard []) (cost action.guard) (opening_of action part.Guard inputs (guard_running process.timers cells)) ≡ Some (end, ran)
  pub few : ran ≤ cost action.guard
  pub value : ℤ
  pub result : slice_get end.registers action.result ≡ Some value
  pub truth : IsIn value truth_range

abbrev pub GuardsRun : Type 0
GuardsRun =
    (code : Code) (p : ℕ) (process : CodeProcess) (action : CodeAction) (cells inputs : List ℤ) → IsPartOf code p process action → action.kind ≡ kind.Local
    → AreAllIn (cell_ranges process) cells → AreAllIn (input_ranges process) inputs → GuardRuns code process action cells inputs
