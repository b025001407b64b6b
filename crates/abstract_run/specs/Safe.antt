-- What the calls ask of a system, by what it does: it begins within its ranges, its bodies keep them, and 64-bit numbers
-- compute it.
use Rattle.std.specs.Prelude.{◌≡◌, ℕ, ◌≤◌, ◌++◌, ℤ, Bool, List, length, slice_get, Some}
use Rattle.tap_base.specs.declared.system.System.{System}
use Rattle.tap_base.specs.declared.system.Var.{Var}
use Rattle.tap_base.specs.Interval.{IsIn}
use Rattle.tap_base.specs.Lists.{Each, EachBoth}
use Rattle.tap_base.specs.Ranges.{AreAllIn, ranges_of}
use Rattle.tap_base.specs.Resolved.{IsMessage}
use Rattle.tap_exec.specs.Running.{Running}
use Rattle.tap_exec.specs.declared.running.Outgoing.{Outgoing}
use Rattle.tap_exec.specs.Front.{TakesFromFront}
use Rattle.abstract_run.specs.declared.label.Label.{Label}
use Rattle.abstract_run.specs.declared.state.State.{State}
use Rattle.abstract_run.specs.inner.ComputedSemantics.{computed_semantics}
use Rattle.abstract_run.specs.Fits.{Fits, IsFitTimer}
use Rattle.byte_meaning.specs.Messages.{AreReceived, IsFitSend, most_sends}
use Rattle.tap_exec.specs.Semantics.{Semantics, ProcessSemantics, ActionSemantics, GuardSemantics, local, receive, timeout, input_ranges, semantics_of}
use Rattle.abstract_run.specs.Step.{step}

-- ---- it begins within its ranges

-- how many processes a system has at most
abbrev pub most_processes : ℕ
most_processes = 64

-- how many variables a process has at most
abbrev pub most_vars : ℕ
most_vars = 4096

-- At most 64 processes, each with at most 4,096 variables, and each variable begins within its range.
pub record BeginsInRange (semantics : Semantics) : Type 0 where
  pub few : length semantics.processes ≤ most_processes
  pub few_vars : Each (λ p. length p.vars ≤ most_vars) semantics.processes
  pub initials : Each (λ p. Each (λ (v : Var). IsIn v.initial v.range) p.vars) semantics.processes

-- ---- bodies keep ranges

-- the cells are within the ranges of the variables, and there is a fitting timer for each that is declared
pub record IsFitRunning (process : ProcessSemantics) (r : Running) : Type 0 where
  pub cells : AreAllIn (ranges_of process.vars) r.cells
  pub counted : length r.timers ≡ process.timers
  pub timers : Each IsFitTimer r.timers

-- what a body begins with: fitting cells and timers, inputs within their ranges, and what its guard receives
pub record IsBeginning (semantics : Semantics) (process : ProcessSemantics) (action : ActionSemantics) (inputs received : List ℤ) (r : Running) : Type 0 where
  pub running : IsFitRunning process r
  pub given : AreAllIn (input_ranges process) inputs
  pub heard : AreReceived semantics.messages action.guard received

-- From one to the other cells and timers still fit, and at most 64 fitting sends of p have come behind those before.
pub record Leads (semantics : Semantics) (p : ℕ) (process : ProcessSemantics) (before after : Running) : Type 0 where
  pub running : IsFitRunning process after
  pub sends : List Outgoing
  pub sent : after.sends ≡ before.sends ++ sends
  pub few : length sends ≤ most_sends
  pub fitting : Each (IsFitSend semantics p) sends

-- what holds of a body of p that comes to its end
pub record KeepsRange (semantics : Semantics) (p : ℕ) (process : ProcessSemantics) (action : ActionSemantics) (inputs received : List ℤ) (before after : Running) : Type 0 where
  pub leads : Leads semantics p process before after
  pub takes : TakesFromFront (action.body inputs received) before after

-- Each body that comes to its end, whatever it fittingly begins with and whichever choices it takes, keeps cells and
-- timers within their ranges, sends at most 64 fitting messages to others that receive them, and takes its choices from
-- the front.
abbrev pub BodiesKeepRanges : Semantics → Type 0
BodiesKeepRanges semantics =
    (p a : ℕ) (process : ProcessSemantics) (action : ActionSemantics) → slice_get semantics.processes p ≡ Some process → slice_get process.actions a ≡ Some action
    → (inputs received : List ℤ) (before after : Running) → IsBeginning semantics process action inputs received before
    → action.body inputs received before ≡ Some after → KeepsRange semantics p process action inputs received before after

-- ---- two that agree

-- guards of one kind; two tests hold of the same fitting cells and inputs
pub data SameGuard (process : ProcessSemantics) : GuardSemantics → GuardSemantics → Type 0 where
  tests : {f g : List ℤ → List ℤ → Bool} → ((cells inputs : List ℤ) → AreAllIn (ranges_of process.vars) cells → AreAllIn (input_ranges process) inputs → f cells inputs ≡ g cells inputs)
      → SameGuard process (local f) (local g)
  receives : {m q : ℕ} → SameGuard process (receive m q) (receive m q)
  timeouts : {t : ℕ} → SameGuard process (timeout t) (timeout t)

-- the same guard, and bodies that do the same, whatever they fittingly begin with
pub record SameAction (semantics : Semantics) (process : ProcessSemantics) (one other : ActionSemantics) : Type 0 where
  pub guard : SameGuard process one.guard other.guard
  pub body : (inputs received : List ℤ) (r : Running) → IsBeginning semantics process other inputs received r → one.body inputs received r ≡ other.body inputs received r

pub record SameProcess (semantics : Semantics) (one other : ProcessSemantics) : Type 0 where
  pub name : one.name ≡ other.name
  pub inputs : one.inputs ≡ other.inputs
  pub vars : one.vars ≡ other.vars
  pub timers : one.timers ≡ other.timers
  pub counted : length one.actions ≡ length other.actions
  pub actions : EachBoth (SameAction semantics other) one.actions other.actions

-- Two records say the same: their declarations are the same, and so are their guards and bodies wherever all fits.
pub record Agrees (one other : Semantics) : Type 0 where
  pub messages : one.messages ≡ other.messages
  pub counted : length one.processes ≡ length other.processes
  pub processes : EachBoth (SameProcess other) one.processes other.processes

-- Two that agree have the same steps from each fitting state.
abbrev pub SameSteps : Type 0
SameSteps = (one other : Semantics) (s : State) (l : Label) → Agrees one other → Fits other s → step one s l ≡ step other s l

-- ---- what is asked of a system

-- the 64-bit evaluation and the value without bound agree
abbrev pub IsComputed : System → Type 0
IsComputed system = Agrees (computed_semantics system) (semantics_of system)

-- Its messages are declared well, variables begin within their ranges and bodies keep them, and 64-bit numbers compute
-- what it says.
pub record IsSafe (system : System) : Type 0 where
  pub messages : Each IsMessage system.messages
  pub begins : BeginsInRange (semantics_of system)
  pub keeps : BodiesKeepRanges (semantics_of system)
  pub computed : IsComputed system
