-- An action whose choices come from a source, by the values that 64-bit numbers compute.
use Rattle.std.specs.Prelude.{ℕ, ◌≡◌, ◌&&◌, Bool, if◌then◌else◌, List, [], option_and_then, slice_get, Option, Some, None, Result, Ok, Err}
use Rattle.tap_base.specs.declared.system.Action.{Action}
use Rattle.tap_base.specs.declared.system.System.{System}
use Rattle.tap_base.specs.declared.wire.WireField.{WireField}
use Rattle.tap_base.specs.Option.{◌>>=◌, provided}
use Rattle.tap_exec.specs.declared.running.Running.{Running}
use Rattle.tap_exec.specs.Computed.{computed}
use Rattle.tap_exec.specs.Semantics.{messages_of}
use Rattle.tap_exec.specs.Sourced.{Source, exec_all}
use Rattle.abstract_run.specs.declared.acts.Performed.{Performed}
use Rattle.abstract_run.specs.declared.state.State.{State}
use Rattle.abstract_run.specs.declared.state.StepFault.{StepFault}
use Rattle.abstract_run.specs.declared.state.StepFault.TheVariants as fault
use Rattle.abstract_run.specs.inner.ComputedSemantics.{computed_action, computed_guard}
use Rattle.abstract_run.specs.Enabled.{is_ready}
use Rattle.abstract_run.specs.Step.{After, finished, is_live, received, timers_at}

-- the action numbered a, as the system has it
abbrev pub stands_at : System → ℕ → ℕ → Option Action
stands_at system p a = option_and_then (λ process. slice_get process.actions a) (slice_get system.processes p)

module _ {C : Type 0} (source : Source C) (spent : C → Bool) where
  -- what the body of an action leaves, where it may end there
  abbrev pub body_by : List (List WireField) → State → ℕ → Action → C → Option (Running C)
  body_by messages s p action choices = do
    cells ← slice_get s.stores p
    inputs ← slice_get s.inputs.of p
    timers ← slice_get s.timers p
    values ← received s p (computed_guard action.guard)
    r ← exec_all computed messages inputs values source action.body (record { cells = cells; timers = timers_at (computed_guard action.guard) timers; sends = []; choices = choices })
    provided (spent r.choices) r

  -- what an action does whose guard holds, and what is left of the source
  abbrev pub performed_by : List (List WireField) → State → ℕ → Action → C → Option (After × C)
  performed_by messages s p action choices = do
    r ← body_by messages s p action choices
    after ← finished s p (computed_guard action.guard) r
    Some (after, r.choices)

  -- the same where it is enabled and its process is not down
  abbrev pub acted_by : List (List WireField) → State → ℕ → Action → C → Option (After × C)
  acted_by messages s p action choices = if is_live s p && is_ready s p (computed_action messages action) then performed_by messages s p action choices else None

  -- the same of the action of p numbered a
  abbrev pub acted_in : System → State → ℕ → ℕ → C → Option (After × C)
  acted_in system s p a choices = stands_at system p a >>= λ action. acted_by (messages_of system) s p action choices

-- An action does what is expected. What is not possible, and want of memory, leave the state as it was.
abbrev pub Acts : {C : Type 0} → Option (After × C) → State → Result (Performed C) StepFault → State → Type 0
Acts expected old (Ok acted) new = expected ≡ Some ((new, acted.sends), acted.choices)
Acts expected old (Err fault.NotEnabled) new = (expected ≡ None) × (new ≡ old)
Acts expected old (Err fault.NoMemory) new = new ≡ old
