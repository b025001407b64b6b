-- What the body of an action leaves with choices from a source, by what is found in a state.
use Rattle.std.proofs.Common.{◌≡◌, ℕ, ℤ, Bool, List, [], refl, slice_get, Some}
use Rattle.tap_base.specs.declared.system.Action.{Action}
use Rattle.tap_base.specs.declared.wire.WireField.{WireField}
use Rattle.tap_base.specs.Option.{◌>>=◌, provided}
use Rattle.tap_exec.specs.Computed.{computed}
use Rattle.tap_exec.specs.declared.running.Running.{Running}
use Rattle.tap_exec.specs.declared.running.TimerState.{TimerState}
use Rattle.tap_exec.specs.Sourced.{Source, exec_all}
use Rattle.abstract_run.specs.declared.state.State.{State}
use Rattle.abstract_run.specs.inner.ByChoices.{body_by}
use Rattle.abstract_run.specs.inner.ComputedSemantics.{computed_guard}
use Rattle.abstract_run.specs.Step.{received, timers_at}

abbrev pub start_by : {C : Type 0} → List ℤ → List TimerState → C → Running C
start_by cells timers choices = record { cells = cells; timers = timers; sends = []; choices = choices }

pub body_by_is : {C : Type 0} (source : Source C) (spent : C → Bool) (messages : List (List WireField)) (s : State) (p : ℕ) (action : Action) (cells inputs values : List ℤ) (choices : C) (timers : List TimerState)
    → slice_get s.stores p ≡ Some cells → slice_get s.inputs.of p ≡ Some inputs → slice_get s.timers p ≡ Some timers → received s p (computed_guard action.guard) ≡ Some values
    → body_by source spent messages s p action choices
    ≡ (exec_all computed messages inputs values source action.body (start_by cells (timers_at (computed_guard action.guard) timers) choices) >>= λ r. provided (spent r.choices) r)
body_by_is source spent messages s p action cells inputs values choices timers stored given timed heard = rw (stored, given, timed, heard) refl
