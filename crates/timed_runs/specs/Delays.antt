-- No timeout before its delay: from the action that arms a timer, over the reading that dates it, to its timeout.
use Rattle.std.specs.Prelude.{ℕ, ◌+◌, ◌^◌, ◌<◌, ◌≤◌, min, ℤ, ◌≡◌, List, take, slice_get, Option, Some}
use Rattle.tap_base.specs.declared.system.Inputs.{Inputs}
use Rattle.tap_base.specs.declared.system.System.{System}
use Rattle.abstract_run.specs.declared.label.Label.{Label}
use Rattle.abstract_run.specs.declared.label.Label.TheVariants as label
use Rattle.tap_exec.specs.Running.{Running}
use Rattle.abstract_run.specs.declared.state.State.{State}
use Rattle.tap_exec.specs.declared.running.TimerState.{TimerState}
use Rattle.tap_exec.specs.declared.running.TimerState.TheVariants as timer
use Rattle.tap_exec.specs.Semantics.{Semantics, ActionSemantics, action_at, semantics_of, timeout}
use Rattle.tap_base.specs.Option.{◌>>=◌}
use Rattle.abstract_run.specs.Run.{state_after}
use Rattle.abstract_run.specs.Opening.{opening_state}

-- ---- bodies

-- every timer that is due in the later list was due in the earlier one, at the same time
abbrev pub NoneIsMadeDue : List TimerState → List TimerState → Type 0
NoneIsMadeDue earlier later = (t at : ℕ) → slice_get later t ≡ Some (timer.Due at) → slice_get earlier t ≡ Some (timer.Due at)

-- No body makes a timer due: it turns timers off, arms them, and leaves them.
abbrev pub BodiesMakeNoneDue : Semantics → Type 0
BodiesMakeNoneDue semantics = (p a : ℕ) (action : ActionSemantics) → action_at semantics p a ≡ Some action
    → (inputs received : List ℤ) (r after : Running) → action.body inputs received r ≡ Some after → NoneIsMadeDue r.timers after.timers

-- ---- what stands at a place of a run

-- the timer t of p
abbrev pub timer_of : ℕ → ℕ → State → Option TimerState
timer_of p t s = slice_get s.timers p >>= λ timers. slice_get timers t

-- Labels from a state, a process and a timer of it.
module _ (semantics : Semantics) (s : State) (labels : List Label) (p t : ℕ) where
  -- the timer, as the label at the place k comes
  abbrev pub timer_before : ℕ → Option TimerState
  timer_before k = state_after semantics s (take k labels) >>= timer_of p t

  -- an action of p at the place i, after which the timer is armed
  pub record LeavesArmed (i delay : ℕ) : Type 0 where
    pub number : ℕ
    pub choices : List ℤ
    pub stands : slice_get labels i ≡ Some (label.Act p number choices)
    pub armed : timer_before (i + 1) ≡ Some (timer.Armed delay)

  -- a reading of p
  abbrev pub IsReading : ℕ → ℕ → Type 0
  IsReading j c = slice_get labels j ≡ Some (label.Tick p c)

  -- an action of p at the place k whose guard is the timeout of the timer
  pub record IsTimeout (k : ℕ) : Type 0 where
    pub number : ℕ
    pub choices : List ℤ
    pub stands : slice_get labels k ≡ Some (label.Act p number choices)
    pub action : ActionSemantics
    pub there : action_at semantics p number ≡ Some action
    pub guard : action.guard ≡ timeout t

  -- The timer kept its delay before the place k.
  pub record KeepsDelay (k : ℕ) : Type 0 where
    -- the last action before k that leaves the timer armed
    pub i : ℕ
    pub delay : ℕ
    pub armed : LeavesArmed i delay
    pub armed_before : i < k
    pub last : (h d : ℕ) → i < h → h < k → ¬ LeavesArmed h d
    -- the first reading after it, which comes before k
    pub j : ℕ
    pub reading : ℕ
    pub read : IsReading j reading
    pub read_after : i < j
    pub read_before : j < k
    pub first : (h c : ℕ) → i < h → h < j → ¬ IsReading h c
    -- from there up to k the timer is due at one and the same time
    pub due : ℕ
    pub stays : (h : ℕ) → j < h → h ≤ k → timer_before h ≡ Some (timer.Due due)
    -- a reading from there up to k by which the delay has passed
    pub m : ℕ
    pub later : ℕ
    pub read_again : IsReading m later
    pub from_there : j ≤ m
    pub up_to : m < k
    pub passed : min reading (2 ^ 62) + delay ≤ min later (2 ^ 62)

-- Where no body makes a timer due, each timeout of a run keeps its delay.
abbrev pub KeepsDelays : Semantics → Type 0
KeepsDelays semantics = (inputs : Inputs) (labels : List Label) (last : State) → state_after semantics (opening_state semantics inputs) labels ≡ Some last
    → (p t k : ℕ) → IsTimeout semantics (opening_state semantics inputs) labels p t k → KeepsDelay semantics (opening_state semantics inputs) labels p t k

abbrev pub DelayLaw : Type 0
DelayLaw = (semantics : Semantics) → BodiesMakeNoneDue semantics → KeepsDelays semantics

-- No body of a system makes a timer due, so each timeout of its runs keeps its delay.
abbrev pub SystemsKeepDelays : Type 0
SystemsKeepDelays = (system : System) → KeepsDelays (semantics_of system)
