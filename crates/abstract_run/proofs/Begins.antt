-- What a fitting state has for a process, and what the body of a ready action begins with there.
use Rattle.std.proofs.Common.{◌≡◌, ◌==◌, ℕ, ℤ, Bool, true, List, [], length, refl, ap, sym, subst, ◌∙◌, slice_get, Option, Some, None}
use Rattle.std.specs.Option.{option_map}
use Rattle.std.proofs.lemmas.Bool.{eqb-true}
use Rattle.std.proofs.lemmas.List.{length-map, length-set}
use Rattle.tap_base.specs.Lists.{Each}
use Rattle.tap_base.specs.Option.{◌>>=◌, is_yes, provided}
use Rattle.tap_base.specs.Ranges.{AreAllIn, AreIn, ranges_of}
use Rattle.tap_base.proofs.ListFacts.{both_at, each_at, each_set, element_beside, element_alike}
use Rattle.tap_exec.specs.Running.{Running}
use Rattle.tap_exec.specs.declared.running.TimerState.{TimerState}
use Rattle.tap_exec.specs.declared.running.TimerState.TheVariants as timer
use Rattle.byte_meaning.specs.declared.cell.Cell.{Cell}
use Rattle.byte_meaning.specs.declared.cell.Cell.TheVariants as cell
use Rattle.abstract_run.specs.declared.state.Channel.{Channel}
use Rattle.abstract_run.specs.declared.state.State.{State}
use Rattle.abstract_run.specs.Channels.{is_message, waiting}
use Rattle.abstract_run.specs.Enabled.{guard_holds, is_ready}
use Rattle.abstract_run.specs.Fits.{Fits, IsFitCell, IsFitTimer}
use Rattle.byte_meaning.specs.Messages.{AreReceived, AreValuesOf}
use Rattle.abstract_run.specs.Safe.{IsBeginning, IsFitRunning}
use Rattle.tap_exec.specs.Semantics.{ActionSemantics, GuardSemantics, InputSemantics, ProcessSemantics, Semantics, input_ranges, local, receive, timeout}
use Rattle.tap_exec.specs.Execution.{is_empty}
use Rattle.abstract_run.specs.Step.{body_run, channels_at, received, timers_at}
use Rattle.abstract_run.proofs.Found.{waiting_cell}
use Rattle.abstract_run.proofs.Taken.{can_take}

-- ---- one process

pub record Here (semantics : Semantics) (s : State) (p : ℕ) (process : ProcessSemantics) : Type 0 where
  pub cells : List ℤ
  pub stored : slice_get s.stores p ≡ Some cells
  pub cells_fit : AreAllIn (ranges_of process.vars) cells
  pub inputs : List ℤ
  pub given : slice_get s.inputs.of p ≡ Some inputs
  pub inputs_fit : AreAllIn (input_ranges process) inputs
  pub timers : List TimerState
  pub timed : slice_get s.timers p ≡ Some timers
  pub counted : length timers ≡ process.timers
  pub timers_fit : Each IsFitTimer timers
  pub time : ℕ
  pub read : slice_get s.times p ≡ Some time
  pub cut : Option ℕ
  pub declared : slice_get s.cuts p ≡ Some cut

pub here : (semantics : Semantics) (s : State) (p : ℕ) (process : ProcessSemantics) → Fits semantics s → slice_get semantics.processes p ≡ Some process → Here semantics s p process
here semantics s p process fits is =
    let ps = semantics.processes in
    let stores = element_alike length (λ (q : ProcessSemantics). length (ranges_of q.vars)) s.stores ps p process fits.entries.stores is in
    let inputs = element_alike length (λ (q : ProcessSemantics). length q.inputs) s.inputs.of ps p process fits.entries.inputs is in
    let timers = element_alike length (λ (q : ProcessSemantics). q.timers) s.timers ps p process fits.entries.timers is in
    let times = element_beside s.times ps p process fits.entries.times is in
    let cuts = element_beside s.cuts ps p process fits.entries.cuts is in
    record {
      cells = stores.0;
      stored = stores.1;
      cells_fit = record {
        counted = stores.2;
        within = both_at (λ (q : ProcessSemantics) (values : List ℤ). AreIn (ranges_of q.vars) values) ps s.stores p process stores.0 fits.values.stores is stores.1;
      };
      inputs = inputs.0;
      given = inputs.1;
      inputs_fit = record {
        counted = inputs.2 ∙ sym (length-map process.inputs (λ (i : InputSemantics). i.range));
        within = both_at (λ (q : ProcessSemantics) (values : List ℤ). AreIn (input_ranges q) values) ps s.inputs.of p process inputs.0 fits.values.inputs is inputs.1;
      };
      timers = timers.0;
      timed = timers.1;
      counted = timers.2;
      timers_fit = each_at (λ (ts : List TimerState). Each IsFitTimer ts) s.timers p timers.0 fits.times.timers timers.1;
      time = times.0;
      read = times.1;
      cut = cuts.0;
      declared = cuts.1;
    }

-- ---- a guard that holds

-- the values that a guard receives, and the channels without their message
record Hears (semantics : Semantics) (s : State) (p : ℕ) (g : GuardSemantics) : Type 0 where
  values : List ℤ
  heard : received s p g ≡ Some values
  fitting : AreReceived semantics.messages g values
  taken : List Channel
  took : channels_at p g s.channels ≡ Some taken

hears : (semantics : Semantics) (s : State) (p : ℕ) (g : GuardSemantics) → Fits semantics s → guard_holds s p g ≡ Some true → Hears semantics s p g
hears semantics s p (local test) fits h = record { values = []; heard = refl; fitting = refl; taken = s.channels; took = refl }
hears semantics s p (timeout t) fits h = record { values = []; heard = refl; fitting = refl; taken = s.channels; took = refl }
hears semantics s p (receive m q) fits h = by_cell (waiting s.channels q p) refl h where
  by_cell : (o : Option Cell) → waiting s.channels q p ≡ o → option_map (is_message m) o ≡ Some true → Hears semantics s p (receive m q)
  by_cell None is e = cc
  by_cell (Some cell.Error) is e = cc
  by_cell (Some (cell.Msg k values)) is e =
      let test : (k == m) ≡ true = cc in
      let w = waiting_cell (λ c x. IsFitCell semantics c.from c.to x) q p s.channels (cell.Msg k values) fits.cells is in
      let take = can_take q p s.channels (cell.Msg k values) is in
      record {
        values = values;
        heard = rw is refl;
        fitting = subst (λ n. AreValuesOf semantics.messages n values) (eqb-true k m test) w.2.fitting;
        taken = take.0;
        took = take.1;
      }

holds : (o : Option Bool) → is_yes o ≡ true → o ≡ Some true
holds None h = cc
holds (Some b) h = ap Some h

-- ---- the body of a ready action

abbrev pub start : List ℤ → List TimerState → List ℤ → Running
start cells timers choices = record { cells = cells; timers = timers; sends = []; choices = choices }

-- the timer of a timeout is off, which fits
timers_begin : (process : ProcessSemantics) (g : GuardSemantics) (cells choices : List ℤ) (timers : List TimerState) → AreAllIn (ranges_of process.vars) cells → length timers ≡ process.timers
    → Each IsFitTimer timers → IsFitRunning process (start cells (timers_at g timers) choices)
timers_begin process (local test) cells choices timers within counted fit = record { cells = within; counted = counted; timers = fit }
timers_begin process (receive m q) cells choices timers within counted fit = record { cells = within; counted = counted; timers = fit }
timers_begin process (timeout t) cells choices timers within counted fit =
    record { cells = within; counted = length-set timers t timer.Off ∙ counted; timers = each_set IsFitTimer timers t timer.Off fit tt }

pub record Begins (semantics : Semantics) (s : State) (p : ℕ) (process : ProcessSemantics) (action : ActionSemantics) (choices : List ℤ) : Type 0 where
  pub at : Here semantics s p process
  pub values : List ℤ
  pub heard : received s p action.guard ≡ Some values
  pub taken : List Channel
  pub took : channels_at p action.guard s.channels ≡ Some taken
  pub beginning : IsBeginning semantics process action at.inputs values (start at.cells (timers_at action.guard at.timers) choices)

pub begins : (semantics : Semantics) (s : State) (p : ℕ) (process : ProcessSemantics) (action : ActionSemantics) (choices : List ℤ) → Fits semantics s
    → slice_get semantics.processes p ≡ Some process → is_ready s p action ≡ true → Begins semantics s p process action choices
begins semantics s p process action choices fits is ready =
    let at = here semantics s p process fits is in
    let h = hears semantics s p action.guard fits (holds (guard_holds s p action.guard) ready) in
    record {
      at = at;
      values = h.values;
      heard = h.heard;
      taken = h.taken;
      took = h.took;
      beginning = record { running = timers_begin process action.guard at.cells choices at.timers at.cells_fit at.counted at.timers_fit; given = at.inputs_fit; heard = h.fitting };
    }

-- the body runs from what it begins with, and takes exactly these choices
pub body_run_is : (s : State) (p : ℕ) (action : ActionSemantics) (cells inputs values choices : List ℤ) (timers : List TimerState) → slice_get s.stores p ≡ Some cells
    → slice_get s.inputs.of p ≡ Some inputs → slice_get s.timers p ≡ Some timers → received s p action.guard ≡ Some values
    → body_run s p action choices ≡ (action.body inputs values (start cells (timers_at action.guard timers) choices) >>= λ r. provided (is_empty r.choices) r)
body_run_is s p action cells inputs values choices timers stored given timed heard = rw (stored, given, timed, heard) refl
