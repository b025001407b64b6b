-- In a fitting state a generator draws the choices of an enabled action.
use Rattle.std.proofs.Common.{◌≡◌, ◌∙◌, ℕ, ℤ, true, List, [], ◌++◌, length, refl, ap, sym, slice_get, Option, Some, None}
use Rattle.std.specs.Prelude.{is_some}
use Rattle.std.specs.Option.{option_map}
use Rattle.std.proofs.lemmas.Option.{slice_get-map}
use Rattle.rand_pcg.specs.Lcg.{Lcg}
use Rattle.tap_base.specs.declared.system.Action.{Action}
use Rattle.tap_base.specs.declared.system.Guard.{Guard}
use Rattle.tap_base.specs.declared.system.Guard.TheVariants as guard
use Rattle.tap_base.specs.declared.system.Process.{Process}
use Rattle.tap_base.specs.declared.system.System.{System}
use Rattle.tap_base.specs.Lists.{Each}
use Rattle.tap_base.specs.Option.{◌>>=◌, is_yes, provided}
use Rattle.tap_base.specs.Resolved.{IsResolved}
use Rattle.tap_exec.specs.declared.running.Running.{Running as Open}
use Rattle.tap_exec.specs.declared.running.TimerState.{TimerState}
use Rattle.tap_exec.specs.Computed.{computed}
use Rattle.tap_exec.specs.Execution.{is_empty}
use Rattle.tap_exec.specs.Running.{Running}
use Rattle.tap_exec.specs.Semantics.{ActionSemantics, ProcessSemantics, Semantics, action_at, action_semantics, guard_semantics, messages_of, process_semantics, semantics_of}
use Rattle.tap_exec.specs.Sourced.{exec_all}
use Rattle.tap_exec.proofs.Quiet.{with_choices}
use Rattle.abstract_run.specs.declared.label.Label.TheVariants as label
use Rattle.abstract_run.specs.declared.state.State.{State}
use Rattle.abstract_run.specs.Enabled.{is_enabled, is_ready}
use Rattle.abstract_run.specs.Fits.{Fits}
use Rattle.abstract_run.specs.inner.ByChoices.{acted_in, body_by, stands_at}
use Rattle.abstract_run.specs.inner.ComputedSemantics.{computed_action, computed_guard, computed_process, computed_semantics}
use Rattle.abstract_run.specs.Progress.{HasRoom, IsPossible, leads_to}
use Rattle.abstract_run.specs.Safe.{IsFitRunning}
use Rattle.abstract_run.specs.Step.{After, body_run, finished, is_live, received, step, timers_at}
use Rattle.abstract_run.proofs.Acted.{acted_is}
use Rattle.abstract_run.proofs.Begins.{Begins, begins, body_run_is, start}
use Rattle.abstract_run.proofs.ByChoices.{body_by_is, start_by}
use Rattle.abstract_run.proofs.GoesOn.{actions_go_on}
use Rattle.abstract_run.proofs.SameSteps.{same_enabled}
use Rattle.sound_bodies.specs.Bodies.{IsSoundSystem}
use Rattle.sound_bodies.specs.Judged.{IsJudgedSystem}
use Rattle.sound_bodies.proofs.SoundSystem.{bodies_sound}
use Rattle.drawn_choices.specs.declared.drawing.Drawing.{Drawing}
use Rattle.drawn_choices.specs.Drawing.{drawing, drawing_from, may_end}
use Rattle.drawn_choices.specs.Draws.{after_words, word_from}
use Rattle.exact_choice.specs.Acting.{ActsDrawn}
use Rattle.drawn_bodies.specs.Acting.{ActionsAreDrawn}
use Rattle.drawn_bodies.proofs.AllDrawn.{one_grows}
use Rattle.drawn_bodies.proofs.Grown.{Grows}
use Rattle.drawn_bodies.proofs.Trees.{WalksDrawn, drawn_as, gives_drawing, leads, walk, walks_drawn, with_source}

-- ---- the action, as the system has it and as it says it

record Stands (system : System) (p a : ℕ) : Type 0 where
  process : Process
  action : Action
  there : slice_get system.processes p ≡ Some process
  is : slice_get process.actions a ≡ Some action

said_process : (system : System) (p : ℕ) (process : Process) → slice_get system.processes p ≡ Some process → slice_get (semantics_of system).processes p ≡ Some (process_semantics (messages_of system) process)
said_process system p process h = slice_get-map (process_semantics (messages_of system)) system.processes p ∙ ap (option_map (process_semantics (messages_of system))) h

said_action : (system : System) (process : Process) (a : ℕ) (action : Action) → slice_get process.actions a ≡ Some action → slice_get (process_semantics (messages_of system) process).actions a ≡ Some (action_semantics (messages_of system) action)
said_action system process a action h = slice_get-map (action_semantics (messages_of system)) process.actions a ∙ ap (option_map (action_semantics (messages_of system))) h

said_at : (m : Semantics) (p a : ℕ) (process : ProcessSemantics) (action : ActionSemantics) → slice_get m.processes p ≡ Some process → slice_get process.actions a ≡ Some action → action_at m p a ≡ Some action
said_at m p a process action there is = ap (λ (o : Option ProcessSemantics). o >>= λ (q : ProcessSemantics). slice_get q.actions a) there ∙ is

stands_is : (system : System) (p a : ℕ) (process : Process) (action : Action) → slice_get system.processes p ≡ Some process → slice_get process.actions a ≡ Some action → stands_at system p a ≡ Some action
stands_is system p a process action there is = ap (λ (o : Option Process). o >>= λ (q : Process). slice_get q.actions a) there ∙ is

found_computed : (system : System) (p a : ℕ) (process : Process) (action : Action) → slice_get system.processes p ≡ Some process → slice_get process.actions a ≡ Some action
    → action_at (computed_semantics system) p a ≡ Some (computed_action (messages_of system) action)
found_computed system p a process action there is =
    said_at (computed_semantics system) p a (computed_process (messages_of system) process) (computed_action (messages_of system) action)
    (slice_get-map (computed_process (messages_of system)) system.processes p ∙ ap (option_map (computed_process (messages_of system))) there)
    (slice_get-map (computed_action (messages_of system)) process.actions a ∙ ap (option_map (computed_action (messages_of system))) is)

-- an action that is enabled stands in the system
enabled_stands : (system : System) (s : State) (p a : ℕ) → is_enabled (semantics_of system) s p a ≡ true → Stands system p a
enabled_stands system s p a enabled =
    by_process (slice_get system.processes p) refl (sym (ap (λ (o : Option ProcessSemantics). is_yes (option_map (is_ready s p) (o >>= λ (q : ProcessSemantics). slice_get q.actions a))) (slice_get-map says system.processes p)) ∙ enabled) where
      says : Process → ProcessSemantics
      says = process_semantics (messages_of system)

      tells : Action → ActionSemantics
      tells = action_semantics (messages_of system)

      by_action : (process : Process) (o : Option Action) → slice_get system.processes p ≡ Some process → slice_get process.actions a ≡ o → is_yes (option_map (is_ready s p) (option_map tells o)) ≡ true → Stands system p a
      by_action process None there is e = absurd cc
      by_action process (Some action) there is e = record { process = process; action = action; there = there; is = is }

      by_process : (o : Option Process) → slice_get system.processes p ≡ o → is_yes (option_map (is_ready s p) (option_map says o >>= λ (q : ProcessSemantics). slice_get q.actions a)) ≡ true → Stands system p a
      by_process None there e = absurd cc
      by_process (Some process) there e =
          by_action process (slice_get process.actions a) there refl (sym (ap (λ (o : Option ActionSemantics). is_yes (option_map (is_ready s p) o)) (slice_get-map tells process.actions a)) ∙ e)

-- ---- guards

same_finish : {C : Type 0} (s : State) (p : ℕ) (g : Guard) (r : Open C) → finished s p (computed_guard g) r ≡ finished s p (guard_semantics g) r
same_finish s p (guard.Local e) r = refl
same_finish s p (guard.Receive m q) r = refl
same_finish s p (guard.Timeout t) r = refl

same_received : (s : State) (p : ℕ) (g : Guard) → received s p (computed_guard g) ≡ received s p (guard_semantics g)
same_received s p (guard.Local e) = refl
same_received s p (guard.Receive m q) = refl
same_received s p (guard.Timeout t) = refl

same_timers : (g : Guard) (ts : List TimerState) → timers_at (computed_guard g) ts ≡ timers_at (guard_semantics g) ts
same_timers (guard.Local e) ts = refl
same_timers (guard.Receive m q) ts = refl
same_timers (guard.Timeout t) ts = refl

-- ---- one action

-- the step of a label, once its parts are known
step_finishes : (m : Semantics) (s : State) (p a : ℕ) (action : ActionSemantics) (choices : List ℤ) (r : Running) (after : After) → s.falling ≡ None → is_live s p ≡ true → action_at m p a ≡ Some action
    → is_ready s p action ≡ true → body_run s p action choices ≡ Some r → step m s (label.Act p a choices) ≡ Some after → finished s p action.guard r ≡ Some after
step_finishes m s p a action choices r after settled up is ready ran e =
    let acts = acted_is m s p a choices action is in
    let done : step m s (label.Act p a choices) ≡ finished s p action.guard r = rw (settled, acts, up, ready, ran) refl in
    sym done ∙ e

-- what code does, once its parts are known
acts_by : (system : System) (s : State) (p a : ℕ) (action : Action) (from to : Drawing) (r : Open Drawing) (after : After) → stands_at system p a ≡ Some action → is_live s p ≡ true
    → is_ready s p (computed_action (messages_of system) action) ≡ true → body_by drawing may_end (messages_of system) s p action from ≡ Some r → finished s p (computed_guard action.guard) r ≡ Some after → r.choices ≡ to
    → acted_in drawing may_end system s p a from ≡ Some (after, to)
acts_by system s p a action from to r after stands up ready ran done left = rw (stands, up, ready, ran, done, left) refl

module _ (system : System) (ok : IsResolved system) (right : IsJudgedSystem system) (s : State) (p a : ℕ) (g : Lcg) (fits : Fits (semantics_of system) s) (settled : s.falling ≡ None) (up : is_live s p ≡ true)
    (room : Each HasRoom s.channels) (enabled : is_enabled (semantics_of system) s p a ≡ true) where
  abbrev m : Semantics
  m = semantics_of system

  at : Stands system p a
  at = enabled_stands system s p a enabled

  abbrev own : ProcessSemantics
  own = process_semantics (messages_of system) at.process

  abbrev act : ActionSemantics
  act = action_semantics (messages_of system) at.action

  said : slice_get m.processes p ≡ Some own
  said = said_process system p at.process at.there

  is : action_at m p a ≡ Some act
  is = said_at m p a own act said (said_action system at.process a at.action at.is)

  ready : is_ready s p act ≡ true
  ready = sym (ap (λ (o : Option ActionSemantics). is_yes (option_map (is_ready s p) o)) is) ∙ enabled

  sound : IsSoundSystem system
  sound = bodies_sound system ok right

  found_ready : is_ready s p (computed_action (messages_of system) at.action) ≡ true
  found_ready =
      sym (ap (λ (o : Option ActionSemantics). is_yes (option_map (is_ready s p) o)) (found_computed system p a at.process at.action at.there at.is))
      ∙ same_enabled (computed_semantics system) m s p a sound.computes fits ∙ enabled

  b : Begins m s p own act []
  b = begins m s p own act [] fits said ready

  abbrev before : Running
  before = start b.at.cells (timers_at act.guard b.at.timers) []

  grows : Grows drawing gives_drawing (IsFitRunning own) (act.body b.at.inputs b.values) (exec_all computed (messages_of system) b.at.inputs b.values drawing at.action.body) before
  grows = one_grows system ok right p a at.process at.action at.there at.is b.at.inputs b.values before b.beginning

  w : WalksDrawn (IsFitRunning own) grows.tree g []
  w = walks_drawn (IsFitRunning own) grows.tree grows.good g []

  run_as : (cs : List ℤ) → body_run s p act cs ≡ (walk grows.tree cs >>= λ (r : Running). provided (is_empty r.choices) r)
  run_as cs =
      body_run_is s p act b.at.cells b.at.inputs b.values cs b.at.timers b.at.stored b.at.given b.at.timed b.heard
      ∙ ap (λ (o : Option Running). o >>= λ (r : Running). provided (is_empty r.choices) r) (grows.same cs)

  ran : body_run s p act w.choices ≡ Some (with_choices w.end [])
  ran = run_as w.choices ∙ ap (λ (o : Option Running). o >>= λ (r : Running). provided (is_empty r.choices) r) w.by_list

  led : (cs : List ℤ) → leads_to m s p a cs ≡ leads grows.tree cs
  led cs = ap (λ (o : Option ActionSemantics). is_some (o >>= λ (x : ActionSemantics). body_run s p x cs)) is ∙ ap is_some (run_as cs)

  ends_so : leads_to m s p a w.choices ≡ true
  ends_so = ap (λ (o : Option ActionSemantics). is_some (o >>= λ (x : ActionSemantics). body_run s p x w.choices)) is ∙ ap is_some ran

  goes : IsPossible m s (label.Act p a w.choices)
  goes = actions_go_on m s p a w.choices sound.keeps fits settled up room enabled ends_so

  abbrev after : After
  after = (goes.next, goes.sends)

  abbrev left : Drawing
  left = record { generator = after_words (length w.choices) g; taken = [] ++ w.choices }

  body_drawn : body_by drawing may_end (messages_of system) s p at.action (drawing_from g) ≡ Some (with_source w.end left)
  body_drawn =
      body_by_is drawing may_end (messages_of system) s p at.action b.at.cells b.at.inputs b.values (drawing_from g) b.at.timers b.at.stored b.at.given b.at.timed (same_received s p at.action.guard ∙ b.heard)
      ∙ ap (λ (ts : List TimerState). exec_all computed (messages_of system) b.at.inputs b.values drawing at.action.body (start_by b.at.cells ts (drawing_from g)) >>= λ (r : Open Drawing). provided (may_end r.choices) r) (same_timers at.action.guard b.at.timers)
      ∙ ap (λ (o : Option (Open Drawing)). o >>= λ (r : Open Drawing). provided (may_end r.choices) r) (grows.also (drawing_from g) ∙ w.by_draws)

  finishes : finished s p (computed_guard at.action.guard) (with_source w.end left) ≡ Some after
  finishes = same_finish s p at.action.guard (with_source w.end left) ∙ step_finishes m s p a act w.choices (with_choices w.end []) after settled up is ready ran goes.is

  pub acts_drawn : ActsDrawn system s p a g
  acts_drawn = record {
    choices = w.choices;
    leads = ends_so;
    drawn = drawn_as (leads_to m s p a) grows.tree (word_from g) 0 w.choices led w.drawn;
    after = after;
    steps = goes.is;
    acts = acts_by system s p a at.action (drawing_from g) left (with_source w.end left) after (stands_is system p a at.process at.action at.there at.is) up found_ready body_drawn finishes refl;
  }

pub actions_drawn : ActionsAreDrawn
actions_drawn system ok right s p a g fits settled up room enabled = acts_drawn system ok right s p a g fits settled up room enabled
