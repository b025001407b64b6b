-- The choices of each body of a system that is judged right can be drawn.
use Rattle.std.proofs.Common.{◌≡◌, ℕ, ℤ, List, ap, slice_get, Option, Some}
use Rattle.tap_base.specs.declared.system.Action.{Action}
use Rattle.tap_base.specs.declared.system.Process.{Process}
use Rattle.tap_base.specs.declared.system.System.{System}
use Rattle.tap_base.specs.Resolved.{IsResolved, IsResolvedProcess}
use Rattle.tap_base.proofs.ListFacts.{numbered_at}
use Rattle.tap_exec.specs.Computed.{computed}
use Rattle.tap_exec.specs.Running.{Running}
use Rattle.tap_exec.specs.Sourced.{Doing, exec_all}
use Rattle.abstract_run.specs.Safe.{IsBeginning, IsFitRunning}
use Rattle.tap_exec.specs.Semantics.{action_semantics, messages_of, process_semantics, semantics_of}
use Rattle.sound_bodies.specs.Judged.{IsJudgedSystem}
use Rattle.sound_bodies.proofs.SoundSystem.{computed_deeds, deeds, each_action, ranges_ordered}
use Rattle.drawn_choices.specs.declared.drawing.Drawing.{Drawing}
use Rattle.drawn_choices.specs.Drawing.{drawing}
use Rattle.drawn_bodies.specs.Drawn.{BodiesAreDrawn, CanBeDrawn, leads_from}
use Rattle.drawn_bodies.proofs.Grown.{Grows}
use Rattle.drawn_bodies.proofs.Statements.{body_grows}
use Rattle.drawn_bodies.proofs.Trees.{can_be_drawn, gives_drawing, whole}

-- a body that grows a tree can be drawn
grown_drawn : (Fit : Running → Type 0) (body : Doing (List ℤ)) (also : Doing Drawing) (r : Running) → Grows drawing gives_drawing Fit body also r → CanBeDrawn (leads_from body r)
grown_drawn Fit body also r h = can_be_drawn Fit (leads_from body r) h.tree h.good (λ cs. ap whole (h.same cs))

module _ (system : System) (ok : IsResolved system) (right : IsJudgedSystem system) (p a : ℕ) (process : Process) (action : Action)
    (there : slice_get system.processes p ≡ Some process) (is : slice_get process.actions a ≡ Some action)
    (inputs received : List ℤ) (r : Running)
    (begin : IsBeginning (semantics_of system) (process_semantics (messages_of system) process) (action_semantics (messages_of system) action) inputs received r) where
  -- what its body does by value, and what code does that takes its choices from a generator
  pub one_grows : Grows drawing gives_drawing (IsFitRunning (process_semantics (messages_of system) process)) ((action_semantics (messages_of system) action).body inputs received)
      (exec_all computed (messages_of system) inputs received drawing action.body) r
  one_grows =
      let vars = (numbered_at (IsResolvedProcess system) system.processes p process ok.processes there).vars in
      body_grows drawing gives_drawing (semantics_of system) p (process_semantics (messages_of system) process) computed inputs received (ranges_ordered process.vars vars) action.body
      (deeds system ok right p a process action there is inputs received r begin, computed_deeds system ok right p a process action there is inputs received r begin) r begin.running

  one_drawn : CanBeDrawn (leads_from ((action_semantics (messages_of system) action).body inputs received) r)
  one_drawn =
      grown_drawn (IsFitRunning (process_semantics (messages_of system) process)) ((action_semantics (messages_of system) action).body inputs received)
      (exec_all computed (messages_of system) inputs received drawing action.body) r one_grows

pub all_drawn : BodiesAreDrawn
all_drawn system p a process action ok right there is inputs received r begin =
    each_action system
    (λ p process action. (inputs received : List ℤ) (r : Running) → IsBeginning (semantics_of system) process action inputs received r → CanBeDrawn (leads_from (action.body inputs received) r))
    (λ p a process action there is inputs received r begin. one_drawn system ok right p a process action there is inputs received r begin)
    p a process action there is inputs received r begin
