use Rattle.std.proofs.Common.{◌≡◌, ◌<◌, ◌∙◌, ◌^◌, ℕ, Option, length, ap, subst, arith}
use Rattle.std.proofs.lemmas.List.{length-map}
use Rattle.tap_exec.specs.Semantics.{messages_of, process_semantics}
use Rattle.abstract_run.specs.declared.label.Label.TheVariants as label
use Rattle.abstract_run.specs.Answers.{flood, idle}
use Rattle.abstract_run.specs.declared.state.State.{State}
use Rattle.abstract_run.specs.Step.{is_live}
use Rattle.world_run.specs.inner.Serving.{Chose, said_by}
use Rattle.world_run.proofs.Turns.{Behind, act_course, act_ended, chosen_enabled, flood_can, idle_can, none_ended}
use Rattle.world_run.proofs.turn.end_turn.Goals as goal

pub act-requires-clause-steady : goal.act-requires-clause-steady
act-requires-clause-steady c = record { whole = c.in_ok-action.ensures.course; settled = ap (λ (s : State). s.falling) c.choose.ensures.state ∙ c.requires.steady.settled }

pub act-requires-clause-live : goal.act-requires-clause-live
act-requires-clause-live c = ap (λ (s : State). is_live s c.args.process) c.choose.ensures.state ∙ c.requires.live

pub act-requires-clause-enabled : goal.act-requires-clause-enabled
act-requires-clause-enabled c =
    let m = said_by c.args.given.now in
    let old = c.args.course.now in
    let v = c.choose.new.course in
    let chose = subst (λ (o : Option ℕ). Chose m old.state c.args.process old.turnstiles o v.turnstiles) c.in-Some.is c.in_ok-action.ensures.chose in
    chosen_enabled m old v c.args.process c.in-Some.action c.choose.ensures.state chose

pub stop_fallen-requires-clause-course : goal.stop_fallen-requires-clause-course
stop_fallen-requires-clause-course c =
    let x : Behind (said_by c.args.given.now) c.args.course.now c.choose.new.course c.act.new.course c.args.process c.in-Some.action c.args.deeds.now c.act.new.deeds = record {
      state = c.choose.ensures.state;
      cells = c.choose.ensures.cells;
      generators = c.choose.ensures.generators;
      errors = c.choose.ensures.errors;
      chose = subst (λ (o : Option ℕ). Chose (said_by c.args.given.now) c.args.course.now.state c.args.process c.args.course.now.turnstiles o c.choose.new.course.turnstiles) c.in-Some.is c.in_ok-action.ensures.chose;
      act = c.in_ok-act-in-Some.ensures.acted;
      turnstiles = c.act.ensures.turnstiles;
      left = c.act.ensures.errors;
    } in
    act_course (said_by c.args.given.now) c.args.course.now c.choose.new.course c.act.new.course c.args.process c.in-Some.action _ _ x c.requires.steady.whole

pub returns-in_ok-act-in-Some : goal.returns-in_ok-act-in-Some
returns-in_ok-act-in-Some c =
    let x : Behind (said_by c.args.given.now) c.args.course.now c.choose.new.course c.act.new.course c.args.process c.in-Some.action c.args.deeds.now c.act.new.deeds = record {
      state = c.choose.ensures.state;
      cells = c.choose.ensures.cells;
      generators = c.choose.ensures.generators;
      errors = c.choose.ensures.errors;
      chose = subst (λ (o : Option ℕ). Chose (said_by c.args.given.now) c.args.course.now.state c.args.process c.args.course.now.turnstiles o c.choose.new.course.turnstiles) c.in-Some.is c.in_ok-action.ensures.chose;
      act = c.in_ok-act-in-Some.ensures.acted;
      turnstiles = c.act.ensures.turnstiles;
      left = c.act.ensures.errors;
    } in
    let m = said_by c.args.given.now in
    let system = c.args.given.now.system.now in
    let there : c.args.process < length m.processes = omega (arith, c.requires.there, length-map system.processes (process_semantics (messages_of system))) in
    let short : c.in-Some.action < 2 ^ 32 = omega arith in
    act_ended c.stop_fallen.result m c.args.course.now c.choose.new.course c.act.new.course c.stop_fallen.new.course c.args.process c.in-Some.action c.args.rejects _ _ _ c.requires.steady x there short
    c.stop_fallen.ensures.did c.stop_fallen.ensures.steady c.stop_fallen.ensures.cells

pub perform-requires-clause-possible : goal.perform-requires-clause-possible
perform-requires-clause-possible c =
    let m = said_by c.args.given.now in
    let old = c.args.course.now in
    let v = c.choose.new.course in
    let chose = subst (λ (o : Option ℕ). Chose m old.state c.args.process old.turnstiles o v.turnstiles) c.in-None.is c.in_ok-action.ensures.chose in
    idle_can m old v c.args.process c.requires.steady c.requires.live (c.requires.none_left c.if-rejects-lt-MOST_REJECTS.true) c.choose.ensures.state chose

pub perform-requires-in-None-2-clause-possible : goal.perform-requires-in-None-2-clause-possible
perform-requires-in-None-2-clause-possible c =
    let m = said_by c.args.given.now in
    let old = c.args.course.now in
    let v = c.choose.new.course in
    let chose = subst (λ (o : Option ℕ). Chose m old.state c.args.process old.turnstiles o v.turnstiles) c.in-None.is c.in_ok-action.ensures.chose in
    flood_can m old v c.args.process c.requires.steady c.requires.live c.choose.ensures.state chose

pub returns-in-None : goal.returns-in-None
returns-in-None c =
    let m = said_by c.args.given.now in
    let old = c.args.course.now in
    let v = c.choose.new.course in
    let chose = subst (λ (o : Option ℕ). Chose m old.state c.args.process old.turnstiles o v.turnstiles) c.in-None.is c.in_ok-action.ensures.chose in
    none_ended c.perform.result m old v c.perform.new.course c.args.process c.args.rejects (label.Idle c.args.process) _ _ c.requires.steady c.choose.ensures.state c.choose.ensures.cells c.choose.ensures.generators c.choose.ensures.errors chose tt
    (idle c.if-rejects-lt-MOST_REJECTS.true) c.perform.ensures.did c.perform.ensures.course c.perform.ensures.cells

pub returns-in-None-2 : goal.returns-in-None-2
returns-in-None-2 c =
    let m = said_by c.args.given.now in
    let old = c.args.course.now in
    let v = c.choose.new.course in
    let chose = subst (λ (o : Option ℕ). Chose m old.state c.args.process old.turnstiles o v.turnstiles) c.in-None.is c.in_ok-action.ensures.chose in
    let full : c.args.rejects ≡ 4096 = omega (arith, c.if-rejects-lt-MOST_REJECTS.false, c.requires.at_most) in
    none_ended c.perform-in-None-2.result m old v c.perform-in-None-2.new.course c.args.process c.args.rejects (label.Flood c.args.process) _ _ c.requires.steady c.choose.ensures.state c.choose.ensures.cells
    c.choose.ensures.generators c.choose.ensures.errors chose tt (flood full) c.perform-in-None-2.ensures.did c.perform-in-None-2.ensures.course c.perform-in-None-2.ensures.cells
