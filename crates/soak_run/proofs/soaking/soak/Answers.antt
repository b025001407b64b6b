use Rattle.std.proofs.Common.{Err, length, refl, ap, sym, subst, ◌∙◌, arith}
use Rattle.tap_base.specs.declared.system.System.{System}
use Rattle.tap_exec.specs.Semantics.{semantics_of}
use Rattle.schedule_gen.specs.Schedule.{next_event, opening}
use Rattle.soak_run.specs.Soaked.{GoesOnWith, Soaks}
use Rattle.soak_run.specs.inner.Counting.{HasRoom, counted}
use Rattle.soak_run.proofs.NextEvents.{next_has_line, next_soon}
use Rattle.soak_run.proofs.RunSoFar.{SoFar, err_is, none_so_far, room_so_far, so_far_more, still_goes_on, stopped, took_place}
use Rattle.soak_run.proofs.soaking.soak.Goals as goal
use Rattle.world_run.specs.Served.{NamesProcesses}
use Rattle.world_run.proofs.LinesName.{named}

pub loop-i-init : goal.loop-i-init
loop-i-init c = record {
  so_far = none_so_far c.args.world.now.seed (semantics_of c.args.world.now.system) c.args.world.now.course _ _ _ c.requires.fresh.cursors c.requires.fresh.errors c.requires.fresh.generators (c.in_ok-generator.ensures ∙ ap (λ (s : System). opening s c.args.seed c.args.faults) c.system.ensures) c.new-tally.ensures;
  same = refl;
  goes_on = c.requires.fresh.goes_on;
}

pub next-requires : goal.next-requires
next-requires c =
    let few = c.requires.few in
    next_soon c.args.world.now.system c.args.seed c.args.faults c.loop-i._i c.loop-i.generator (omega (arith, few)) c.loop-i.invariant.so_far.behind

pub event-requires : goal.event-requires
event-requires c =
    let few = c.requires.few in
    let line = next_has_line c.args.world.now.system c.args.seed c.args.faults c.loop-i._i c.loop-i.generator c.requires.resolved (omega (arith, few)) c.loop-i.invariant.so_far.behind in
    let here = named (length c.args.world.now.system.processes) (next_event c.loop-i.generator) line in
    subst (λ (s : System). NamesProcesses (length s.processes) c.in_ok-event.event) (sym c.loop-i.invariant.same) (subst (NamesProcesses (length c.args.world.now.system.processes)) (sym c.in_ok-event.ensures.event) here)

pub returns-in_err-event-2-clause-soaks : goal.returns-in_err-event-2-clause-soaks
returns-in_err-event-2-clause-soaks c =
    let m = opening c.args.world.now.system c.args.seed c.args.faults in
    let f = c.in_err-event-2.field-0.0 in
    subst (λ r. Soaks c.args.world.now.seed (semantics_of c.args.world.now.system) c.args.world.now.course.state m c.args.events r c.event.new.self.course.state) (sym (err_is c.from_residual-in_err-event-2.result f c.from_residual-in_err-event-2.ensures.1))
    (stopped c.args.world.now.seed c.args.events (semantics_of c.args.world.now.system) c.args.world.now.course.state m c.loop-i._i c.loop-i.world c.event.new.self c.loop-i.generator c.loop-i.tally c.in_ok-event.event f
    c.loop-i.invariant.so_far (omega arith) c.loop-i.invariant.goes_on c.in_err-event-2.ensures.answers)

pub returns-in_err-event-2-clause-goes_on : goal.returns-in_err-event-2-clause-goes_on
returns-in_err-event-2-clause-goes_on c =
    let f = c.in_err-event-2.field-0.0 in
    subst (λ r. GoesOnWith r c.event.new.self) (sym (err_is c.from_residual-in_err-event-2.result f c.from_residual-in_err-event-2.ensures.1)) (still_goes_on c.in_ok-event.event f c.loop-i.world c.event.new.self c.loop-i.invariant.goes_on c.in_err-event-2.ensures.answers)

pub count-requires : goal.count-requires
count-requires c =
    let answers = c.in_ok-event-2.ensures.answers in
    let few = c.requires.few in
    let fresh = c.requires.fresh.goes_on in
    let safe = fresh.runnable.safe in
    let took = took_place c.loop-i.generator c.loop-i.invariant.same c.in_ok-event.ensures.event answers.1 in
    let room = room_so_far c.loop-i.invariant.so_far answers.0.room took safe.keeps fresh.steady.whole.fits (omega (arith, few)) in
    let labels = ap length c.labels_of_last.ensures in
    let sent = ap length c.sent_in_last.ensures in
    subst (λ k. HasRoom c.loop-i.tally k (length c.sent_in_last.result.now)) (sym labels) (subst (HasRoom c.loop-i.tally (length c.event.new.self.last.labels)) (sym sent) room)

pub loop-i-preserved : goal.loop-i-preserved
loop-i-preserved c =
    let answers = c.in_ok-event-2.ensures.answers in
    let same = c.in_ok-event-2.ensures.system ∙ c.loop-i.invariant.same in
    let took = took_place c.loop-i.generator c.loop-i.invariant.same c.in_ok-event.ensures.event answers.1 in
    let more = so_far_more c.loop-i.invariant.so_far answers.0.room took c.next.new.self c.in_ok-event.ensures.rest in
    let tallied = c.count.ensures ∙ ap (λ ls. counted c.loop-i.tally ls (length c.sent_in_last.result.now)) c.labels_of_last.ensures ∙ ap (λ xs. counted c.loop-i.tally c.event.new.self.last.labels (length xs)) c.sent_in_last.ensures in
    record {
      so_far = subst (SoFar _ _ _ _ _ _ _) (sym tallied) more;
      same = same;
      goes_on = answers.2;
    }
