use Rattle.std.proofs.Common.{◌∙◌, ◌<◌, Some, length, ap, sym, arith}
use Rattle.std.proofs.lemmas.List.{length-map}
use Rattle.tap_exec.specs.Semantics.{messages_of, process_semantics}
use Rattle.world_run.specs.inner.Serving.{said_by}
use Rattle.world_run.proofs.Leaves.{down_possible}
use Rattle.world_run.proofs.Turns.{cut_possible, cut_served, down_served, live_served, on_ok, tick_possible}
use Rattle.world_run.proofs.turn.turn.Goals as goal

pub perform-requires-clause-possible : goal.perform-requires-clause-possible
perform-requires-clause-possible c =
    down_possible (said_by c.args.given.now) c.args.course.now.state c.args.process c.requires.steady.settled (c.is_down.ensures ∙ ap Some c.if-is_down.true)

pub returns-then-is_down-clause-served : goal.returns-then-is_down-clause-served
returns-then-is_down-clause-served c =
    on_ok c.perform.result (down_served (said_by c.args.given.now) c.args.course.now c.perform.new.course c.args.process c.args.reading _ _ c.requires.steady (c.is_down.ensures ∙ ap Some c.if-is_down.true)) c.perform.ensures.did

pub perform-requires-2-clause-possible : goal.perform-requires-2-clause-possible
perform-requires-2-clause-possible c =
    tick_possible (said_by c.args.given.now) c.args.course.now c.args.process c.args.reading c.requires.steady (c.is_down.ensures ∙ ap Some c.if-is_down.false)

pub perform-requires-then-cut_off-clause-possible : goal.perform-requires-then-cut_off-clause-possible
perform-requires-then-cut_off-clause-possible c =
    cut_possible (said_by c.args.given.now) c.args.course.now c.perform-2.new.course c.args.process c.args.reading c.new-receivers.result _ _ c.requires.steady (c.is_down.ensures ∙ ap Some c.if-is_down.false)
    (sym c.is_cut_off-cut_off.ensures ∙ c.if-cut_off.true) c.in_ok-perform.ensures.did c.new-receivers.ensures

pub returns-then-cut_off-clause-served : goal.returns-then-cut_off-clause-served
returns-then-cut_off-clause-served c =
    on_ok c.perform-then-cut_off.result
    (cut_served (said_by c.args.given.now) c.args.course.now c.perform-2.new.course c.perform-then-cut_off.new.course c.args.process c.args.reading c.new-receivers.result _ _ _ c.requires.steady
    (c.is_down.ensures ∙ ap Some c.if-is_down.false) (sym c.is_cut_off-cut_off.ensures ∙ c.if-cut_off.true) c.new-receivers.ensures c.in_ok-perform.ensures.did)
    c.perform-then-cut_off.ensures.did

pub returns-clause-served : goal.returns-clause-served
returns-clause-served c =
    let system = c.args.given.now.system.now in
    let m = said_by c.args.given.now in
    let there : c.args.process < length m.processes = omega (arith, c.requires.there, length-map system.processes (process_semantics (messages_of system))) in
    on_ok c.end_turn.result
    (live_served m c.args.course.now c.perform-2.new.course c.reject_arrived.new.course c.end_turn.new.course c.args.process c.args.reading c.in_ok-rejects.rejects _ _ _ _ c.requires.steady
    (c.is_down.ensures ∙ ap Some c.if-is_down.false) there (sym c.is_cut_off-cut_off.ensures ∙ c.if-cut_off.false) c.in_ok-perform.ensures.did c.in_ok-rejects.ensures.rejected c.in_ok-rejects.ensures.at_most
    c.in_ok-rejects.ensures.none_left)
    c.end_turn.ensures
