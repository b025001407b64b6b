use Rattle.std.proofs.Common.{Err, IfSome, ap, refl, subst, inl, inr}
use Rattle.abstract_run.specs.Opening.{opening_state}
use Rattle.link_trait.specs.Outside.{IsTold}
use Rattle.replay.specs.Traces.{HasReplayCause, Judges}
use Rattle.tap_exec.specs.Semantics.{semantics_of}
use Rattle.tapc_core.specs.SettingWords.{settings_among}
use Rattle.tapc_core.specs.commands.Replay.{IsOfReplay, OfReplay, reads_trace, trial_of}
use Rattle.tapc_core.proofs.Found.{no_start_found}
use Rattle.tapc_core.proofs.GivenTexts.{set_up_gives}
use Rattle.tapc_core.proofs.Outputs.{starts_not}
use Rattle.tapc_core.proofs.Starts.{start_cause, start_has, start_leaves}
use Rattle.tapc_core.proofs.Verdicts.{verdict_answers, verdict_cause, verdict_found, verdict_leaves, verdict_writes}
use Rattle.tapc_core.proofs.replaying.replay.Goals as goal

pub returns-in-Ok-clause-writes : goal.returns-in-Ok-clause-writes
returns-in-Ok-clause-writes g c =
    let trial = trial_of c.args.system.now c.args.trace.now (settings_among c.args.settings.now) (g.S.Store.contents c.args.store.now) in
    verdict_writes trial c.judge-verdict.result c.close_verdict.result _ _ (record { semantics = _; inputs = c.in-Ok.start.inputs; gives = set_up_gives c.in-Ok.ensures.set_up; judged = subst (λ o. IfSome o (λ text. Judges (semantics_of c.in-Ok.start.system) (opening_state (semantics_of c.in-Ok.start.system) c.in-Ok.start.inputs) text c.judge-verdict.result)) (c.begin.ensures.stays c.args.trace.now) c.judge-verdict.ensures.judged }) c.close_verdict.ensures.closes

pub returns-in-Ok-clause-answers : goal.returns-in-Ok-clause-answers
returns-in-Ok-clause-answers g c = verdict_answers c.judge-verdict.result c.close_verdict.result _ _ c.close_verdict.ensures.closes

pub returns-in-Ok-clause-leaves : goal.returns-in-Ok-clause-leaves
returns-in-Ok-clause-leaves g c = verdict_leaves (g.S.Store.contents c.args.store.now c.args.system.now) _ c.judge-verdict.result c.close_verdict.result _ _ c.close_verdict.ensures.closes

pub returns-in-Ok-clause-found : goal.returns-in-Ok-clause-found
returns-in-Ok-clause-found g c = λ t.
    verdict_found c.args.system.now c.args.trace.now (g.S.Store.contents c.args.store.now) c.judge-verdict.result c.close_verdict.result _ _
    (λ w. (c.in-Ok.ensures.found tt t, subst IsTold (c.begin.ensures.stays c.args.trace.now) (c.judge-verdict.ensures.found w (c.in-Ok.ensures.told t)))) c.close_verdict.ensures.closes

pub returns-in-Ok-clause-store_cause : goal.returns-in-Ok-clause-store_cause
returns-in-Ok-clause-store_cause g c =
    verdict_cause c.judge-verdict.result c.close_verdict.result _ _ _ _ (subst (λ b. HasReplayCause b (g.S.Store.faults c.judge-verdict.new.store) c.judge-verdict.result) c.in-Ok.ensures.cause c.judge-verdict.ensures.cause) c.close_verdict.ensures.closes

pub returns-in-Err-clause-writes : goal.returns-in-Err-clause-writes
returns-in-Err-clause-writes g c =
    let trial = trial_of c.args.system.now c.args.trace.now (settings_among c.args.settings.now) (g.S.Store.contents c.args.store.now) in
    starts_not (OfReplay trial) c.in-Err.fault c.start_not.result _ _ (λ o e. inl (record { offence = o; first = c.in-Err.ensures.refused o (ap Err e); is = refl }))
    (λ m e. inr (record { refusal = m; offence = c.in-Err.ensures.misset m (ap Err e); is = refl })) refl refl c.start_not.ensures.closes

pub returns-in-Err-clause-answers : goal.returns-in-Err-clause-answers
returns-in-Err-clause-answers g c = start_has IsOfReplay tt tt tt c.in-Err.fault c.start_not.result _ _ (λ w. tt) c.start_not.ensures.closes

pub returns-in-Err-clause-leaves : goal.returns-in-Err-clause-leaves
returns-in-Err-clause-leaves g c = start_leaves (g.S.Store.contents c.args.store.now c.args.system.now) _ c.in-Err.fault c.start_not.result _ _ (λ w. c.in-Err.ensures.left w) c.start_not.ensures.closes

pub returns-in-Err-clause-found : goal.returns-in-Err-clause-found
returns-in-Err-clause-found g c = λ t. no_start_found (reads_trace c.args.system.now c.args.trace.now) (g.S.Store.contents c.args.store.now) c.in-Err.fault _ _ c.start_not.result (record { unwritten = refl; unread = refl; no_memory = refl }) (λ w. (c.in-Err.ensures.found w t, tt)) c.start_not.ensures.closes

pub returns-in-Err-clause-store_cause : goal.returns-in-Err-clause-store_cause
returns-in-Err-clause-store_cause g c = start_cause c.in-Err.fault c.start_not.result _ _ _ _ c.in-Err.ensures.cause c.start_not.ensures.closes
