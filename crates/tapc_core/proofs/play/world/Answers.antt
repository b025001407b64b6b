use Rattle.std.proofs.Common.{ℕ, List, Err, ap, refl, sym, inl, inr, ◌∙◌}
use Rattle.tapc_core.specs.SettingWords.{settings_among}
use Rattle.tapc_core.specs.commands.Text.{leaves_refused}
use Rattle.tapc_core.specs.commands.World.{IsOfWorld, OfWorld, reads_both, task_of}
use Rattle.tapc_core.proofs.Found.{given_up_found, no_start_found}
use Rattle.tapc_core.proofs.GivenTexts.{set_up_gives, whole_is}
use Rattle.tapc_core.proofs.Outputs.{gives_up, refused_memory, starts_not}
use Rattle.tapc_core.proofs.Starts.{given_up_cause, given_up_has, never_read, no_offence, start_cause, start_has, start_leaves, unread_cause}
use Rattle.tapc_core.proofs.play.world.Goals as goal

pub returns-in-Ok-read_whole-clause-writes : goal.returns-in-Ok-read_whole-clause-writes
returns-in-Ok-read_whole-clause-writes g c = c.play.ensures.writes _ (record { gives = set_up_gives c.in-Ok.ensures.set_up; seed_is = refl; schedule_is = whole_is _ _ c.in-Ok-read_whole.schedule c.as_slice.result.now _ (c.begin.ensures.stays c.args.schedule.now) c.as_slice.ensures c.in-Ok-read_whole.ensures.whole })

pub returns-in-Err-read_whole-clause-writes : goal.returns-in-Err-read_whole-clause-writes
returns-in-Err-read_whole-clause-writes g c =
    let task = task_of c.args.system.now c.args.schedule.now c.args.seed (settings_among c.args.settings.now) (g.S.Store.contents c.args.store.now) in
    gives_up (OfWorld task) c.from.result c.give_up.result _ _ (λ o e. absurd (no_offence c.in-Err-read_whole.error o (sym c.from.ensures ∙ e))) refl (refused_memory task) c.give_up.ensures.closes

pub returns-in-Err-read_whole-clause-answers : goal.returns-in-Err-read_whole-clause-answers
returns-in-Err-read_whole-clause-answers g c = given_up_has IsOfWorld tt tt tt c.from.result c.give_up.result _ _ (λ w. tt) c.give_up.ensures.closes

pub returns-in-Err-read_whole-clause-leaves : goal.returns-in-Err-read_whole-clause-leaves
returns-in-Err-read_whole-clause-leaves g c =
    given_up_has (λ s. leaves_refused (g.S.Store.contents c.args.store.now c.args.system.now) s (g.S.Store.left c.read_whole.new.store)) tt tt tt c.from.result c.give_up.result _ _
    (λ w. absurd (never_read c.in-Err-read_whole.error c.from.result c.from.ensures w)) c.give_up.ensures.closes

pub returns-in-Err-read_whole-clause-found : goal.returns-in-Err-read_whole-clause-found
returns-in-Err-read_whole-clause-found g c = λ t.
    given_up_found (reads_both c.args.system.now c.args.schedule.now) (g.S.Store.contents c.args.store.now) c.from.result _ _ c.give_up.result (record { unwritten = refl; unread = refl; no_memory = refl })
    (λ o e. absurd (no_offence c.in-Err-read_whole.error o (sym c.from.ensures ∙ e))) c.give_up.ensures.closes

pub returns-in-Err-read_whole-clause-store_cause : goal.returns-in-Err-read_whole-clause-store_cause
returns-in-Err-read_whole-clause-store_cause g c =
    given_up_cause c.from.result c.give_up.result _ _ _ _ (unread_cause (List ℕ) c.in-Err-read_whole.error c.from.result _ _ _ c.from.ensures c.in-Ok.ensures.cause c.in-Err-read_whole.ensures.cause) c.give_up.ensures.closes

pub returns-in-Err-clause-writes : goal.returns-in-Err-clause-writes
returns-in-Err-clause-writes g c =
    let task = task_of c.args.system.now c.args.schedule.now c.args.seed (settings_among c.args.settings.now) (g.S.Store.contents c.args.store.now) in
    starts_not (OfWorld task) c.in-Err.fault c.start_not.result _ _ (λ o e. inl (record { offence = o; first = c.in-Err.ensures.refused o (ap Err e); is = refl }))
    (λ m e. inr (record { refusal = m; offence = c.in-Err.ensures.misset m (ap Err e); is = refl })) refl (refused_memory task) c.start_not.ensures.closes

pub returns-in-Err-clause-answers : goal.returns-in-Err-clause-answers
returns-in-Err-clause-answers g c = start_has IsOfWorld tt tt tt c.in-Err.fault c.start_not.result _ _ (λ w. tt) c.start_not.ensures.closes

pub returns-in-Err-clause-leaves : goal.returns-in-Err-clause-leaves
returns-in-Err-clause-leaves g c = start_leaves (g.S.Store.contents c.args.store.now c.args.system.now) _ c.in-Err.fault c.start_not.result _ _ (λ w. c.in-Err.ensures.left w) c.start_not.ensures.closes

pub returns-in-Err-clause-found : goal.returns-in-Err-clause-found
returns-in-Err-clause-found g c = λ t. no_start_found (reads_both c.args.system.now c.args.schedule.now) (g.S.Store.contents c.args.store.now) c.in-Err.fault _ _ c.start_not.result (record { unwritten = refl; unread = refl; no_memory = refl }) (λ w. (c.in-Err.ensures.found w t, tt)) c.start_not.ensures.closes

pub returns-in-Err-clause-store_cause : goal.returns-in-Err-clause-store_cause
returns-in-Err-clause-store_cause g c = start_cause c.in-Err.fault c.start_not.result _ _ _ _ c.in-Err.ensures.cause c.start_not.ensures.closes
