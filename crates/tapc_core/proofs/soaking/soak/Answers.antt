use Rattle.std.proofs.Common.{Err, ap, refl, inl, inr}
use Rattle.tapc_core.specs.SettingWords.{settings_among}
use Rattle.tapc_core.specs.commands.Soak.{IsOfSoak, OfSoak, load_of, reads_load}
use Rattle.tapc_core.proofs.Found.{no_start_found}
use Rattle.tapc_core.proofs.Outputs.{starts_not}
use Rattle.tapc_core.proofs.Soaked.{soak_writes}
use Rattle.tapc_core.proofs.Starts.{start_cause, start_has, start_leaves}
use Rattle.tapc_core.proofs.soaking.soak.Goals as goal

pub returns-in-Ok-clause-writes : goal.returns-in-Ok-clause-writes
returns-in-Ok-clause-writes g c =
    let load = load_of c.args.system.now c.args.asked.seed c.args.asked.events c.args.asked.faults (settings_among c.args.settings.now) (g.S.Store.contents c.args.store.now) in
    soak_writes load c.in-Ok.start.system c.in-Ok.start.inputs c.in-Ok.ensures.set_up c.soak_system.result c.soak_system.ensures.closes

pub returns-in-Err-clause-writes : goal.returns-in-Err-clause-writes
returns-in-Err-clause-writes g c =
    let load = load_of c.args.system.now c.args.asked.seed c.args.asked.events c.args.asked.faults (settings_among c.args.settings.now) (g.S.Store.contents c.args.store.now) in
    starts_not (OfSoak load) c.in-Err.fault c.start_not.result _ _ (λ o e. inl (record { offence = o; first = c.in-Err.ensures.refused o (ap Err e); is = refl }))
    (λ m e. inr (record { refusal = m; offence = c.in-Err.ensures.misset m (ap Err e); is = refl })) refl refl c.start_not.ensures.closes

pub returns-in-Err-clause-answers : goal.returns-in-Err-clause-answers
returns-in-Err-clause-answers g c = start_has IsOfSoak tt tt tt c.in-Err.fault c.start_not.result _ _ (λ w. tt) c.start_not.ensures.closes

pub returns-in-Err-clause-leaves : goal.returns-in-Err-clause-leaves
returns-in-Err-clause-leaves g c = start_leaves (g.S.Store.contents c.args.store.now c.args.system.now) _ c.in-Err.fault c.start_not.result _ _ (λ w. c.in-Err.ensures.left w) c.start_not.ensures.closes

pub returns-in-Err-clause-found : goal.returns-in-Err-clause-found
returns-in-Err-clause-found g c = λ t. no_start_found (reads_load c.args.system.now) (g.S.Store.contents c.args.store.now) c.in-Err.fault _ _ c.start_not.result (record { unwritten = refl; unread = refl; no_memory = refl }) (λ w. (c.in-Err.ensures.found w t, tt)) c.start_not.ensures.closes

pub returns-in-Err-clause-store_cause : goal.returns-in-Err-clause-store_cause
returns-in-Err-clause-store_cause g c = start_cause c.in-Err.fault c.start_not.result _ _ _ _ c.in-Err.ensures.cause c.start_not.ensures.closes
