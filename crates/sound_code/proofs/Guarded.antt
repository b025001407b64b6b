-- Guards of verified code end, with 0 or 1.
use Rattle.std.proofs.Common.{◌≡◌, ◌&&◌, ◌==◌, ℕ, ℤ, true, List, [], refl, ap, sym, subst, ◌∙◌, slice_get, Some, None}
use Rattle.std.proofs.lemmas.Bool.{and_parts, true≢false}
use Rattle.std.proofs.lemmas.List.{length-replicate}
use Rattle.tap_base.specs.Interval.{IsIn, truth_range}
use Rattle.tap_exec.specs.Running.{Running}
use Rattle.tap_exec.specs.declared.running.TimerState.TheVariants.{Off}
use Rattle.abstract_run.specs.Fits.{IsFitTimer}
use Rattle.tap_base.proofs.ListFacts.{each_replicate}
use Rattle.register_code.specs.declared.bad.Part.TheVariants as part
use Rattle.register_code.specs.declared.code.Code.{Code}
use Rattle.register_code.specs.declared.code.CodeAction.{CodeAction}
use Rattle.register_code.specs.declared.code.CodeKind.TheVariants as kind
use Rattle.register_code.specs.declared.code.CodeProcess.{CodeProcess}
use Rattle.register_code.specs.declared.instr.Instr.{Instr}
use Rattle.register_code.specs.declared.instr.Instr.TheVariants as instr
use Rattle.register_code.specs.Declarations.{guard_fits}
use Rattle.sound_code.specs.Fitting.{FitsSite, IsRefused, ReceivedFit}
use Rattle.register_code.specs.Instructions.{Moment, Setting}
use Rattle.register_code.specs.Loops.{cost}
use Rattle.sound_code.specs.Promises.{FitsRunning, GuardRuns, GuardsRun, IsRefusedAfter, opening_of, setting_of}
use Rattle.register_code.specs.Registers.{register_ranges}
use Rattle.register_code.specs.Naming.{may_guard, may_stand}
use Rattle.register_code.specs.Sites.{Site, both_in}
use Rattle.register_code.specs.Running.{EndsWithin, Run, guard_running, run}
use Rattle.register_code.specs.Verified.{received_fields, site_of}
use Rattle.sound_code.proofs.Ends.{parts_end}
use Rattle.sound_code.proofs.Fitted.{both_are, held_in, lies_on}
use Rattle.register_code.proofs.Kept.{ActionKeeps, code_keeps}
use Rattle.sound_code.proofs.Reached.{Sound, opening_fits, reached, refused_after, sound}

-- what a guard may have takes no choice
no_choice : (i : Instr) (m : Moment) → may_guard i ≡ true → IsRefused i m → ⊥
no_choice (instr.Choose r lo hi) m e h = true≢false (sym e)
no_choice (instr.Select r first count) m e h = true≢false (sym e)
no_choice _ m e h = h

never_refused : (s : Site) (received : List ℤ) → Sound s received → s.part ≡ part.Guard → (e : Setting) → e.instrs ≡ s.instrs → (m : Moment) → IsRefusedAfter e m → ⊥
never_refused s received h is e same m r =
    let at : slice_get s.instrs r.at.next ≡ Some r.instr = ap (λ is. slice_get is r.at.next) (sym same) ∙ r.next in
    let stand = (and_parts _ (may_stand s.part r.instr) (h.keeps.each r.at.next r.instr at).names).1 in
    let guard : may_guard r.instr ≡ true = subst (λ p. may_stand p r.instr ≡ true) is stand in
    no_choice r.instr r.at guard r.refused

heard_nothing : (code : Code) (action : CodeAction) → action.kind ≡ kind.Local → ReceivedFit (received_fields code action) []
heard_nothing code action e = rw e tt

result_there : (code : Code) (p : ℕ) (process : CodeProcess) (action : CodeAction) → action.kind ≡ kind.Local → guard_fits code p process action ≡ true
    → both_in (slice_get (register_ranges process action.temporaries) action.result) (Some truth_range) ≡ true
result_there code p process action e h =
    let local : (action.a == 0 && action.b == 0 && both_in (slice_get (register_ranges process action.temporaries) action.result) (Some truth_range)) ≡ true = rw e at h in
    (and_parts (action.a == 0 && action.b == 0) _ local).1

pub guards_run : GuardsRun
guards_run code p process action cells inputs h local within given =
    by_run (run e (cost action.guard) s) refl (parts_end code p process action part.Guard [] inputs r h) where
      site : Site
      site = site_of code p process action part.Guard

      r : Running
      r = guard_running process.timers cells

      e : Setting
      e = setting_of code action part.Guard []

      s : Moment
      s = opening_of action part.Guard inputs r

      keeps : ActionKeeps code p process action
      keeps = (code_keeps code h.verified).actions p process h.there h.number action h.declared

      whole : Sound site []
      whole = sound code p process action part.Guard [] h (heard_nothing code action local)

      fits : FitsRunning code p process r
      fits = record { running = record { cells = within; counted = length-replicate process.timers Off; timers = each_replicate IsFitTimer process.timers Off tt }; sends = tt }

      begins : FitsSite site s
      begins = opening_fits code p process action part.Guard inputs r keeps.temporaries given fits

      by_run : (o : Run) → run e (cost action.guard) s ≡ o → EndsWithin e (cost action.guard) s o → GuardRuns code process action cells inputs
      by_run None is fails = absurd (never_refused site [] whole refl e refl s (refused_after site [] whole s begins fails))
      by_run (Some ended) is has =
          let come = reached site [] whole ended.1 s ended.0 begins has.leads in
          let lie = both_are (slice_get (register_ranges process action.temporaries) action.result) (Some truth_range) (result_there code p process action local keeps.agrees) in
          let x = held_in site ended.0 action.result lie.first come.fits lie.one in
          let same : lie.second ≡ truth_range = cc in
          record { end = ended.0; ran = ended.1; run_is = is; few = has.few; value = x.0; result = x.1; truth = subst (IsIn x.0) same (lies_on lie.first lie.second x.0 lie.within x.2) }
