-- What a run of verified code comes to.
use Rattle.std.proofs.Common.{◌≡◌, ◌+◌, ◌≤◌, ℕ, zero, suc, ℤ, Bool, true, false, List, [], ◌∷◌, ◌++◌, map, length, take, ◌⊎◌, inl, inr, refl, sym, subst, ◌∙◌, slice_get, Option, Some, None, arith}
use Rattle.std.specs.Prelude.{int_le, ◌≤ℤ◌}
use Rattle.std.specs.List.{list_all}
use Rattle.std.proofs.lemmas.Bool.{and_parts, eqb-true}
use Rattle.std.proofs.lemmas.Int.{ints}
use Rattle.std.proofs.lemmas.List.{length-append, length-map, length-replicate, length-take, take-append-le, take_all}
use Rattle.std.proofs.lemmas.Option.{option_and_then_some}
use Rattle.tap_exec.specs.Running.{Running}
use Rattle.tap_base.specs.Ranges.{AreAllIn, AreIn}
use Rattle.tap_base.specs.Option.{◌>>=◌}
use Rattle.tap_base.proofs.ListFacts.{both_append}
use Rattle.register_code.specs.declared.bad.Part.{Part}
use Rattle.register_code.specs.declared.bad.Part.TheVariants as part
use Rattle.register_code.specs.declared.code.Code.{Code}
use Rattle.register_code.specs.declared.code.CodeAction.{CodeAction}
use Rattle.register_code.specs.declared.code.CodeProcess.{CodeProcess}
use Rattle.register_code.specs.declared.code.CodeTemporary.{CodeTemporary}
use Rattle.register_code.specs.declared.instr.Instr.{Instr}
use Rattle.sound_code.specs.Fitting.{FitsSite, IsRefused, ReceivedFit}
use Rattle.register_code.specs.Instructions.{Moment, Setting, does}
use Rattle.register_code.specs.Loops.{cost, one_choice, one_send, one_step}
use Rattle.sound_code.specs.Promises.{BodiesRun, BodyRuns, FitsRunning, GoesOn, IsPartOf, IsRefusedAfter, StepsFit, opening_of, setting_of}
use Rattle.register_code.specs.Registers.{cell_ranges, input_ranges, register_ranges, temporary_range}
use Rattle.register_code.specs.Sites.{Site}
use Rattle.register_code.specs.Running.{EndsWithin, Fails, Leads, Run, after, is_ended, left_by, run, step}
use Rattle.register_code.specs.Verified.{instrs_of, received_fields, site_of}
use Rattle.sound_code.proofs.Divided.{divides_well}
use Rattle.sound_code.proofs.Ends.{at_most_total, next_of, parts_end, stepped}
use Rattle.sound_code.proofs.Falls.{still_counts}
use Rattle.sound_code.proofs.Fitted.{both_take}
use Rattle.register_code.proofs.Kept.{PartKeeps, are_whole, code_keeps}
use Rattle.sound_code.proofs.Named.{Outcome}
use Rattle.sound_code.proofs.StepsKept.{does_fit, setting_at}
use Rattle.sound_code.proofs.Uses.{uses}

-- ---- one step

-- a site whose instructions keep their rules
pub record Sound (s : Site) (received : List ℤ) : Type 0 where
  pub keeps : PartKeeps s
  pub cells : s.cells ≤ length s.ranges
  pub heard : ReceivedFit s.received received

fits_next : (s : Site) (received : List ℤ) → Sound s received → (m : Moment) (i : Instr) → slice_get s.instrs m.next ≡ Some i → FitsSite s m → Outcome s i m (does (setting_at s received) i m)
fits_next s received h m i is fits = does_fit s received i m (are_whole s h.keeps) is (h.keeps.each m.next i is) h.cells h.heard fits

fits_after : (s : Site) (received : List ℤ) → Sound s received → (m t : Moment) → FitsSite s m → step (setting_at s received) m ≡ Some t → FitsSite s t
fits_after s received h m t fits e =
    let done = stepped one_step (setting_at s received) (are_whole s h.keeps) m t e in
    subst (Outcome s done.instr m) done.done (fits_next s received h m done.instr done.next fits)

goes_on : (s : Site) (received : List ℤ) → Sound s received → (m : Moment) → FitsSite s m → GoesOn s (setting_at s received) m (step (setting_at s received) m)
goes_on s received h m fits = by_end (is_ended (setting_at s received) m) refl where
  by_step : (i : Instr) → slice_get s.instrs m.next ≡ Some i → (o : Option Moment) → does (setting_at s received) i m ≡ o → GoesOn s (setting_at s received) m o
  by_step i is None e = inr (i, is, subst (Outcome s i m) e (fits_next s received h m i is fits))
  by_step i is (Some t) e = subst (Outcome s i m) e (fits_next s received h m i is fits)

  by_end : (b : Bool) → is_ended (setting_at s received) m ≡ b → GoesOn s (setting_at s received) m (step (setting_at s received) m)
  by_end true e = by_none (step (setting_at s received) m) refl where
    by_none : (o : Option Moment) → step (setting_at s received) m ≡ o → GoesOn s (setting_at s received) m o
    by_none None f = inl e
    by_none (Some t) f = fits_after s received h m t fits f
  by_end false e =
      let next = next_of (setting_at s received) m fits.inside e in
      let is = next.1 in rw is (by_step next.0 next.1 (does (setting_at s received) next.0 m) refl)

-- ---- many steps

pub record Reached (s : Site) (m t : Moment) : Type 0 where
  pub fits : FitsSite s t
  pub sends : length t.sends + still_counts one_send s.instrs t.counters t.next ≤ length m.sends + still_counts one_send s.instrs m.counters m.next
  pub choices : length m.choices + still_counts one_choice s.instrs t.counters t.next ≤ length t.choices + still_counts one_choice s.instrs m.counters m.next

pub reached : (s : Site) (received : List ℤ) → Sound s received → (n : ℕ) (m t : Moment) → FitsSite s m → Leads (setting_at s received) m n t → Reached s m t
reached s received h zero m t fits e = let same : m ≡ t = cc in subst (Reached s m) same (record { fits = fits; sends = omega arith; choices = omega arith })
reached s received h (suc n) m t fits e =
    option_and_then_some (after (setting_at s received) n) (step (setting_at s received) m) t e
    (λ u f g.
    let rest = reached s received h n u t (fits_after s received h m u fits f) g in
    let sends = stepped one_send (setting_at s received) (are_whole s h.keeps) m u f in
    let choices = stepped one_choice (setting_at s received) (are_whole s h.keeps) m u f in
    let sent = (uses (setting_at s received) sends.instr m u sends.done).sends in
    let took = (uses (setting_at s received) choices.instr m u choices.done).choices in
    record { fits = rest.fits; sends = omega (arith, rest.sends, sends.falls.less, sent); choices = omega (arith, rest.choices, choices.falls.less, took) })

-- ---- where a part begins

temporaries_in : (ts : List CodeTemporary) → list_all (λ (t : CodeTemporary). int_le t.lo t.hi) ts ≡ true → AreIn (map temporary_range ts) (map (λ (t : CodeTemporary). t.lo) ts)
temporaries_in [] e = tt
temporaries_in (t ∷ ts) e = let parts = and_parts (int_le t.lo t.hi) (list_all (λ (u : CodeTemporary). int_le u.lo u.hi) ts) e in ((omega (arith, ints), at_most t.lo t.hi parts.0), temporaries_in ts parts.1) where
  at_most : (x y : ℤ) → int_le x y ≡ true → x ≤ℤ y
  at_most x y f = grind (arith, ints)

pub opening_fits : (code : Code) (p : ℕ) (process : CodeProcess) (action : CodeAction) (which : Part) (inputs : List ℤ) (r : Running)
    → list_all (λ (t : CodeTemporary). int_le t.lo t.hi) action.temporaries ≡ true → AreAllIn (input_ranges process) inputs → FitsRunning code p process r → FitsSite (site_of code p process action which) (opening_of action which inputs r)
opening_fits code p process action which inputs r low given fits =
    let cells = fits.running.cells in
    let first = both_append _ (cell_ranges process) (input_ranges process) r.cells inputs (sym cells.counted) cells.within given.within in
    let sizes : length (cell_ranges process ++ input_ranges process) ≡ length (r.cells ++ inputs) = omega (arith, length-append (cell_ranges process) (input_ranges process), length-append r.cells inputs, cells.counted, given.counted) in
    record {
      registers = record {
        counted = omega (
          arith,
          length-append (r.cells ++ inputs) (map (λ (t : CodeTemporary). t.lo) action.temporaries),
          length-append (cell_ranges process ++ input_ranges process) (map temporary_range action.temporaries),
          sizes,
          length-map action.temporaries (λ (t : CodeTemporary). t.lo),
          length-map action.temporaries temporary_range,
        );
        within = both_append _ (cell_ranges process ++ input_ranges process) (map temporary_range action.temporaries) (r.cells ++ inputs) (map (λ (t : CodeTemporary). t.lo) action.temporaries) sizes first (temporaries_in action.temporaries low);
      };
      counters = length-replicate (length (instrs_of which action)) 0;
      timers = fits.running.counted;
      delays = fits.running.timers;
      sends = fits.sends;
      inside = omega arith;
    }

-- ---- verified code

pub sound : (code : Code) (p : ℕ) (process : CodeProcess) (action : CodeAction) (which : Part) (received : List ℤ) → IsPartOf code p process action → ReceivedFit (received_fields code action) received
    → Sound (site_of code p process action which) received
sound code p process action which received h heard =
    let keeps = (code_keeps code h.verified).actions p process h.there h.number action h.declared in
    record {
      keeps = keeps.part which;
      cells = omega (arith, length-append (cell_ranges process ++ input_ranges process) (map temporary_range action.temporaries), length-append (cell_ranges process) (input_ranges process));
      heard = heard;
    }

pub steps_fit : StepsFit
steps_fit code p process action which received m h heard fits =
    let whole = sound code p process action which received h heard in
    (goes_on (site_of code p process action which) received whole m fits, λ i is. divides_well (site_of code p process action which) i m (whole.keeps.each m.next i is) fits)

-- the registers of the cells, at the end
pub left_fits : (code : Code) (p : ℕ) (process : CodeProcess) (action : CodeAction) (which : Part) (n : ℕ) (t : Moment) → n ≡ length (cell_ranges process) → FitsSite (site_of code p process action which) t → FitsRunning code p process (left_by n t)
left_fits code p process action which n t same fits =
    let ranges = register_ranges process action.temporaries in
    let cut = both_take _ n ranges t.registers fits.registers.within in
    let cells : take n ranges ≡ cell_ranges process =
    take-append-le n (cell_ranges process ++ input_ranges process) (map temporary_range action.temporaries) (omega (arith, same, length-append (cell_ranges process) (input_ranges process)))
    ∙ take-append-le n (cell_ranges process) (input_ranges process) (omega (arith, same)) ∙ take_all n (cell_ranges process) (omega (arith, same)) in
    record {
      running = record {
        cells = record {
          counted = omega (arith, length-take n t.registers, fits.registers.counted, same, length-append (cell_ranges process ++ input_ranges process) (map temporary_range action.temporaries), length-append (cell_ranges process) (input_ranges process));
          within = subst (λ rs. AreIn rs (take n t.registers)) cells cut;
        };
        counted = fits.timers;
        timers = fits.delays;
      };
      sends = fits.sends;
    }

pub refused_after : (s : Site) (received : List ℤ) → Sound s received → (m : Moment) → FitsSite s m → Fails (setting_at s received) m → IsRefusedAfter (setting_at s received) m
refused_after s received h m fits fails = by_reason (subst (GoesOn s (setting_at s received) fails.at) fails.refused (goes_on s received h fails.at (reached s received h fails.ran m fails.at fits fails.leads).fits)) where
  by_reason : (is_ended (setting_at s received) fails.at ≡ true) ⊎ ((i : Instr) × (slice_get s.instrs fails.at.next ≡ Some i) × IsRefused i fails.at) → IsRefusedAfter (setting_at s received) m
  by_reason (inl ended) = absurd (omega (arith, eqb-true fails.at.next (length s.instrs) ended, fails.within))
  by_reason (inr found) = record { ran = fails.ran; at = fails.at; leads = fails.leads; instr = found.0; next = found.1; refused = found.2 }

pub bodies_run : BodiesRun
bodies_run code p process action received inputs r h heard given fits =
    by_run (run e (cost action.body) s) (parts_end code p process action part.Body received inputs r h) where
      site : Site
      site = site_of code p process action part.Body

      e : Setting
      e = setting_of code action part.Body received

      s : Moment
      s = opening_of action part.Body inputs r

      whole : Sound site received
      whole = sound code p process action part.Body received h heard

      begins : FitsSite site s
      begins = opening_fits code p process action part.Body inputs r ((code_keeps code h.verified).actions p process h.there h.number action h.declared).temporaries given fits

      by_run : (o : Run) → EndsWithin e (cost action.body) s o → BodyRuns code p process action e s r (o >>= λ ended. Some (left_by (length r.cells) ended.0, ended.1))
      by_run None fails = refused_after site received whole s begins fails
      by_run (Some ended) has =
          let come = reached site received whole ended.1 s ended.0 begins has.leads in
          record {
            fits = left_fits code p process action part.Body (length r.cells) ended.0 fits.running.cells.counted come.fits;
            steps = has.few;
            sends = omega (arith, come.sends, at_most_total one_send action.body s.counters);
            choices = omega (arith, come.choices, at_most_total one_choice action.body s.counters);
          }
