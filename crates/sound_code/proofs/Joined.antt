-- Steps that lead on to steps.
use Rattle.std.proofs.Common.{◌≡◌, ◌+◌, ◌<◌, ◌≤◌, ℕ, zero, suc, false, length, refl, ap, sym, subst, ◌∙◌, Some, None, arith}
use Rattle.std.proofs.lemmas.Bool.{ne_eqb}
use Rattle.std.proofs.lemmas.Option.{option_and_then_some}
use Rattle.register_code.specs.Instructions.{Moment, Setting}
use Rattle.register_code.specs.Loops.{cost, one_step}
use Rattle.sound_code.specs.Promises.{RunsAreSteps, StepsJoin, opening_of, setting_of}
use Rattle.register_code.specs.Jumping.{AreWhole}
use Rattle.register_code.specs.Running.{Fails, Leads, after, is_ended, run, step}
use Rattle.register_code.specs.Verified.{instrs_of, site_of}
use Rattle.sound_code.proofs.Ends.{at_most_total, goes_on, run_is, stepped}
use Rattle.sound_code.proofs.Falls.{still_counts}
use Rattle.register_code.proofs.Kept.{are_whole, code_keeps}

pub leads_on : (e : Setting) (m n : ℕ) (s t u : Moment) → Leads e s m t → Leads e t n u → Leads e s (m + n) u
leads_on e zero n s t u f g = let same : s ≡ t = cc in let more : zero + n ≡ n = omega arith in subst (λ k. Leads e s k u) (sym more) (subst (λ v. Leads e v n u) (sym same) g)
leads_on e (suc m) n s t u f g =
    option_and_then_some (after e m) (step e s) t f
    (λ v h k. let rest = leads_on e m n v t u k g in
    let more : suc m + n ≡ suc (m + n) = omega arith in subst (λ j. Leads e s j u) (sym more) (rw h rest))

pub fails_on : (e : Setting) (m : ℕ) (s t : Moment) → Leads e s m t → Fails e t → Fails e s
fails_on e m s t f fails = record { ran = m + fails.ran; at = fails.at; leads = leads_on e m fails.ran s t fails.at f fails.leads; within = fails.within; refused = fails.refused }

pub steps_join : StepsJoin
steps_join e s t u m n f = (leads_on e m n s t u f, fails_on e m s t f)

none_after : (e : Setting) (k n : ℕ) (s at : Moment) → Leads e s n at → at.next < length e.instrs → step e at ≡ None → run e k s ≡ None
none_after e k zero s at f inside refused = by_budget k where
  same : s ≡ at
  same = cc

  going : is_ended e s ≡ false
  going = subst (λ m. is_ended e m ≡ false) (sym same) (ne_eqb at.next (length e.instrs) (λ h. omega (arith, inside)))

  stuck : step e s ≡ None
  stuck = ap (step e) same ∙ refused

  by_budget : (j : ℕ) → run e j s ≡ None
  by_budget zero = rw going refl
  by_budget (suc j) = rw (going, stuck) refl
none_after e k (suc n) s at f inside refused =
    option_and_then_some (after e n) (step e s) at f (λ u h g. by_budget k u h (λ j. none_after e j n u at g inside refused)) where
      by_budget : (j : ℕ) (u : Moment) → step e s ≡ Some u → ((i : ℕ) → run e i u ≡ None) → run e j s ≡ None
      by_budget zero u h rest = let going = goes_on e s u h in rw going refl
      by_budget (suc j) u h rest = let going = goes_on e s u h in let none = rest j in rw (going, h, none) refl

-- each step takes one off
falls_by : (e : Setting) → AreWhole e.instrs → (n : ℕ) (s t : Moment) → Leads e s n t → still_counts one_step e.instrs t.counters t.next + n ≤ still_counts one_step e.instrs s.counters s.next
falls_by e h zero s t f = let same : s ≡ t = cc in subst (λ u. still_counts one_step e.instrs u.counters u.next + 0 ≤ still_counts one_step e.instrs s.counters s.next) same (omega arith)
falls_by e h (suc n) s t f =
    option_and_then_some (after e n) (step e s) t f
    (λ u g k. let rest = falls_by e h n u t k in
    let here = (stepped one_step e h s u g).falls.less in omega (arith, rest, here))

pub runs_are_steps : RunsAreSteps
runs_are_steps code p process action which received inputs r h = (
  λ t n f ended. run_is e (cost (instrs_of which action)) n s t f ended (omega (arith, falls_by e whole n s t f, at_most_total one_step (instrs_of which action) s.counters)),
  λ fails. none_after e (cost (instrs_of which action)) fails.ran s fails.at fails.leads fails.within fails.refused,
) where
  e : Setting
  e = setting_of code action which received

  s : Moment
  s = opening_of action which inputs r

  whole : AreWhole (instrs_of which action)
  whole = are_whole (site_of code p process action which) (((code_keeps code h.verified).actions p process h.there h.number action h.declared).part which)
