-- A part that keeps the rules on jumps and loops ends within its cost.
use Rattle.std.proofs.Common.{◌≡◌, ◌<◌, ◌≤◌, ◌&&◌, ℕ, zero, suc, Bool, true, false, if◌then◌else◌, List, length, refl, ap, sym, subst, ◌∙◌, slice_get, Option, Some, None, arith}
use Rattle.std.specs.Prelude.{nat_lt, nat_le}
use Rattle.std.proofs.lemmas.Bool.{eqb-false, ne_eqb, le-leb}
use Rattle.std.proofs.lemmas.Option.{slice_get_within, option_and_then_some, gets}
use Rattle.tap_base.specs.Option.{◌>>=◌, provided}
use Rattle.register_code.specs.Jumping.{AreWhole}
use Rattle.register_code.specs.declared.instr.Instr.{Instr}
use Rattle.register_code.specs.Instructions.{Setting, Moment, does}
use Rattle.register_code.specs.declared.loops.Loop.{Loop}
use Rattle.register_code.specs.Loops.{counted, loop_at, one_step, times, total, weight}
use Rattle.register_code.specs.Running.{Fails, EndsWithin, Leads, Run, after, is_ended, one_more, run, step}
use Rattle.register_code.specs.Loops.{cost}
use Rattle.sound_code.specs.Promises.{PartsEnd, opening_of, setting_of}
use Rattle.register_code.specs.Verified.{instrs_of, site_of}
use Rattle.register_code.proofs.Kept.{are_whole, code_keeps}
use Rattle.sound_code.proofs.Falls.{Falls, falls, still_counts, counter}
use Rattle.sound_code.proofs.Moves.{goes}
use Rattle.register_code.proofs.Nested.{nest}
use Rattle.register_code.proofs.Remaining.{at_first, factor, passes, within}
use Rattle.register_code.proofs.Sums.{product_le}

-- ---- the whole part

factor_is : (instrs : List Instr) (i b : ℕ) → factor (nest instrs) 0 i b ≤ times instrs b i
factor_is instrs i b = let there : nat_le 0 b ≡ true = le-leb 0 b (omega arith) in rw there (by_loop (loop_at instrs b) refl) where
  at : (t : Bool) → (if t then 1 else 1) ≤ 1
  at true = omega arith
  at false = omega arith

  by_loop : (o : Option Loop) → loop_at instrs b ≡ o → (if within (nest instrs) b i then (nest instrs).count b else 1) ≤ times instrs b i
  by_loop None e = rw e (at (nat_lt b i && nat_le i 0))
  by_loop (Some loop) e = rw e (omega arith)

passes_is : (instrs : List Instr) (i : ℕ) → passes (nest instrs) 0 i ≤ weight instrs i
unfolding passes
passes_is instrs i = product_le (length instrs) (factor (nest instrs) 0 i) (λ b. times instrs b i) (λ b l. factor_is instrs i b)

pub at_most_total : (counts : Instr → ℕ) (instrs : List Instr) (counters : List ℕ) → still_counts counts instrs counters 0 ≤ total counts instrs
at_most_total counts instrs counters = at_first (nest instrs) (λ i. counted counts (slice_get instrs i)) (counter counters) (weight instrs) (passes_is instrs)

-- ---- one step

-- where a part has not ended, its next instruction
pub next_of : (e : Setting) (s : Moment) → s.next ≤ length e.instrs → is_ended e s ≡ false → (i : Instr) × (slice_get e.instrs s.next ≡ Some i)
next_of e s inside going = by_get (slice_get e.instrs s.next) refl where
  by_get : (o : Option Instr) → slice_get e.instrs s.next ≡ o → (i : Instr) × (slice_get e.instrs s.next ≡ Some i)
  by_get None f = absurd (none_within (omega (arith, eqb-false s.next (length e.instrs) going)) f) where
    none_within : s.next < length e.instrs → slice_get e.instrs s.next ≡ None → ⊥
    none_within l g = grind (arith, gets)
  by_get (Some i) f = (i, f)

pub record Stepped (counts : Instr → ℕ) (e : Setting) (s t : Moment) : Type 0 where
  pub instr : Instr
  pub next : slice_get e.instrs s.next ≡ Some instr
  pub done : does e instr s ≡ Some t
  pub falls : Falls counts e.instrs instr s.counters s.next t.counters t.next

pub stepped : (counts : Instr → ℕ) (e : Setting) → AreWhole e.instrs → (s t : Moment) → step e s ≡ Some t → Stepped counts e s t
stepped counts e h s t f =
    option_and_then_some _ (slice_get e.instrs s.next) t f
    (λ i is g. record { instr = i; next = is; done = g; falls = falls counts e.instrs h i s t is (goes e i s t g) })

-- ---- to the end

later : (e : Setting) (s t : Moment) → step e s ≡ Some t → Fails e t → Fails e s
later e s t f fails = record { ran = suc fails.ran; at = fails.at; leads = rw f fails.leads; within = fails.within; refused = fails.refused }

pub ends : (e : Setting) → AreWhole e.instrs → (n : ℕ) (s : Moment) → s.next ≤ length e.instrs → still_counts one_step e.instrs s.counters s.next ≤ n → EndsWithin e n s (run e n s)
ends e h zero s inside few = by_end (is_ended e s) refl where
  by_step : (o : Option Moment) → step e s ≡ o → is_ended e s ≡ false → Fails e s
  by_step None f going = record { ran = 0; at = s; leads = refl; within = omega (arith, eqb-false s.next (length e.instrs) going); refused = f }
  by_step (Some t) f going = let less = (stepped one_step e h s t f).falls.less in absurd (omega (arith, less, few))

  by_end : (b : Bool) → is_ended e s ≡ b → EndsWithin e zero s (provided b (s, 0))
  by_end true f = record { leads = refl; ended = f; few = omega arith }
  by_end false f = by_step (step e s) refl f
ends e h (suc n) s inside few = by_end (is_ended e s) refl (λ t. ends e h n t) where
  more : (t : Moment) (r : Run) → step e s ≡ Some t → EndsWithin e n t r → EndsWithin e (suc n) s (one_more r)
  more t None f fails = later e s t f fails
  more t (Some r) f ended = record { leads = rw f ended.leads; ended = ended.ended; few = omega (arith, ended.few) }

  by_step : (o : Option Moment) → step e s ≡ o → is_ended e s ≡ false
      → ((t : Moment) → t.next ≤ length e.instrs → still_counts one_step e.instrs t.counters t.next ≤ n → EndsWithin e n t (run e n t)) → EndsWithin e (suc n) s (one_more (o >>= run e n))
  by_step None f going rest = record { ran = 0; at = s; leads = refl; within = omega (arith, eqb-false s.next (length e.instrs) going); refused = f }
  by_step (Some t) f going rest =
      let fallen = (stepped one_step e h s t f).falls in
      more t (run e n t) f (rest t fallen.stays (omega (arith, fallen.less, few)))

  by_end : (b : Bool) → is_ended e s ≡ b
      → ((t : Moment) → t.next ≤ length e.instrs → still_counts one_step e.instrs t.counters t.next ≤ n → EndsWithin e n t (run e n t)) → EndsWithin e (suc n) s (if b then Some (s, 0) else one_more (step e s >>= run e n))
  by_end true f rest = record { leads = refl; ended = f; few = omega arith }
  by_end false f rest = by_step (step e s) refl f rest

-- ---- one run, one end

-- An ended part has no next instruction.
pub goes_on : (e : Setting) (s t : Moment) → step e s ≡ Some t → is_ended e s ≡ false
goes_on e s t f = option_and_then_some _ (slice_get e.instrs s.next) t f (λ i is g. ne_eqb s.next (length e.instrs) (λ same. omega (arith, slice_get_within e.instrs s.next i is)))

-- what leads to an end is the run
pub run_is : (e : Setting) (n m : ℕ) (s t : Moment) → Leads e s m t → is_ended e t ≡ true → m ≤ n → run e n s ≡ Some (t, m)
run_is e n zero s t leads ended few = let same : s ≡ t = cc in ended_run n (subst (λ u. is_ended e u ≡ true) (sym same) ended) ∙ ap (λ u. Some (u, 0)) same where
  ended_run : (k : ℕ) → is_ended e s ≡ true → run e k s ≡ Some (s, 0)
  ended_run zero f = rw f refl
  ended_run (suc k) f = rw f refl
run_is e zero (suc m) s t leads ended few = absurd (omega arith)
run_is e (suc n) (suc m) s t leads ended few =
    option_and_then_some (after e m) (step e s) t leads
    (λ u f g. let rest = run_is e n m u t g ended (omega arith) in
    let going : is_ended e s ≡ false = goes_on e s u f in rw (going, f, rest) (ap (λ k. Some (t, k)) (omega arith)))

-- ---- verified code

pub parts_end : PartsEnd
parts_end code p process action which received inputs r h =
    let keeps = (code_keeps code h.verified).actions p process h.there h.number action h.declared in
    let whole = are_whole (site_of code p process action which) (keeps.part which) in
    ends (setting_of code action which received) whole (cost (instrs_of which action)) (opening_of action which inputs r) (omega arith) (at_most_total one_step (instrs_of which action) (opening_of action which inputs r).counters)
