-- Taking the first option at each choice, code comes to its end.
use Rattle.std.proofs.Common.{◌≡◌, ◌+◌, ◌^◌, ◌<◌, ◌≤◌, ℕ, zero, suc, ℤ, pos, Bool, true, false, List, [], ◌∷◌, ◌++◌, map, length, refl, ap, sym, subst, ◌∙◌, slice_get, slice_set, Option, Some, None, arith}
use Rattle.std.specs.Prelude.{◌≤ℤ◌, ◌-ℤ◌, int_le, int_lt}
use Rattle.std.specs.List.{list_any}
use Rattle.std.specs.Ordering.{int_eq}
use Rattle.std.proofs.lemmas.Bool.{and_parts}
use Rattle.std.proofs.lemmas.Bool.Decides.{Decides-int_eq}
use Rattle.std.proofs.lemmas.Int.{ints}
use Rattle.tap_base.specs.Interval.{IsIn, from_to}
use Rattle.tap_base.specs.Option.{◌>>=◌}
use Rattle.tap_base.specs.Ranges.{AreAllIn, values_of}
use Rattle.tap_base.proofs.RangeFacts.{among_values, within_decides}
use Rattle.tap_exec.specs.Running.{Running}
use Rattle.register_code.specs.declared.bad.Part.TheVariants as part
use Rattle.register_code.specs.declared.code.Code.{Code}
use Rattle.register_code.specs.declared.code.CodeAction.{CodeAction}
use Rattle.register_code.specs.declared.code.CodeProcess.{CodeProcess}
use Rattle.register_code.specs.declared.instr.Instr.{Instr}
use Rattle.register_code.specs.declared.instr.Instr.TheVariants as instr
use Rattle.register_code.specs.Instructions.{Moment, Setting, does, ones, run_of, selects}
use Rattle.register_code.specs.Loops.{cost, one_step}
use Rattle.register_code.specs.Running.{EndsWithin, Leads, after, is_ended, left_by, run, step}
use Rattle.register_code.specs.Sites.{Site}
use Rattle.register_code.specs.Verified.{site_of}
use Rattle.register_code.proofs.Kept.{are_whole, code_keeps, nothing}
use Rattle.sound_code.specs.Fitting.{FitsSite, IsRefused}
use Rattle.sound_code.specs.Promises.{opening_of, setting_of}
use Rattle.sound_code.proofs.Ends.{next_of, parts_end, stepped}
use Rattle.sound_code.proofs.Falls.{still_counts}
use Rattle.sound_code.proofs.Framed.{does_frames, framed}
use Rattle.sound_code.proofs.Joined.{runs_are_steps}
use Rattle.sound_code.proofs.Named.{Outcome}
use Rattle.sound_code.proofs.Reached.{Sound, opening_fits, sound}
use Rattle.sound_code.proofs.StepsKept.{does_fit, setting_at}
use Rattle.drawn_code.specs.Ending.{BodiesCanEnd, BodyCanEnd, CanEnd, CodeCanEnd}

abbrev pub with_choices : Moment → List ℤ → Moment
with_choices m choices = record m { choices = choices }

-- what follows from a value that is there
pub given : {A B : Type 0} (o : Option A) (x : A) (f : A → Option B) (y : Option B) → o ≡ Some x → f x ≡ y → (o >>= f) ≡ y
given o x f y e g = rw e g

-- an instruction that takes these choices, and the rest
goes : (e : Setting) (m u : Moment) (i : Instr) (first : List ℤ) → slice_get e.instrs m.next ≡ Some i → does e i (with_choices m first) ≡ Some u → CanEnd e u → CanEnd e m
goes e m u i first is done rest =
    let frames = does_frames e i (with_choices m first) u done in
    let same : does e i (with_choices m (frames.taken ++ rest.choices)) ≡ Some (with_choices u rest.choices) = frames.same m.sends rest.choices ∙ ap (λ b. Some (framed u b rest.choices)) (sym frames.sends) in
    let went : step e (with_choices m (frames.taken ++ rest.choices)) ≡ Some (with_choices u rest.choices) = given (slice_get e.instrs m.next) i (λ j. does e j (with_choices m (frames.taken ++ rest.choices))) (Some (with_choices u rest.choices)) is same in
    record {
      choices = frames.taken ++ rest.choices;
      ran = suc rest.ran;
      end = rest.end;
      leads = given (step e (with_choices m (frames.taken ++ rest.choices))) (with_choices u rest.choices) (after e rest.ran) (Some rest.end) went rest.leads;
      ended = rest.ended;
      taken = rest.taken;
    }

module _ (s : Site) (received : List ℤ) (h : Sound s received) (n : ℕ) (m : Moment) (fits : FitsSite s m) (few : still_counts one_step s.instrs m.counters m.next ≤ n)
    (rest : (u : Moment) → FitsSite s u → suc (still_counts one_step s.instrs u.counters u.next) ≤ n → CanEnd (setting_at s received) u) where
  abbrev e : Setting
  e = setting_at s received

  on : (i : Instr) (first : List ℤ) (u : Moment) → slice_get s.instrs m.next ≡ Some i → does e i (with_choices m first) ≡ Some u → CanEnd e m
  on i first u is done =
      let from = with_choices m first in
      let fit : FitsSite s from = record { registers = fits.registers; counters = fits.counters; timers = fits.timers; delays = fits.delays; sends = fits.sends; inside = fits.inside } in
      let outcome = does_fit s received i from (are_whole s h.keeps) is (h.keeps.each m.next i is) h.cells h.heard fit in
      let went : step e from ≡ Some u = given (slice_get s.instrs m.next) i (λ j. does e j from) (Some u) is done in
      let less = (stepped one_step e (are_whole s h.keeps) from u went).falls.less in
      goes e m u i first is done (rest u (subst (Outcome s i from) done outcome) (omega (arith, less, few)))

  at_most : (x y : ℤ) → int_le x y ≡ true → x ≤ℤ y
  at_most x y f = grind (arith, ints)

  by_ones : (r first count : ℕ) (xs : List ℤ) (ks : List ℕ) → slice_get s.instrs m.next ≡ Some (instr.Select r first count) → run_of first count m.registers ≡ Some xs → ones 0 xs ≡ ks
      → does e (instr.Select r first count) (with_choices m []) ≡ None → CanEnd e m
  by_ones r first count xs [] is there f none =
      let u = record m { next = m.next + 1; registers = slice_set m.registers r (pos count); choices = [] } in
      on (instr.Select r first count) [] u is (given (run_of first count m.registers) xs (λ ys. selects r count (ones 0 ys) (with_choices m [])) (Some u) there (ap (λ js. selects r count js (with_choices m [])) f))
  by_ones r first count xs (k ∷ []) is there f none =
      let u = record m { next = m.next + 1; registers = slice_set m.registers r (pos k); choices = [] } in
      on (instr.Select r first count) [] u is (given (run_of first count m.registers) xs (λ ys. selects r count (ones 0 ys) (with_choices m [])) (Some u) there (ap (λ js. selects r count js (with_choices m [])) f))
  by_ones r first count xs (k ∷ l ∷ more) is there f none =
      let u = record m { next = m.next + 1; registers = slice_set m.registers r (pos k); choices = [] } in
      let same : int_eq (pos k) (pos k) ≡ true = (Decides-int_eq (pos k) (pos k)).1 refl in
      let chosen : selects r count (k ∷ l ∷ more) (with_choices m (pos k ∷ [])) ≡ Some u = rw same refl in
      on (instr.Select r first count) (pos k ∷ []) u is
      (given (run_of first count m.registers) xs (λ ys. selects r count (ones 0 ys) (with_choices m (pos k ∷ []))) (Some u) there (ap (λ js. selects r count js (with_choices m (pos k ∷ []))) f ∙ chosen))

  by_refused : (i : Instr) → slice_get s.instrs m.next ≡ Some i → does e i (with_choices m []) ≡ None → IsRefused i (with_choices m []) → CanEnd e m
  by_refused (instr.Choose r lo hi) is none refused =
      let low = at_most lo hi (and_parts (int_le lo hi) (int_lt (hi -ℤ lo) (pos (2 ^ 32))) (h.keeps.each m.next (instr.Choose r lo hi) is).options).0 in
      let there : list_any (int_eq lo) (values_of (from_to lo hi)) ≡ true = among_values (from_to lo hi) lo ∙ (within_decides (from_to lo hi) lo).1 (omega (arith, ints), low) in
      on (instr.Choose r lo hi) (lo ∷ []) (record m { next = m.next + 1; registers = slice_set m.registers r lo; choices = [] }) is (rw there refl)
  by_refused (instr.Select r first count) is none refused = by_ones r first count refused.0 (ones 0 refused.0) is refused.1 refl none
  by_refused _ is none refused = absurd refused

  by_step : (i : Instr) → slice_get s.instrs m.next ≡ Some i → (o : Option Moment) → does e i (with_choices m []) ≡ o → Outcome s i (with_choices m []) o → CanEnd e m
  by_step i is None done outcome = by_refused i is done outcome
  by_step i is (Some u) done outcome = on i [] u is done

  by_end : (b : Bool) → is_ended e m ≡ b → CanEnd e m
  by_end true f = record { choices = []; ran = 0; end = with_choices m []; leads = refl; ended = f; taken = refl }
  by_end false f =
      let next = next_of e m fits.inside f in
      let fit : FitsSite s (with_choices m []) = record { registers = fits.registers; counters = fits.counters; timers = fits.timers; delays = fits.delays; sends = fits.sends; inside = fits.inside } in
      by_step next.0 next.1 (does e next.0 (with_choices m [])) refl (does_fit s received next.0 (with_choices m []) (are_whole s h.keeps) next.1 (h.keeps.each m.next next.0 next.1) h.cells h.heard fit)

  pub from_here : CanEnd e m
  from_here = by_end (is_ended e m) refl

pub can_end : (s : Site) (received : List ℤ) → Sound s received → (n : ℕ) (m : Moment) → FitsSite s m → still_counts one_step s.instrs m.counters m.next ≤ n → CanEnd (setting_at s received) m
can_end s received h zero m fits few = from_here s received h zero m fits few (λ u f l. absurd (omega (arith, l)))
can_end s received h (suc n) m fits few = from_here s received h (suc n) m fits few (λ u f l. can_end s received h n u f (omega (arith, l)))

pub code_can_end : CodeCanEnd
code_can_end code p process action which received m h heard fits =
    let site = site_of code p process action which in
    can_end site received (sound code p process action which received h heard) (still_counts one_step site.instrs m.counters m.next) m fits (omega arith)

pub bodies_can_end : BodiesCanEnd
bodies_can_end code p process action received inputs r h heard within fits =
    let begins = opening_fits code p process action part.Body inputs r ((code_keeps code h.verified).actions p process h.there h.number action h.declared).temporaries within fits in
    by_end (code_can_end code p process action part.Body received (opening_of action part.Body inputs r) h heard begins) where
      by_end : CanEnd (setting_of code action part.Body received) (opening_of action part.Body inputs r) → BodyCanEnd code action inputs received r
      by_end c =
          let e = setting_of code action part.Body received in
          let s = opening_of action part.Body inputs (record r { choices = c.choices }) in
          let there : run e (cost action.body) s ≡ Some (c.end, c.ran) = (runs_are_steps code p process action part.Body received inputs (record r { choices = c.choices }) h).0 c.end c.ran c.leads c.ended in
          let has = subst (EndsWithin e (cost action.body) s) there (parts_end code p process action part.Body received inputs (record r { choices = c.choices }) h) in
          record { choices = c.choices; left = left_by (length r.cells) c.end; ran = c.ran; run = rw there refl; taken = c.taken; few = has.few }
