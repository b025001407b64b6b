-- A guard that has run to its end tells its value.
use Rattle.std.proofs.Common.{◌≡◌, ◌+◌, ◌<◌, ◌≤◌, ℕ, ℤ, pos, Bool, true, false, List, [], ◌++◌, map, replicate, take, length, refl, ap, sym, subst, ◌∙◌, slice_get, Option, Some, None, arith}
use Rattle.std.specs.Prelude.{nat_le}
use Rattle.std.specs.Ordering.{int_eq}
use Rattle.std.proofs.lemmas.Bool.{and_parts, leb-true, eq-eqb}
use Rattle.std.proofs.lemmas.List.{length-append, length-map, length-replicate, length-take, take-append-le, take_all}
use Rattle.std.proofs.lemmas.Option.{slice_get_within}
use Rattle.tap_exec.specs.Running.{Running}
use Rattle.tap_exec.specs.declared.running.TimerState.{TimerState}
use Rattle.tap_exec.specs.declared.running.TimerState.TheVariants.{Off}
use Rattle.tap_base.proofs.ListFacts.{each_replicate}
use Rattle.abstract_run.specs.Fits.{IsFitTimer}
use Rattle.register_code.specs.declared.bad.Part.TheVariants as part
use Rattle.register_code.specs.declared.code.CodeAction.{CodeAction}
use Rattle.tap_base.specs.Interval.{from_to}
use Rattle.register_code.specs.declared.code.CodeInput.{CodeInput}
use Rattle.register_code.specs.declared.code.CodeTemporary.{CodeTemporary}
use Rattle.register_code.specs.declared.instr.Instr.{Instr}
use Rattle.register_code.specs.Instructions.{Moment, Setting}
use Rattle.register_code.specs.Loops.{cost}
use Rattle.register_code.specs.Naming.{may_stand, may_write, written}
use Rattle.register_code.specs.Running.{Leads, Run, guard_holds, guard_running, is_ended, run}
use Rattle.register_code.specs.Sites.{Site, holds_of}
use Rattle.register_code.specs.Verified.{site_of}
use Rattle.register_code.proofs.Kept.{code_keeps}
use Rattle.sound_code.specs.Fitting.{FitsSite}
use Rattle.sound_code.specs.Promises.{FitsRunning, GuardRuns, opening_of, setting_of}
use Rattle.sound_code.proofs.Guarded.{guards_run}
use Rattle.sound_code.proofs.Joined.{runs_are_steps}
use Rattle.sound_code.proofs.Named.{names_of}
use Rattle.sound_code.proofs.Reached.{Sound, opening_fits, sound}
use Rattle.code_steps.specs.Holding.{Held, moment}
use Rattle.code_steps.specs.Guarding.{ComesTo, IsInGuard, KeepsFirst, StartsGuard, WritesBehind}
use Rattle.code_steps.proofs.Guards.{heard_nothing}

-- as a guard begins
abbrev pub opened : CodeAction → ℕ → Held → Held
opened action keep h = record h { next = 0; registers = take keep h.registers ++ map (λ (t : CodeTemporary). t.lo) action.temporaries; counters = replicate (length action.guard) 0 }

one_end : (o : Run) (a b : Moment) (n k : ℕ) → o ≡ Some (a, n) → o ≡ Some (b, k) → a ≡ b
one_end o a b n k e f = ap (λ (run : Run). end_of run) both where
  both : ◌≡◌ {A = Run} (Some (a, n)) (Some (b, k))
  both = sym e ∙ f

  end_of : Run → Moment
  end_of None = a
  end_of (Some ended) = ended.0

module _ (action : CodeAction) (keep : ℕ) (h : Held) (g : StartsGuard action keep h) where
  abbrev r : Running
  r = guard_running g.process.timers g.cells

  abbrev e : Setting
  e = setting_of g.code action part.Guard []

  abbrev s : Moment
  s = opening_of action part.Guard g.inputs r

  abbrev site : Site
  site = site_of g.code g.number g.process action part.Guard

  abbrev timers : List TimerState
  timers = replicate g.process.timers Off

  begun : moment (opened action keep h) timers [] [] ≡ s
  begun = ap (λ (xs : List ℤ). record { next = 0; registers = xs ++ map (λ (t : CodeTemporary). t.lo) action.temporaries; counters = replicate (length action.guard) 0; timers = timers; sends = []; choices = [] }) g.first

  begins : FitsSite site s
  begins =
      let fits : FitsRunning g.code g.number g.process r = record { running = record { cells = g.cells_fit; counted = length-replicate g.process.timers Off; timers = each_replicate IsFitTimer g.process.timers Off tt }; sends = tt } in
      opening_fits g.code g.number g.process action part.Guard g.inputs r ((code_keeps g.code g.verified.verified).actions g.number g.process g.verified.there g.verified.number action g.verified.declared).temporaries g.inputs_fit fits

  pub starts : IsInGuard action.guard (opened action keep h)
  starts = record {
    code = g.code;
    number = g.number;
    process = g.process;
    action = action;
    verified = g.verified;
    local = g.local;
    instrs_are = refl;
    timers = timers;
    fits = subst (FitsSite site) (sym begun) begins;
  }

  -- what the guard comes to is what its code gives
  pub runs : (end : Held) (c : ComesTo action.guard (opened action keep h) end) → end.next ≡ length action.guard → run e (cost action.guard) s ≡ Some (moment end timers [] [], c.ran)
  runs end c ended =
      let leads : Leads e s c.ran (moment end timers [] []) = subst (λ m. Leads e m c.ran (moment end timers [] [])) begun (c.leads e timers [] [] refl refl) in
      let done : is_ended e (moment end timers [] []) ≡ true = eq-eqb end.next (length action.guard) ended in
      (runs_are_steps g.code g.number g.process action part.Guard [] g.inputs r g.verified).0 (moment end timers [] []) c.ran leads done

  pub result_inside : (end : Held) → ComesTo action.guard (opened action keep h) end → end.next ≡ length action.guard → action.result < length end.registers
  result_inside end c ended =
      let told : GuardRuns g.code g.process action g.cells g.inputs = guards_run g.code g.number g.process action g.cells g.inputs g.verified g.local g.cells_fit g.inputs_fit in
      let first = runs end c ended in
      let second = told.run_is in
      let same : told.end ≡ moment end timers [] [] = one_end _ told.end (moment end timers [] []) told.ran c.ran second first in
      slice_get_within end.registers action.result told.value (subst (λ (m : Moment). slice_get m.registers action.result ≡ Some told.value) same told.result)

  pub tells : (end : Held) (x : ℤ) → ComesTo action.guard (opened action keep h) end → end.next ≡ length action.guard → slice_get end.registers action.result ≡ Some x
      → int_eq x (pos 1) ≡ guard_holds g.code.messages g.process.timers action g.cells g.inputs
  tells end x c ended at = let ran = runs end c ended in rw (ran, at) refl

  whole : Sound site []
  whole = sound g.code g.number g.process action part.Guard [] g.verified (heard_nothing g.code action g.local)

  keep_is : keep ≡ site.cells + site.inputs
  keep_is = omega (arith, ap length g.first, length-take keep h.registers, length-append g.cells g.inputs, g.inside, g.cells_fit.counted, g.inputs_fit.counted, length-map g.process.inputs (λ (i : CodeInput). from_to i.lo i.hi))

  pub behind : WritesBehind keep action.guard
  behind = record {
    guards = λ at i is. (and_parts _ (may_stand part.Guard i) (whole.keeps.each at i is).names).1;
    behind = λ at i r is w. let k : holds_of (written i) (may_write site) ≡ true = (names_of site i (whole.keeps.each at i is).names).written in by_write r (subst (λ (o : Option ℕ). holds_of o (may_write site) ≡ true) w k);
  } where
    by_write : (r : ℕ) → may_write site r ≡ true → keep ≤ r
    by_write r e = by_test (nat_le (site.cells + site.inputs) r) refl where
      by_test : (b : Bool) → nat_le (site.cells + site.inputs) r ≡ b → keep ≤ r
      by_test true f = omega (arith, keep_is, leb-true (site.cells + site.inputs) r f)
      by_test false f = let no : false ≡ true = (rw f at e) in absurd cc

  pub kept : (end : Held) → ((k : ℕ) → WritesBehind k action.guard → take k end.registers ≡ take k (opened action keep h).registers) → take keep end.registers ≡ take keep h.registers
  kept end keeps =
      let long = length-take keep h.registers in
      keeps keep behind ∙ take-append-le keep (take keep h.registers) (map (λ (t : CodeTemporary). t.lo) action.temporaries) (omega (arith, long, g.inside)) ∙ take_all keep (take keep h.registers) (omega (arith, long, g.inside))

-- ---- as the function leaves it

pub opened_is : (action : CodeAction) (keep : ℕ) (h new : Held) (lows : List CodeTemporary) (n : ℕ) → new ≡ record h { next = 0; registers = take keep h.registers ++ map (λ (t : CodeTemporary). t.lo) lows; counters = replicate n 0 }
    → lows ≡ action.temporaries → n ≡ length action.guard → new ≡ opened action keep h
opened_is action keep h new lows n is e f =
    is ∙ ap (λ (ts : List CodeTemporary). record h { next = 0; registers = take keep h.registers ++ map (λ (t : CodeTemporary). t.lo) ts; counters = replicate n 0 }) e
    ∙ ap (λ (k : ℕ). record h { next = 0; registers = take keep h.registers ++ map (λ (t : CodeTemporary). t.lo) action.temporaries; counters = replicate k 0 }) f

-- a run of the guard of an action from its beginning to its end
pub record Finished (action : CodeAction) (keep : ℕ) (h end : Held) : Type 0 where
  pub comes : ComesTo action.guard (opened action keep h) end
  pub ended : end.next ≡ length action.guard
  pub keeps : KeepsFirst action.guard (opened action keep h) end

pub finished : (action : CodeAction) (keep : ℕ) (h new end : Held) (instrs : List Instr) → new ≡ opened action keep h → instrs ≡ action.guard → ComesTo instrs new end → end.next ≡ length instrs → KeepsFirst instrs new end → Finished action keep h end
finished action keep h new end instrs e f comes ended keeps = record {
  comes = subst (λ n. ComesTo action.guard n end) e (subst (λ is. ComesTo is new end) f comes);
  ended = subst (λ is. end.next ≡ length is) f ended;
  keeps = subst (λ n. KeepsFirst action.guard n end) e (subst (λ is. KeepsFirst is new end) f keeps);
}

pub kept_first : (action : CodeAction) (keep : ℕ) (h end : Held) → StartsGuard action keep h → Finished action keep h end → take keep end.registers ≡ take keep h.registers
kept_first action keep h end g done = kept action keep h g end done.keeps

pub kept_inside : (keep : ℕ) (h end : Held) → take keep end.registers ≡ take keep h.registers → keep ≤ length h.registers → keep ≤ length end.registers
kept_inside keep h end e inside = omega (arith, ap length e, length-take keep end.registers, length-take keep h.registers, inside)
