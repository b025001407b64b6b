-- Jumps, loops and timers lead to moments that fit.
use Rattle.std.proofs.Common.{◌≡◌, ◌+◌, ◌-◌, ◌^◌, ◌<◌, ◌≤◌, ◌&&◌, ℕ, ℤ, pos, negsuc, Bool, true, false, if◌then◌else◌, List, length, sym, subst, ◌∙◌, slice_get, slice_set, Some, arith}
use Rattle.std.specs.Prelude.{nat_lt, nat_le, int_le, int_lt, unsigned_abs}
use Rattle.std.specs.Ordering.{int_eq}
use Rattle.std.proofs.lemmas.Bool.{and_parts, and_from, leb-true}
use Rattle.std.proofs.lemmas.Int.{ints}
use Rattle.std.proofs.lemmas.List.{length-set}
use Rattle.tap_base.specs.Interval.{IsIn, from_to}
use Rattle.tap_exec.specs.declared.running.TimerState.{TimerState}
use Rattle.tap_exec.specs.declared.running.TimerState.TheVariants as timer
use Rattle.abstract_run.specs.Fits.{IsFitTimer}
use Rattle.tap_base.specs.Option.{◌>>=◌, provided}
use Rattle.tap_base.proofs.ListFacts.{each_set, element_at}
use Rattle.register_code.specs.declared.instr.Instr.{Instr}
use Rattle.sound_code.specs.Fitting.{FitsSite}
use Rattle.register_code.specs.Instructions.{Moment, sets, turns}
use Rattle.register_code.specs.Jumping.{jump_fits}
use Rattle.register_code.specs.Naming.{named}
use Rattle.register_code.specs.Sites.{Site, both_in}
use Rattle.sound_code.proofs.Fitted.{both_are, held, held_in, lies_on}
use Rattle.sound_code.proofs.Named.{Outcome, le_is, lt_is}

-- ---- jumps and loops

pub goes_to : (s : Site) (m : Moment) (q : ℕ) → FitsSite s m → q ≤ length s.instrs → FitsSite s (record m { next = q })
goes_to s m q fits inside = record { registers = fits.registers; counters = fits.counters; timers = fits.timers; delays = fits.delays; sends = fits.sends; inside = inside }

pub counts_to : (s : Site) (m : Moment) (q b k : ℕ) → FitsSite s m → q ≤ length s.instrs → FitsSite s (record m { next = q; counters = slice_set m.counters b k })
counts_to s m q b k fits inside =
    record { registers = fits.registers; counters = length-set m.counters b k ∙ fits.counters; timers = fits.timers; delays = fits.delays; sends = fits.sends; inside = inside }

pub target_inside : (instrs : List Instr) (at target : ℕ) → jump_fits instrs at target ≡ true → target ≤ length instrs
target_inside instrs at target e =
    let parts = and_parts (nat_lt at target && nat_le target (length instrs)) _ e in
    leb-true target (length instrs) (and_parts (nat_lt at target) (nat_le target (length instrs)) parts.0).1

pub branch_fits : (s : Site) (m : Moment) (i : Instr) (a : ℕ) (imm : ℤ) (target : ℕ) → FitsSite s m → m.next < length s.instrs → nat_lt a (length s.ranges) ≡ true → target ≤ length s.instrs
    → Outcome s i m (slice_get m.registers a >>= λ x. Some (record m { next = if int_eq x imm then m.next + 1 else target }))
branch_fits s m i a imm target fits going named inside =
    let x = held s m a fits named in
    let at = x.at in
    rw at (goes_to s m (if int_eq x.value imm then m.next + 1 else target) fits (either (int_eq x.value imm))) where
      either : (b : Bool) → (if b then m.next + 1 else target) ≤ length s.instrs
      either true = omega (arith, going)
      either false = inside

pub again_fits : (s : Site) (m : Moment) (i : Instr) (first : ℕ) → FitsSite s m → m.next < length s.instrs → first < length s.instrs
    → Outcome s i m (slice_get m.counters first >>= λ left. turns first (left - 1) m)
again_fits s m i first fits going inside =
    let left = element_at m.counters first (omega (arith, inside, fits.counters)) in
    let at = left.1 in
    rw at (counts_to s m (if nat_lt 0 (left.0 - 1) then first + 1 else m.next + 1) first (left.0 - 1) fits (either (nat_lt 0 (left.0 - 1)))) where
      either : (b : Bool) → (if b then first + 1 else m.next + 1) ≤ length s.instrs
      either true = omega (arith, inside)
      either false = omega (arith, going)

-- ---- timers

pub sets_fits : (s : Site) (m : Moment) (i : Instr) (t : ℕ) (state : TimerState) → FitsSite s m → m.next < length s.instrs → IsFitTimer state → Outcome s i m (sets t state m)
sets_fits s m i t state fits going fit = record {
  registers = fits.registers;
  counters = fits.counters;
  timers = length-set m.timers t state ∙ fits.timers;
  delays = each_set IsFitTimer m.timers t state fits.delays fit;
  sends = fits.sends;
  inside = omega (arith, going);
}

pub start_fits : (s : Site) (m : Moment) (i : Instr) (t a : ℕ) → FitsSite s m → m.next < length s.instrs → both_in (slice_get s.ranges a) (Some (from_to (pos 0) (pos 4294967295))) ≡ true
    → Outcome s i m (slice_get m.registers a >>= λ x. provided (int_le (pos 0) x && int_lt x (pos (2 ^ 32))) (unsigned_abs x) >>= λ delay. sets t (timer.Armed delay) m)
start_fits s m i t a fits going kept =
    let lie = both_are (slice_get s.ranges a) (Some (from_to (pos 0) (pos 4294967295))) kept in
    let x = held_in s m a lie.first fits lie.one in
    let same : from_to (pos 0) (pos 4294967295) ≡ lie.second = cc in
    let in_it : IsIn x.0 (from_to (pos 0) (pos 4294967295)) = subst (IsIn x.0) (sym same) (lies_on lie.first lie.second x.0 lie.within x.2) in
    let at = x.1 in
    let delay = delay_of x.0 in_it in
    let test = delay.0 in
    rw (at, test) (sets_fits s m i t (timer.Armed (unsigned_abs x.0)) fits going delay.1) where
      delay_of : (x : ℤ) → IsIn x (from_to (pos 0) (pos 4294967295)) → ((int_le (pos 0) x && int_lt x (pos (2 ^ 32))) ≡ true) × (unsigned_abs x ≤ 4294967295)
      delay_of (pos n) h =
          let l : n ≤ 4294967295 = omega (arith, ints, h.1) in
          (and_from (int_le (pos 0) (pos n)) (int_lt (pos n) (pos (2 ^ 32))) (le_is (pos 0) (pos n) h.0) (lt_is n (2 ^ 32) (omega arith)), l)
      delay_of (negsuc n) h = absurd (omega (arith, ints, h.0))
