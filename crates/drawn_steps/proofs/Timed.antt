-- What is held after a timer is set is what the instruction leads to.
use Rattle.std.proofs.Common.{◌≡◌, ◌+◌, ◌<◌, ◌^◌, ◌&&◌, ℕ, ℤ, pos, negsuc, true, refl, ap, slice_get, slice_set, Some, arith}
use Rattle.std.specs.Prelude.{int_le, int_lt, unsigned_abs}
use Rattle.std.proofs.lemmas.Bool.{and_from}
use Rattle.std.proofs.lemmas.Int.{ints}
use Rattle.tap_base.specs.Interval.{IsIn, delay_range}
use Rattle.tap_exec.specs.declared.running.TimerState.TheVariants as timer
use Rattle.timer_core.specs.Timing.{Timing}
use Rattle.register_code.specs.declared.instr.Instr.TheVariants as instr
use Rattle.sound_code.proofs.Named.{le_is, lt_is}
use Rattle.code_steps.specs.Holding.{Held}
use Rattle.drawn_steps.specs.Timing.{IsDelay, SetsTimer}

-- a delay within its range
pub fits_delay : (x : ℤ) → IsIn x delay_range → ((int_le (pos 0) x && int_lt x (pos (2 ^ 32))) ≡ true) × (unsigned_abs x < 2 ^ 32)
fits_delay (pos n) h =
    let l : n < 2 ^ 32 = omega (arith, ints, h.1) in
    (and_from (int_le (pos 0) (pos n)) (int_lt (pos n) (pos (2 ^ 32))) (le_is (pos 0) (pos n) h.0) (lt_is n (2 ^ 32) l), l)
fits_delay (negsuc n) h = absurd (omega (arith, ints, h.0))

pub is_delay : (h : Held) (a : ℕ) (x : ℤ) (delay : ℕ) → slice_get h.registers a ≡ Some x → IsIn x delay_range → delay ≡ unsigned_abs x → IsDelay h a delay
is_delay h a x delay at within is = record { x = x; holds = at; within = (fits_delay x within).0; is = is }

pub starts : (t a delay : ℕ) (before after : Held) (timers timers_after : Timing) → IsDelay before a delay → timers_after ≡ record timers { states = slice_set timers.states t (timer.Armed delay) } → after ≡ record before { next = before.next + 1 }
    → SetsTimer (instr.Start t a) before after timers timers_after
starts t a delay before after timers timers_after d e f = record {
  leads = λ s sends choices. let at = d.holds in let test = d.within in let is = d.is in rw (at, test, e, f, is) refl;
  time = ap (λ (z : Timing). z.time) e;
  registers_room = ap (λ (h : Held). h.registers_room) f;
  counters_room = ap (λ (h : Held). h.counters_room) f;
}

pub stops : (t : ℕ) (before after : Held) (timers timers_after : Timing) → timers_after ≡ record timers { states = slice_set timers.states t timer.Off } → after ≡ record before { next = before.next + 1 } → SetsTimer (instr.Stop t) before after timers timers_after
stops t before after timers timers_after e f = record {
  leads = λ s sends choices. rw (e, f) refl;
  time = ap (λ (z : Timing). z.time) e;
  registers_room = ap (λ (h : Held). h.registers_room) f;
  counters_room = ap (λ (h : Held). h.counters_room) f;
}
