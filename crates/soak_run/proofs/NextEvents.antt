-- The event that comes next in a generated schedule.
use Rattle.std.proofs.Common.{◌≡◌, ℕ, zero, suc, ◌+◌, ◌<◌, ◌^◌, [], ◌∷◌, ◌++◌, length, refl, ap, sym, subst, ◌∙◌, arith}
use Rattle.tap_base.specs.Lists.{Each}
use Rattle.tap_base.specs.Resolved.{IsResolved}
use Rattle.tap_base.specs.declared.system.System.{System}
use Rattle.tap_base.proofs.ListFacts.{each_split}
use Rattle.run_text.specs.ScheduleText.{HasLine, most_events}
use Rattle.schedule_gen.specs.Laws.{behind_events}
use Rattle.schedule_gen.specs.Schedule.{Making, events_from, next_event, opening, rest}
use Rattle.schedule_gen.proofs.Goes.{goes_on, is_slow}
use Rattle.schedule_gen.proofs.Listed.{all_are_listed}

-- one event more
pub one_more : (n : ℕ) (m : Making) → events_from (n + 1) m ≡ events_from n m ++ next_event (behind_events n m) ∷ []
unfolding events_from
one_more n m = goes_on n 1 m

behind_next : (n : ℕ) (m : Making) → behind_events (suc n) m ≡ rest (behind_events n m)
unfolding behind_events
behind_next zero m = refl
behind_next (suc n) m = behind_next n (rest m)

pub behind_more : (n : ℕ) (m : Making) → behind_events (n + 1) m ≡ rest (behind_events n m)
behind_more n m = let e : n + 1 ≡ suc n = omega arith in ap (λ j. behind_events j m) e ∙ behind_next n m

-- it has a line
pub next_has_line : (system : System) (seed faults i : ℕ) (g : Making) → IsResolved system → i < most_events → g ≡ behind_events i (opening system seed faults) → HasLine (length system.processes) (next_event g)
next_has_line system seed faults i g ok few is =
    let m = opening system seed faults in
    let has = HasLine (length system.processes) in
    let all = (all_are_listed system seed (i + 1) faults ok (omega (arith, few))).each in
    let split = each_split has (events_from i m) (next_event (behind_events i m) ∷ []) (subst (Each has) (one_more i m) all) in
    subst (λ (x : Making). has (next_event x)) (sym is) split.1.0

-- its time is short
pub next_soon : (system : System) (seed faults i : ℕ) (g : Making) → i < most_events → g ≡ behind_events i (opening system seed faults) → g.time + 49 < 2 ^ 64
next_soon system seed faults i g few is =
    let here = ap (λ (x : Making). x.time) is in
    let slow = is_slow i (opening system seed faults) in
    omega (arith, few, here, slow)
