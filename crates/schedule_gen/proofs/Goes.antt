-- How schedules go on.
use Rattle.std.proofs.Common.{◌≡◌, refl, ℕ, zero, suc, ◌+◌, ◌*◌, ◌≤◌, List, [], ◌∷◌, ◌++◌, length, ap, ◌∙◌, arith, zero-add, append_assoc}
use Rattle.std.proofs.lemmas.List.{append-nil}
use Rattle.abstract_run.specs.declared.label.Event.{Event}
use Rattle.std.proofs.lemmas.Grind.{common_steps}
use Rattle.schedule_gen.specs.declared.rows.Row.{Row}
use Rattle.schedule_gen.specs.declared.rows.Row.TheVariants as row
use Rattle.schedule_gen.specs.Laws.{behind_events}
use Rattle.schedule_gen.specs.Schedule.{Making, events_from, next_event, next_row, rest, rise_of, word, behind}

pub goes_on : (n k : ℕ) (m : Making) → events_from (n + k) m ≡ events_from n m ++ events_from k (behind_events n m)
unfolding events_from behind_events
goes_on zero k m = ap (λ j. events_from j m) (zero-add k)
goes_on (suc n) k m =
    let e : suc n + k ≡ suc (n + k) = omega arith in
    ap (λ j. events_from j m) e ∙ ap (λ es. next_event m ∷ es) (goes_on n k (rest m))

pub as_long : (n : ℕ) (m : Making) → length (events_from n m) ≡ n
unfolding events_from
as_long zero m = refl
as_long (suc n) m = let h = as_long n (rest m) in grind (arith, common_steps)

pub rise_small : (r : Row) (x : ℕ) → rise_of r x ≤ 49
rise_small row.Turn x = omega arith
rise_small row.Arrive x = omega arith
rise_small row.Lose x = omega arith
rise_small row.Copy x = omega arith
rise_small row.Move x = omega arith
rise_small row.Damage x = omega arith
rise_small row.Forge x = omega arith

pub is_slow : (n : ℕ) (m : Making) → (behind_events n m).time ≤ m.time + n * 49
unfolding behind_events
is_slow zero m = omega arith
is_slow (suc n) m =
    let here : rise_of (next_row m) (word (behind m.words)) ≤ 49 = rise_small (next_row m) (word (behind m.words)) in
    let later : (behind_events n (rest m)).time ≤ (m.time + rise_of (next_row m) (word (behind m.words))) + n * 49 = is_slow n (rest m) in
    omega arith

-- the next event goes behind those that are made
pub behind_one : (n : ℕ) (all more : List Event) (m after : Making) (e : Event) → more ≡ all ++ e ∷ [] → e ≡ next_event m → after ≡ rest m
    → more ++ events_from n after ≡ all ++ events_from (suc n) m
unfolding events_from
behind_one n all more m after e put is behind =
    ap (λ es. es ++ events_from n after) put
    ∙ append_assoc all (e ∷ []) (events_from n after)
    ∙ ap (λ x. all ++ (x ∷ events_from n after)) is
    ∙ ap (λ g. all ++ (next_event m ∷ events_from n g)) behind

pub none_more : (all : List Event) (m : Making) → all ++ events_from 0 m ≡ all
unfolding events_from
none_more all m = append-nil all
