-- The least due time of a list with one more timer.
use Rattle.std.proofs.Common.{◌≡◌, ◌≤◌, ◌∷◌, ◌++◌, [], ◌⊎◌, inl, inr, ℕ, List, subst, min, Option, Some, None, arith}
use Rattle.std.specs.Prelude.{Contains, MatchOption}
use Rattle.std.proofs.lemmas.List.Elements.{Contains-append_left, Contains-push, Contains-push_cases}
use Rattle.tap_exec.specs.declared.running.TimerState.{TimerState}
use Rattle.tap_exec.specs.declared.running.TimerState.TheVariants as timer
use Rattle.timer_core.specs.Due.{IsNextDue, NoneIsDue}
use Rattle.timer_core.specs.inner.Sooner.{sooner}

abbrev pub AreDueFrom : List TimerState → Option ℕ → Type 0
AreDueFrom states least = MatchOption least (NoneIsDue states) (IsNextDue states)

-- a timer that is not due adds no due time
abbrev pub IsNotDue : TimerState → Type 0
IsNotDue x = (at : ℕ) → x ≡ timer.Due at → ⊥

same_with : (xs : List TimerState) (x : TimerState) (least : Option ℕ) → IsNotDue x → AreDueFrom xs least → AreDueFrom (xs ++ x ∷ []) least
same_with xs x None not h = λ at there. elim (Contains-push_cases xs x (timer.Due at) there) [ inl e ↦ h at e | inr e ↦ not at e ]
same_with xs x (Some t) not h = record {
  due = Contains-append_left xs (x ∷ []) (timer.Due t) h.due;
  least = λ at there. elim (Contains-push_cases xs x (timer.Due at) there) [ inl e ↦ h.least at e | inr e ↦ absurd (not at e) ];
}

first_with : (xs : List TimerState) (t : ℕ) → NoneIsDue xs → IsNextDue (xs ++ timer.Due t ∷ []) t
first_with xs t h = record {
  due = Contains-push xs (timer.Due t);
  least = λ at there. elim (Contains-push_cases xs (timer.Due t) (timer.Due at) there) [ inl e ↦ absurd (h at e) | inr e ↦ let same : t ≡ at = cc in omega arith ];
}

-- the lesser of two times is one of them
lesser_due : (xs : List TimerState) (known t : ℕ) → Contains xs (timer.Due known) → (known ≤ t) ⊎ (t ≤ known) → Contains (xs ++ timer.Due t ∷ []) (timer.Due (min known t))
lesser_due xs known t h (inl l) = let same : known ≡ min known t = omega arith in subst (λ n. Contains (xs ++ timer.Due t ∷ []) (timer.Due n)) same (Contains-append_left xs (timer.Due t ∷ []) (timer.Due known) h)
lesser_due xs known t h (inr l) = let same : t ≡ min known t = omega arith in subst (λ n. Contains (xs ++ timer.Due t ∷ []) (timer.Due n)) same (Contains-push xs (timer.Due t))

either_less : (m n : ℕ) → (m ≤ n) ⊎ (n ≤ m)
either_less m n = grind arith

more_with : (xs : List TimerState) (known t : ℕ) → IsNextDue xs known → IsNextDue (xs ++ timer.Due t ∷ []) (min known t)
more_with xs known t h = record {
  due = lesser_due xs known t h.due (either_less known t);
  least = λ at there. elim (Contains-push_cases xs (timer.Due t) (timer.Due at) there) [ inl e ↦ (let below = h.least at e in omega arith) | inr e ↦ let same : t ≡ at = cc in omega arith ];
}

pub due_more : (xs : List TimerState) (x : TimerState) (least : Option ℕ) → AreDueFrom xs least → AreDueFrom (xs ++ x ∷ []) (sooner least x)
due_more xs timer.Off None h = same_with xs timer.Off None (λ at e. cc) h
due_more xs timer.Off (Some known) h = same_with xs timer.Off (Some known) (λ at e. cc) h
due_more xs (timer.Armed d) None h = same_with xs (timer.Armed d) None (λ at e. cc) h
due_more xs (timer.Armed d) (Some known) h = same_with xs (timer.Armed d) (Some known) (λ at e. cc) h
due_more xs (timer.Due t) None h = first_with xs t h
due_more xs (timer.Due t) (Some known) h = more_with xs known t h
