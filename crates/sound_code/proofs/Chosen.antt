-- Choices keep ranges.
use Rattle.std.proofs.Common.{◌≡◌, ◌+◌, ◌<◌, ◌≤◌, ◌==◌, ℕ, ℤ, pos, Bool, true, false, if◌then◌else◌, List, [], ◌∷◌, length, take, drop, ◌⊎◌, inl, inr, refl, ap, sym, subst, ◌∙◌, slice_get, Option, Some, None, arith, map}
use Rattle.std.specs.List.{list_any}
use Rattle.std.specs.Ordering.{int_eq}
use Rattle.std.proofs.lemmas.Bool.{or_cases, eq-eqb}
use Rattle.std.proofs.lemmas.Bool.Decides.{Decides-int_eq}
use Rattle.std.proofs.lemmas.Int.{ints}
use Rattle.std.proofs.lemmas.List.{length-take, length-drop}
use Rattle.std.proofs.lemmas.Option.{some_pair_parts, cond_some}
use Rattle.tap_base.specs.declared.place.Range.{Range}
use Rattle.tap_base.specs.Interval.{IsIn, from_to}
use Rattle.tap_base.specs.Lists.{Each}
use Rattle.tap_exec.specs.Execution.{takes}
use Rattle.tap_base.specs.Option.{◌>>=◌}
use Rattle.register_code.specs.declared.instr.Instr.{Instr}
use Rattle.register_code.specs.declared.instr.Instr.TheVariants as instr
use Rattle.sound_code.specs.Fitting.{FitsSite, IsRefused}
use Rattle.register_code.specs.Instructions.{Moment, chooses, ones, puts, run_of, selects}
use Rattle.register_code.specs.Sites.{Site, both_in, lies_in}
use Rattle.sound_code.proofs.Fitted.{both_are, lies_on, puts_fits}
use Rattle.tap_base.specs.Ranges.{values_of}
use Rattle.tap_base.proofs.RangeFacts.{among_values, within_decides}
use Rattle.sound_code.proofs.Named.{Outcome}

-- ---- choices

fewer_choices : (s : Site) (m : Moment) (choices : List ℤ) → FitsSite s m → FitsSite s (record m { choices = choices })
fewer_choices s m choices fits = record { registers = fits.registers; counters = fits.counters; timers = fits.timers; delays = fits.delays; sends = fits.sends; inside = fits.inside }

-- the next choice, where it is taken, is an option
taken : (options choices : List ℤ) (x : ℤ) (rest : List ℤ) → takes options choices ≡ Some (x, rest) → list_any (int_eq x) options ≡ true
taken options [] x rest e = cc
taken options (y ∷ ys) x rest e =
    let is = cond_some (list_any (int_eq y) options) (y, ys) (x, rest) e in
    let same : y ≡ x = (some_pair_parts y x ys rest (ap (λ (z : ℤ × List ℤ). Some z) is.1)).0 in subst (λ z. list_any (int_eq z) options ≡ true) same is.0

chooses_fits : (s : Site) (m : Moment) (i : Instr) (r : ℕ) (options : List ℤ) (range : Range) → FitsSite s m → m.next < length s.instrs → slice_get s.ranges r ≡ Some range
    → ((x : ℤ) → list_any (int_eq x) options ≡ true → IsIn x range) → (takes options m.choices ≡ None → IsRefused i m) → Outcome s i m (chooses r options m)
chooses_fits s m i r options range fits going ranged within_them refused = by_choice (takes options m.choices) refl where
  by_choice : (o : Option (ℤ × List ℤ)) → takes options m.choices ≡ o → Outcome s i m (o >>= λ choice. puts r choice.0 (record m { choices = choice.1 }))
  by_choice None e = refused e
  by_choice (Some choice) e = puts_fits s (record m { choices = choice.1 }) r choice.0 range (fewer_choices s m choice.1 fits) going ranged (within_them choice.0 (taken options m.choices choice.0 choice.1 e))

pub choose_fits : (s : Site) (m : Moment) (r : ℕ) (lo hi : ℤ) → FitsSite s m → m.next < length s.instrs → both_in (Some (from_to lo hi)) (slice_get s.ranges r) ≡ true
    → Outcome s (instr.Choose r lo hi) m (chooses r (values_of (from_to lo hi)) m)
choose_fits s m r lo hi fits going kept =
    let lie = both_are (Some (from_to lo hi)) (slice_get s.ranges r) kept in
    let same : from_to lo hi ≡ lie.first = cc in
    chooses_fits s m (instr.Choose r lo hi) r (values_of (from_to lo hi)) lie.second fits going lie.other
    (λ x e. lies_on lie.first lie.second x lie.within (subst (IsIn x) same ((within_decides (from_to lo hi) x).0 (sym (among_values (from_to lo hi) x) ∙ e)))) (λ e. e)

-- offsets are below the number of what they are counted over
ones_below : (i n : ℕ) (xs : List ℤ) → i + length xs ≤ n → Each (λ k. k < n) (ones i xs)
ones_below i n [] l = tt
ones_below i n (x ∷ xs) l = by_test (int_eq x (pos 1)) (ones_below (i + 1) n xs (omega (arith, l))) where
  by_test : (b : Bool) → Each (λ k. k < n) (ones (i + 1) xs) → Each (λ k. k < n) (if b then i ∷ ones (i + 1) xs else ones (i + 1) xs)
  by_test true rest = (omega (arith, l), rest)
  by_test false rest = rest

among_below : (n : ℕ) (ks : List ℕ) (x : ℤ) → Each (λ k. k < n) ks → list_any (int_eq x) (map pos ks) ≡ true → IsIn x (from_to (pos 0) (pos n))
among_below n [] x h e = cc
among_below n (k ∷ ks) x h e = by_test (or_cases (int_eq x (pos k)) (list_any (int_eq x) (map pos ks)) e) (λ f. among_below n ks x h.1 f) where
  by_test : (int_eq x (pos k) ≡ true) ⊎ (list_any (int_eq x) (map pos ks) ≡ true) → (list_any (int_eq x) (map pos ks) ≡ true → IsIn x (from_to (pos 0) (pos n))) → IsIn x (from_to (pos 0) (pos n))
  by_test (inl f) rest =
      let same : x ≡ pos k = (Decides-int_eq x (pos k)).0 f in
      let below = h.0 in subst (λ z. IsIn z (from_to (pos 0) (pos n))) (sym same) (omega (arith, ints, below), omega (arith, ints, below))
  by_test (inr g) rest = rest g

-- so many are there, where the list is long enough
pub run_there : {A : Type 0} (first count : ℕ) (xs : List A) → first + count ≤ length xs → (run_of first count xs ≡ Some (take count (drop first xs))) × (length (take count (drop first xs)) ≡ count)
run_there first count xs l =
    let size : length (take count (drop first xs)) ≡ count = omega (arith, length-take count (drop first xs), length-drop first xs, l) in
    let test : (length (take count (drop first xs)) == count) ≡ true = eq-eqb (length (take count (drop first xs))) count size in (rw test refl, size)

selects_fits : (s : Site) (m : Moment) (r first count : ℕ) (ks : List ℕ) (xs : List ℤ) (range : Range) → FitsSite s m → m.next < length s.instrs → slice_get s.ranges r ≡ Some range
    → lies_in (from_to (pos 0) (pos count)) range ≡ true → run_of first count m.registers ≡ Some xs → ks ≡ ones 0 xs → Each (λ k. k < count) ks
    → Outcome s (instr.Select r first count) m (selects r count ks m)
selects_fits s m r first count [] xs range fits going ranged lies run is below =
    puts_fits s m r (pos count) range fits going ranged (lies_on (from_to (pos 0) (pos count)) range (pos count) lies (omega (arith, ints), omega (arith, ints)))
selects_fits s m r first count (k ∷ []) xs range fits going ranged lies run is below =
    let less = below.0 in
    puts_fits s m r (pos k) range fits going ranged (lies_on (from_to (pos 0) (pos count)) range (pos k) lies (omega (arith, ints, less), omega (arith, ints, less)))
selects_fits s m r first count (k ∷ l ∷ more) xs range fits going ranged lies run is below =
    chooses_fits s m (instr.Select r first count) r (map pos (k ∷ l ∷ more)) range fits going ranged
    (λ x e. lies_on (from_to (pos 0) (pos count)) range x lies (among_below count (k ∷ l ∷ more) x below e))
    (λ e. (xs, run, ap (λ js. takes (map pos js) m.choices) (sym is) ∙ e))

pub select_fits : (s : Site) (m : Moment) (r first count : ℕ) → FitsSite s m → m.next < length s.instrs → first + count ≤ length s.ranges
    → both_in (Some (from_to (pos 0) (pos count))) (slice_get s.ranges r) ≡ true → Outcome s (instr.Select r first count) m (run_of first count m.registers >>= λ xs. selects r count (ones 0 xs) m)
select_fits s m r first count fits going inside kept =
    let lie = both_are (Some (from_to (pos 0) (pos count))) (slice_get s.ranges r) kept in
    let same : from_to (pos 0) (pos count) ≡ lie.first = cc in
    let found = run_there first count m.registers (omega (arith, inside, fits.registers.counted)) in
    let run = found.0 in
    let size = found.1 in
    rw run (selects_fits s m r first count (ones 0 (take count (drop first m.registers))) (take count (drop first m.registers)) lie.second fits going lie.other
    (subst (λ range. lies_in range lie.second ≡ true) (sym same) lie.within) found.0 refl (ones_below 0 count (take count (drop first m.registers)) (omega (arith, size))))
