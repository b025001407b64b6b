-- What each change of a channel does to the errors before its mark.
use Rattle.std.proofs.Common.{◌≡◌, ◌∙◌, ◌+◌, ◌-◌, ◌<◌, ◌≤◌, refl, ap, sym, subst, ℕ, ℤ, zero, suc, Bool, true, false, if◌then◌else◌, List, [], ◌∷◌, ◌++◌, take, drop, length, slice_get, get_or, Option, Some, None, nat_lt, arith}
use Rattle.std.specs.Prelude.{count_by}
use Rattle.std.specs.List.{remove}
use Rattle.std.specs.Option.{option_map}
use Rattle.std.proofs.lemmas.List.{length-take, take-append-le, take-take}
use Rattle.std.proofs.lemmas.List.Sums.{sum_by-cons, sum_by_more}
use Rattle.std.proofs.lemmas.Option.{cond_some, option_and_then_some, slice_get-get_or}
use Rattle.std.proofs.lemmas.Bool.Decides.{nat_tests}
use Rattle.tap_base.specs.Option.{is_yes, provided}
use Rattle.byte_meaning.specs.declared.cell.Cell.{Cell}
use Rattle.byte_meaning.specs.declared.cell.Cell.TheVariants as cell
use Rattle.abstract_run.specs.declared.state.Channel.{Channel}
use Rattle.abstract_run.specs.Channels.{appended, first_taken, first_waiting, is_error, most_cells, on_flight, rejected_at, where_room}
use Rattle.abstract_run.specs.Step.{mark_raised}
use Rattle.abstract_run.proofs.Moves.{flown}
use Rattle.exact_choice.specs.Rejects.{arrived_errors, has_bad_next}

abbrev errors : List Cell → ℕ
errors xs = count_by is_error xs

abbrev one : Cell → ℕ
one x = if is_error x then 1 else 0

errors_next : (x : Cell) (xs : List Cell) → errors (x ∷ xs) ≡ one x + errors xs
errors_next x xs = sum_by-cons (λ y. if is_error y then 1 else 0) x xs

-- ---- a reject

removed : (k i : ℕ) (xs : List Cell) (x : Cell) → slice_get (take (suc k) xs) i ≡ Some x → errors (take k (remove xs i)) + one x ≡ errors (take (suc k) xs)
removed k i [] x e = cc
removed k zero (y ∷ ys) x e =
    let same : y ≡ x = cc in ap (λ z. errors (take k ys) + one z) (sym same) ∙ omega (arith, errors_next y (take k ys))
removed zero (suc i) (y ∷ ys) x e = cc
removed (suc k) (suc i) (y ∷ ys) x e = let rest = removed k i ys x e in omega (arith, rest, errors_next y (take k (remove ys i)), errors_next y (take (suc k) ys))

-- one error fewer
pub fewer_errors : (i : ℕ) (c d : Channel) → rejected_at i c ≡ Some d → arrived_errors d + 1 ≡ arrived_errors c
fewer_errors i c d e =
    option_and_then_some (λ x. provided (is_error x) (without c)) (slice_get (take c.mark c.cells) i) d e (λ x is done.
    let both = cond_some (is_error x) (without c) d done in
    ap (λ (y : Channel). arrived_errors y + 1) (sym both.1) ∙ by_mark c.mark x is both.0) where
      without : Channel → Channel
      without b = record b { cells = remove b.cells i; mark = b.mark - 1 }

      by_mark : (k : ℕ) (x : Cell) → slice_get (take k c.cells) i ≡ Some x → is_error x ≡ true → errors (take (k - 1) (remove c.cells i)) + 1 ≡ errors (take k c.cells)
      by_mark zero x is bad = cc
      by_mark (suc k) x is bad =
          let less : suc k - 1 ≡ k = omega arith in
          ap (λ n. errors (take n (remove c.cells i)) + 1) less ∙ ap (λ n. errors (take k (remove c.cells i)) + n) (let number : one x ≡ 1 = rw bad refl in sym number) ∙ removed k i c.cells x is

-- ---- an arrival

bad_there : (xs : List Cell) (k : ℕ) → k < length xs → is_yes (option_map is_error (slice_get xs k)) ≡ is_error (get_or xs k cell.Error)
bad_there xs k within = ap (λ o. is_yes (option_map is_error o)) (slice_get-get_or xs k cell.Error within)

-- one error more, where the next cell is one
pub more_errors : (c d : Channel) → mark_raised c ≡ Some d → arrived_errors d ≡ arrived_errors c + (if has_bad_next c then 1 else 0)
more_errors c d e =
    let both = cond_some (nat_lt c.mark (length c.cells)) (record c { mark = c.mark + 1 }) d e in
    let test = both.0 in
    let within : c.mark < length c.cells = grind (arith, nat_tests) in
    ap arrived_errors (sym both.1)
    ∙ sum_by_more (λ x. if is_error x then 1 else 0) c.cells c.mark cell.Error within
    ∙ ap (λ (b : Bool). arrived_errors c + (if b then 1 else 0)) (sym (bad_there c.cells c.mark within))

-- ---- what is in flight

-- a change of the cells in flight leaves the errors
pub flight_leaves : (change : List Cell → Option (List Cell)) (c d : Channel) → c.mark ≤ length c.cells → on_flight change c ≡ Some d → arrived_errors d ≡ arrived_errors c
flight_leaves change c d within e =
    let x = flown change c d e in
    ap arrived_errors x.2
    ∙ ap errors (take-append-le c.mark (take c.mark c.cells) x.0 (omega (arith, within, length-take c.mark c.cells)) ∙ take-take c.mark c.mark c.cells (omega arith))

pub roomy_leaves : (f : Channel → Option Channel) (c d : Channel) → where_room f c ≡ Some d → f c ≡ Some d
roomy_leaves f c d e = by_test (nat_lt (length c.cells) most_cells) e where
  by_test : (b : Bool) → (if b then f c else None) ≡ Some d → f c ≡ Some d
  by_test true h = h
  by_test false h = cc

-- one more cell at the end leaves the errors
pub end_leaves : (x : Cell) (c d : Channel) → c.mark ≤ length c.cells → appended x c ≡ Some d → arrived_errors d ≡ arrived_errors c
end_leaves x c d within e =
    let both = cond_some (nat_lt (length c.cells) most_cells) (record c { cells = c.cells ++ x ∷ [] }) d e in
    ap arrived_errors (sym both.1) ∙ ap errors (take-append-le c.mark c.cells (x ∷ []) within)

-- ---- a receive

-- a message that is taken leaves the errors
pub message_leaves : (c : Channel) (m : ℕ) (values : List ℤ) → first_waiting c ≡ Some (cell.Msg m values) → arrived_errors (first_taken c) ≡ arrived_errors c
message_leaves c m values h = by_mark c.mark c.cells h where
  first : (k : ℕ) (o : Option Cell) → (if nat_lt 0 (suc k) then o else None) ≡ Some (cell.Msg m values) → o ≡ Some (cell.Msg m values)
  first k o h = let test : nat_lt 0 (suc k) ≡ true = grind (arith, nat_tests) in subst (λ b. (if b then o else None) ≡ Some (cell.Msg m values)) test h

  by_mark : (k : ℕ) (xs : List Cell) → (if nat_lt 0 k then slice_get xs 0 else None) ≡ Some (cell.Msg m values) → errors (take (k - 1) (drop 1 xs)) ≡ errors (take k xs)
  by_mark zero xs h = cc
  by_mark (suc k) [] h = let none = first k None h in cc
  by_mark (suc k) (x ∷ xs) h =
      let there = first k (Some x) h in
      let same : x ≡ cell.Msg m values = cc in
      let less : suc k - 1 ≡ k = omega arith in
      ap (λ n. errors (take n xs)) less ∙ omega (arith, errors_next x (take k xs), ap one same)
