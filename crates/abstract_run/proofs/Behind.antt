-- A change of what is in flight is one of the cells, at places behind the mark.
use Rattle.std.proofs.Common.{◌≡◌, ◌+◌, ◌<◌, ◌≤◌, ℕ, zero, suc, true, nat_lt, List, [], ◌∷◌, ◌++◌, take, drop, length, refl, ap, sym, ◌∙◌, slice_get, slice_set, Some, length-drop, arith}
use Rattle.std.specs.List.{insert, remove}
use Rattle.std.proofs.lemmas.Bool.Decides.{nat_tests}
use Rattle.std.proofs.lemmas.List.{length-take}
use Rattle.tap_base.specs.Faults.{changed_to, copied_at, lost_at, moved_to}
use Rattle.byte_meaning.specs.declared.cell.Cell.{Cell}
use Rattle.abstract_run.specs.declared.state.Channel.{Channel}
use Rattle.abstract_run.specs.Channels.{most_cells, on_flight, where_room}

-- ---- behind a front

whole : (m : ℕ) (xs : List Cell) → take m xs ++ drop m xs ≡ xs
whole zero xs = refl
whole (suc m) [] = refl
whole (suc m) (x ∷ xs) = ap (λ ys. x ∷ ys) (whole m xs)

get_behind : (xs ys : List Cell) (i : ℕ) → slice_get (xs ++ ys) (length xs + i) ≡ slice_get ys i
get_behind [] ys i = ap (slice_get ys) (omega arith)
get_behind (x ∷ xs) ys i = let next : length (x ∷ xs) + i ≡ suc (length xs + i) = omega arith in rw next (get_behind xs ys i)

insert_behind : (xs ys : List Cell) (i : ℕ) (y : Cell) → xs ++ insert ys i y ≡ insert (xs ++ ys) (length xs + i) y
insert_behind [] ys i y = ap (λ k. insert ys k y) (omega arith)
insert_behind (x ∷ xs) ys i y = let next : length (x ∷ xs) + i ≡ suc (length xs + i) = omega arith in rw next (ap (λ zs. x ∷ zs) (insert_behind xs ys i y))

remove_behind : (xs ys : List Cell) (i : ℕ) → xs ++ remove ys i ≡ remove (xs ++ ys) (length xs + i)
remove_behind [] ys i = ap (remove ys) (omega arith)
remove_behind (x ∷ xs) ys i = let next : length (x ∷ xs) + i ≡ suc (length xs + i) = omega arith in rw next (ap (λ zs. x ∷ zs) (remove_behind xs ys i))

set_behind : (xs ys : List Cell) (i : ℕ) (y : Cell) → xs ++ slice_set ys i y ≡ slice_set (xs ++ ys) (length xs + i) y
set_behind [] ys i y = ap (λ k. slice_set ys k y) (omega arith)
set_behind (x ∷ xs) ys i y = let next : length (x ∷ xs) + i ≡ suc (length xs + i) = omega arith in rw next (ap (λ zs. x ∷ zs) (set_behind xs ys i y))

-- ---- behind a mark

before : (m i : ℕ) (xs : List Cell) → m ≤ length xs → length (take m xs) + i ≡ m + i
before m i xs h = omega (arith, h, length-take m xs)

pub flight_at : (m i : ℕ) (xs : List Cell) → m ≤ length xs → slice_get (drop m xs) i ≡ slice_get xs (m + i)
flight_at m i xs h =
    sym (get_behind (take m xs) (drop m xs) i) ∙ ap (λ ys. slice_get ys (length (take m xs) + i)) (whole m xs) ∙ ap (slice_get xs) (before m i xs h)

removed : (m i : ℕ) (xs : List Cell) → m ≤ length xs → take m xs ++ remove (drop m xs) i ≡ remove xs (m + i)
removed m i xs h = remove_behind (take m xs) (drop m xs) i ∙ ap (λ ys. remove ys (length (take m xs) + i)) (whole m xs) ∙ ap (remove xs) (before m i xs h)

-- ---- the faults

-- the cell at a place counted from the mark goes
pub lost_behind : (c : Channel) (i : ℕ) → c.mark + i < length c.cells → on_flight (lost_at i) c ≡ Some (record c { cells = remove c.cells (c.mark + i) })
lost_behind c i h =
    let flying = length-drop c.mark c.cells in
    let test : nat_lt i (length (drop c.mark c.cells)) ≡ true = grind (arith, nat_tests) in
    rw test (ap (λ cells. Some (record c { cells = cells })) (removed c.mark i c.cells (omega (arith, h))))

pub copied_behind : (c : Channel) (i : ℕ) (x : Cell) → c.mark + i < length c.cells → slice_get c.cells (c.mark + i) ≡ Some x
    → on_flight (copied_at i) c ≡ Some (record c { cells = insert c.cells (c.mark + i + 1) x })
copied_behind c i x h is =
    let m = c.mark in
    let at : slice_get (drop m c.cells) i ≡ Some x = flight_at m i c.cells (omega (arith, h)) ∙ is in
    rw at
    (ap (λ cells. Some (record c { cells = cells }))
    (insert_behind (take m c.cells) (drop m c.cells) (i + 1) x
    ∙ ap (λ ys. insert ys (length (take m c.cells) + (i + 1)) x) (whole m c.cells)
    ∙ ap (λ k. insert c.cells k x) (omega (arith, h, length-take m c.cells))))

pub moved_behind : (c : Channel) (i j : ℕ) (x : Cell) → c.mark + i < length c.cells → c.mark + j < length c.cells → slice_get c.cells (c.mark + i) ≡ Some x
    → on_flight (moved_to i j) c ≡ Some (record c { cells = insert (remove c.cells (c.mark + i)) (c.mark + j) x })
moved_behind c i j x h k is =
    let m = c.mark in
    let flying = length-drop m c.cells in
    let test : nat_lt j (length (drop m c.cells)) ≡ true = grind (arith, nat_tests) in
    let at : slice_get (drop m c.cells) i ≡ Some x = flight_at m i c.cells (omega (arith, h)) ∙ is in
    rw (test, at)
    (ap (λ cells. Some (record c { cells = cells }))
    (insert_behind (take m c.cells) (remove (drop m c.cells) i) j x
    ∙ ap (λ ys. insert ys (length (take m c.cells) + j) x) (removed m i c.cells (omega (arith, h)))
    ∙ ap (λ n. insert (remove c.cells (m + i)) n x) (before m j c.cells (omega (arith, h)))))

pub damaged_behind : (c : Channel) (i : ℕ) (x : Cell) → c.mark + i < length c.cells → on_flight (changed_to i x) c ≡ Some (record c { cells = slice_set c.cells (c.mark + i) x })
damaged_behind c i x h =
    let m = c.mark in
    let flying = length-drop m c.cells in
    let test : nat_lt i (length (drop m c.cells)) ≡ true = grind (arith, nat_tests) in
    rw test
    (ap (λ cells. Some (record c { cells = cells }))
    (set_behind (take m c.cells) (drop m c.cells) i x
    ∙ ap (λ ys. slice_set ys (length (take m c.cells) + i) x) (whole m c.cells)
    ∙ ap (λ k. slice_set c.cells k x) (before m i c.cells (omega (arith, h)))))

-- a copy, where there is room for it
pub copied_where_room : (c : Channel) (i : ℕ) (x : Cell) → length c.cells < most_cells → c.mark + i < length c.cells → slice_get c.cells (c.mark + i) ≡ Some x
    → where_room (on_flight (copied_at i)) c ≡ Some (record c { cells = insert c.cells (c.mark + i + 1) x })
copied_where_room c i x few h is = let room : nat_lt (length c.cells) most_cells ≡ true = test (length c.cells) few in let here = copied_behind c i x h is in rw (room, here) refl where
  test : (n : ℕ) → n < most_cells → nat_lt n most_cells ≡ true
  test n few = grind (arith, nat_tests)
