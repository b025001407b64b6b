-- A table of values, where one is put in.
use Rattle.std.proofs.Common.{◌≡◌, ◌≢◌, ◌<◌, ◌==◌, ℕ, zero, suc, ℤ, Bool, true, false, List, [], ◌∷◌, ◌++◌, map, replicate, length, slice_get, slice_set, Option, Some, None, refl, sym, ap, subst, ◌∙◌, append-nil, arith}
use Rattle.std.proofs.lemmas.Bool.Decides.{Decides-eqb}
use Rattle.std.proofs.lemmas.Grind.{flat_map-append}
use Rattle.std.proofs.lemmas.List.{length-replicate, length-set}
use Rattle.std.proofs.lemmas.Option.{none-some, slice_get_within}
use Rattle.tap_base.specs.declared.system.Process.{Process}
use Rattle.tap_base.specs.Option.{◌>>=◌}
use Rattle.tap_base.proofs.ListFacts.{element_alike, element_at, map_set}
use Rattle.tap_settings.specs.declared.spots.Spot.{Spot}
use Rattle.tap_base.specs.ListWords.{first}
use Rattle.tap_settings.specs.Values.{first_at, is_at, value_at, values_at}
use Rattle.tap_settings.specs.SettingText.{Assignment}
use Rattle.tap_settings.specs.Spots.{spot_for}
use Rattle.tap_settings.specs.inner.Table.{HasPlaces, Holds, Rows, held_at}
use Rattle.tap_settings.proofs.SpotFacts.{Stands}
use Rattle.tap_base.proofs.LoopFacts.{first_none}
use Rattle.tap_base.proofs.WordFacts.{unlike}
use Rattle.std.proofs.lemmas.Bool.{eqb-true}

-- ---- one place of a list

got_same : {A : Type 0} (xs : List A) (k : ℕ) (x y : A) → slice_get xs k ≡ Some x → slice_get (slice_set xs k y) k ≡ Some y
got_same [] k x y h = absurd (none-some x h)
got_same (a ∷ as_) zero x y h = refl
got_same (a ∷ as_) (suc k) x y h = got_same as_ k x y h

got_other : {A : Type 0} (xs : List A) (k m : ℕ) (y : A) → k ≢ m → slice_get (slice_set xs k y) m ≡ slice_get xs m
got_other [] k m y h = refl
got_other (a ∷ as_) zero zero y h = absurd (h refl)
got_other (a ∷ as_) zero (suc m) y h = refl
got_other (a ∷ as_) (suc k) zero y h = refl
got_other (a ∷ as_) (suc k) (suc m) y h = got_other as_ k m y (λ e. h (ap suc e))

-- ---- one place of a table

module _ (rows : Rows) (row : List (Option ℤ)) (i j : ℕ) (o : Option ℤ) (x : ℤ) (e : slice_get rows i ≡ Some row) (f : slice_get row j ≡ Some o) where
  abbrev with_x : Rows
  with_x = slice_set rows i (slice_set row j (Some x))

  in_row : slice_get with_x i ≡ Some (slice_set row j (Some x))
  in_row = got_same rows i row (slice_set row j (Some x)) e

  held_same : held_at with_x i j ≡ Some x
  held_same = let at = got_same row j o (Some x) f in rw (in_row, at) refl

  held_beside : (b : ℕ) → j ≢ b → held_at with_x i b ≡ held_at rows i b
  held_beside b h = let at = got_other row j b (Some x) h in rw (in_row, e, at) refl

  held_other : (a b : ℕ) → i ≢ a → held_at with_x a b ≡ held_at rows a b
  held_other a b h = let at = got_other rows i a (slice_set row j (Some x)) h in rw at refl

-- ---- values of one more assignment

pub values_more : (processes : List Process) (i j : ℕ) (before : List Assignment) (a : Assignment) → values_at processes i j (before ++ a ∷ []) ≡ values_at processes i j before ++ value_at processes i j a
values_more processes i j before a = flat_map-append (value_at processes i j) before (a ∷ []) ∙ ap (λ z. values_at processes i j before ++ z) (append-nil (value_at processes i j a))

pub value_there : (processes : List Process) (i j : ℕ) (a : Assignment) (spot : Spot) → spot_for processes a ≡ Some spot → is_at i j (Some spot) ≡ true → value_at processes i j a ≡ a.value ∷ []
value_there processes i j a spot e h = rw (e, h) refl

pub no_value_there : (processes : List Process) (i j : ℕ) (a : Assignment) (o : Option Spot) → spot_for processes a ≡ o → is_at i j o ≡ false → value_at processes i j a ≡ []
no_value_there processes i j a o e h = rw (e, h) refl

-- ---- a table with one value more

module _ (processes : List Process) (before : List Assignment) (a : Assignment) (spot : Spot) (rows : Rows) (row : List (Option ℤ)) (o : Option ℤ)
    (found : spot_for processes a ≡ Some spot) (holds : Holds processes before rows) (free : held_at rows spot.process spot.input ≡ None)
    (e : slice_get rows spot.process ≡ Some row) (f : slice_get row spot.input ≡ Some o) where
  abbrev next : Rows
  next = slice_set rows spot.process (slice_set row spot.input (Some a.value))

  -- another place keeps its values
  kept : (i j : ℕ) → is_at i j (Some spot) ≡ false → held_at next i j ≡ held_at rows i j → held_at next i j ≡ first_at processes (before ++ a ∷ []) i j
  kept i j h k =
      let none = no_value_there processes i j a (Some spot) found h in
      let same : values_at processes i j (before ++ a ∷ []) ≡ values_at processes i j before = values_more processes i j before a ∙ ap (λ z. values_at processes i j before ++ z) none ∙ append-nil (values_at processes i j before) in
      k ∙ holds i j ∙ ap first (sym same)

  -- the place has the value
  put : held_at next spot.process spot.input ≡ first_at processes (before ++ a ∷ []) spot.process spot.input
  put =
      let empty : values_at processes spot.process spot.input before ≡ [] = first_none _ (sym (holds spot.process spot.input) ∙ free) in
      let p : (spot.process == spot.process) ≡ true = (Decides-eqb spot.process spot.process).1 refl in
      let x : (spot.input == spot.input) ≡ true = (Decides-eqb spot.input spot.input).1 refl in
      let there : is_at spot.process spot.input (Some spot) ≡ true = rw (p, x) refl in
      let one : values_at processes spot.process spot.input (before ++ a ∷ []) ≡ a.value ∷ [] =
      values_more processes spot.process spot.input before a ∙ ap (λ z. z ++ value_at processes spot.process spot.input a) empty ∙ value_there processes spot.process spot.input a spot found there in
      held_same rows row spot.process spot.input o a.value e f ∙ ap first (sym one)

  pub holds_more : Holds processes (before ++ a ∷ []) next
  holds_more i j = go (spot.process == i) refl where
    in_process : spot.process ≡ i → (c : Bool) → (spot.input == j) ≡ c → held_at next i j ≡ first_at processes (before ++ a ∷ []) i j
    in_process p true x =
        let F : ℕ → Type 0 = λ m. held_at next m j ≡ first_at processes (before ++ a ∷ []) m j in
        let G : ℕ → Type 0 = λ m. held_at next spot.process m ≡ first_at processes (before ++ a ∷ []) spot.process m in
        subst F p (subst G (eqb-true spot.input j x) put)
    in_process p false x =
        let yes : (spot.process == i) ≡ true = (Decides-eqb spot.process i).1 p in
        let apart : is_at i j (Some spot) ≡ false = rw (yes, x) refl in
        let F : ℕ → Type 0 = λ m. held_at next m j ≡ held_at rows m j in
        kept i j apart (subst F p (held_beside rows row spot.process spot.input o a.value e f j (unlike spot.input j x)))

    go : (b : Bool) → (spot.process == i) ≡ b → held_at next i j ≡ first_at processes (before ++ a ∷ []) i j
    go true p = in_process (eqb-true spot.process i p) (spot.input == j) refl
    go false p =
        let apart : is_at i j (Some spot) ≡ false = rw p refl in
        kept i j apart (held_other rows row spot.process spot.input o a.value e f i j (unlike spot.process i p))

-- ---- places

-- the row of a process, and the place of its input
pub row_there : (processes : List Process) (rows : Rows) (spot : Spot) → HasPlaces processes rows → Stands processes spot → (row : List (Option ℤ)) × (slice_get rows spot.process ≡ Some row) × (spot.input < length row)
row_there processes rows spot places s =
    let r = element_alike length (λ p. length p.inputs) rows processes spot.process s.process places s.process_is in
    (r.0, r.1, omega (arith, r.2, slice_get_within s.process.inputs spot.input s.input s.input_is))

pub place_there : (row : List (Option ℤ)) (j : ℕ) → j < length row → (o : Option ℤ) × (slice_get row j ≡ Some o)
place_there row j h = element_at row j h

pub places_stay : (processes : List Process) (rows : Rows) (row : List (Option ℤ)) (i j : ℕ) (o : Option ℤ) → slice_get rows i ≡ Some row → HasPlaces processes rows → HasPlaces processes (slice_set rows i (slice_set row j o))
places_stay processes rows row i j o e places = map_set length rows i row (slice_set row j o) e (length-set row j o) ∙ places

-- ---- a table without a value

-- no value yet
abbrev nothing : Option ℤ
nothing = None

lengths : (processes : List Process) → map length (map (λ (p : Process). replicate (length p.inputs) nothing) processes) ≡ map (λ p. length p.inputs) processes
lengths [] = refl
lengths (p ∷ ps) = let head = length-replicate (length p.inputs) nothing in let rest = lengths ps in rw (head, rest) refl

pub places_empty : (processes : List Process) (rows : Rows) → rows ≡ map (λ p. replicate (length p.inputs) None) processes → HasPlaces processes rows
places_empty processes rows e = ap (map length) e ∙ lengths processes

nothing_in : (n j : ℕ) → (slice_get (replicate n nothing) j >>= λ o. o) ≡ None
nothing_in zero j = refl
nothing_in (suc n) zero = refl
nothing_in (suc n) (suc j) = nothing_in n j

nothing_at : (processes : List Process) (i j : ℕ) → held_at (map (λ p. replicate (length p.inputs) None) processes) i j ≡ None
nothing_at [] i j = refl
nothing_at (p ∷ ps) zero j = nothing_in (length p.inputs) j
nothing_at (p ∷ ps) (suc i) j = nothing_at ps i j

pub holds_nothing : (processes : List Process) (rows : Rows) → rows ≡ map (λ p. replicate (length p.inputs) None) processes → Holds processes [] rows
holds_nothing processes rows e i j = ap (λ z. held_at z i j) e ∙ nothing_at processes i j
