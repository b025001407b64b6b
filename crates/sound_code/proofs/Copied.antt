-- Copies, loads, saves and received fields keep ranges.
use Rattle.std.proofs.Common.{◌≡◌, ◌+◌, ◌<◌, ◌≤◌, ◌&&◌, ℕ, ℤ, pos, negsuc, true, List, length, refl, ap, sym, subst, ◌∙◌, slice_get, Option, Some, None, arith, map}
use Rattle.std.specs.Prelude.{◌-ℤ◌, nat_le, int_le, int_lt, unsigned_abs}
use Rattle.std.specs.List.{list_all}
use Rattle.std.specs.Option.{option_map}
use Rattle.std.proofs.lemmas.Bool.{and_from, leb-true}
use Rattle.std.proofs.lemmas.Int.{ints}
use Rattle.std.proofs.lemmas.Option.{slice_get_within, slice_get-map}
use Rattle.tap_base.specs.declared.place.Range.{Range}
use Rattle.tap_base.specs.Interval.{IsIn, from_to, field_range}
use Rattle.tap_base.specs.Option.{◌>>=◌}
use Rattle.tap_base.proofs.ListFacts.{both_at, element_at}
use Rattle.register_code.specs.declared.code.CodeField.{CodeField}
use Rattle.register_code.specs.declared.instr.Instr.{Instr}
use Rattle.sound_code.specs.Fitting.{FitsSite, ReceivedFit}
use Rattle.register_code.specs.Instructions.{Moment, place_at, puts}
use Rattle.register_code.specs.Results.{cell_run}
use Rattle.register_code.specs.Sites.{Site, both_in}
use Rattle.sound_code.proofs.Fitted.{both_are, held_in, lies_on, puts_fits}
use Rattle.tap_base.proofs.OptionFacts.{mapped}
use Rattle.register_code.specs.Fields.{code_field}
use Rattle.register_code.proofs.Passing.{run_at}
use Rattle.sound_code.proofs.Named.{Outcome, le_is, lt_is}

-- ---- copies

pub const_fits : (s : Site) (m : Moment) (i : Instr) (r : ℕ) (x : ℤ) → FitsSite s m → m.next < length s.instrs → both_in (Some (from_to x x)) (slice_get s.ranges r) ≡ true → Outcome s i m (puts r x m)
const_fits s m i r x fits going kept =
    let lie = both_are (Some (from_to x x)) (slice_get s.ranges r) kept in
    let same : from_to x x ≡ lie.first = cc in
    let in_it : IsIn x lie.first = subst (IsIn x) same (omega (arith, ints), omega (arith, ints)) in
    puts_fits s m r x lie.second fits going lie.other (lies_on lie.first lie.second x lie.within in_it)

pub copy_fits : (s : Site) (m : Moment) (i : Instr) (r a : ℕ) → FitsSite s m → m.next < length s.instrs → both_in (slice_get s.ranges a) (slice_get s.ranges r) ≡ true
    → Outcome s i m (slice_get m.registers a >>= λ x. puts r x m)
copy_fits s m i r a fits going kept =
    let lie = both_are (slice_get s.ranges a) (slice_get s.ranges r) kept in
    let x = held_in s m a lie.first fits lie.one in
    let at = x.1 in
    rw at (puts_fits s m r x.0 lie.second fits going lie.other (lies_on lie.first lie.second x.0 lie.within x.2))

-- ---- runs of cells

-- the cell that a fitting index names
pub record Indexed (s : Site) (m : Moment) (base length_of index : ℕ) : Type 0 where
  pub offset : ℕ
  pub inside : offset < length_of
  pub place : place_at base length_of index m ≡ Some (base + offset)

indexed : (s : Site) (m : Moment) (base run index : ℕ) → FitsSite s m → both_in (slice_get s.ranges index) (Some (from_to (pos 0) (pos run -ℤ pos 1))) ≡ true → Indexed s m base run index
indexed s m base run index fits kept =
    let lie = both_are (slice_get s.ranges index) (Some (from_to (pos 0) (pos run -ℤ pos 1))) kept in
    let x = held_in s m index lie.first fits lie.one in
    let same : from_to (pos 0) (pos run -ℤ pos 1) ≡ lie.second = cc in
    let in_it : IsIn x.0 (from_to (pos 0) (pos run -ℤ pos 1)) = subst (IsIn x.0) (sym same) (lies_on lie.first lie.second x.0 lie.within x.2) in
    let at = x.1 in
    record { offset = unsigned_abs x.0; inside = small x.0 in_it; place = rw (at, test x.0 in_it) refl } where
      small : (x : ℤ) → IsIn x (from_to (pos 0) (pos run -ℤ pos 1)) → unsigned_abs x < run
      small (pos n) h = omega (arith, ints, h.1)
      small (negsuc n) h = absurd (omega (arith, ints, h.0))

      test : (x : ℤ) → IsIn x (from_to (pos 0) (pos run -ℤ pos 1)) → (int_le (pos 0) x && int_lt x (pos run)) ≡ true
      test (pos n) h = let l : n < run = omega (arith, ints, h.1) in and_from (int_le (pos 0) (pos n)) (int_lt (pos n) (pos run)) (le_is (pos 0) (pos n) h.0) (lt_is n run l)
      test (negsuc n) h = absurd (omega (arith, ints, h.0))

pub load_fits : (s : Site) (m : Moment) (i : Instr) (r base run index : ℕ) → FitsSite s m → m.next < length s.instrs → s.cells ≤ length s.ranges → nat_le (base + run) s.cells ≡ true
    → list_all (λ cell. both_in (Some cell) (slice_get s.ranges r)) (cell_run s base run) ≡ true → both_in (slice_get s.ranges index) (Some (from_to (pos 0) (pos run -ℤ pos 1))) ≡ true
    → Outcome s i m (place_at base run index m >>= λ k. slice_get m.registers k >>= λ x. puts r x m)
load_fits s m i r base run index fits going cells inside kept index_kept =
    let at = indexed s m base run index fits index_kept in
    let cell = run_at (λ cell. both_in (Some cell) (slice_get s.ranges r)) s.ranges base run at.offset kept at.inside (omega (arith, leb-true (base + run) s.cells inside, cells)) in
    let lie = both_are (Some cell.0) (slice_get s.ranges r) cell.2 in
    let x = held_in s m (base + at.offset) cell.0 fits cell.1 in
    let same : cell.0 ≡ lie.first = cc in
    let place = at.place in
    let there_is = x.1 in
    rw (place, there_is) (puts_fits s m r x.0 lie.second fits going lie.other (lies_on lie.first lie.second x.0 lie.within (subst (IsIn x.0) same x.2)))

pub save_fits : (s : Site) (m : Moment) (i : Instr) (base run index a : ℕ) → FitsSite s m → m.next < length s.instrs → s.cells ≤ length s.ranges → nat_le (base + run) s.cells ≡ true
    → list_all (λ cell. both_in (slice_get s.ranges a) (Some cell)) (cell_run s base run) ≡ true → both_in (slice_get s.ranges index) (Some (from_to (pos 0) (pos run -ℤ pos 1))) ≡ true
    → Outcome s i m (place_at base run index m >>= λ k. slice_get m.registers a >>= λ x. puts k x m)
save_fits s m i base run index a fits going cells inside kept index_kept =
    let at = indexed s m base run index fits index_kept in
    let cell = run_at (λ cell. both_in (slice_get s.ranges a) (Some cell)) s.ranges base run at.offset kept at.inside (omega (arith, leb-true (base + run) s.cells inside, cells)) in
    let lie = both_are (slice_get s.ranges a) (Some cell.0) cell.2 in
    let x = held_in s m a lie.first fits lie.one in
    let same : lie.second ≡ cell.0 = cc in
    let place = at.place in
    let there_is = x.1 in
    rw (place, there_is) (puts_fits s m (base + at.offset) x.0 cell.0 fits going cell.1 (subst (IsIn x.0) same (lies_on lie.first lie.second x.0 lie.within x.2)))

-- ---- received fields

field_at : (o : Option (List CodeField)) (received : List ℤ) (field : ℕ) (range : Range) → ReceivedFit o received → (o >>= λ fields. option_map (λ f. field_range (code_field f)) (slice_get fields field)) ≡ Some range
    → (x : ℤ) × (slice_get received field ≡ Some x) × IsIn x range
field_at None received field range h e = cc
field_at (Some fields) received field range h e =
    let f = mapped (λ g. field_range (code_field g)) (slice_get fields field) range e in
    let wire : slice_get (map code_field fields) field ≡ Some (code_field f.0) = slice_get-map code_field fields field ∙ ap (option_map code_field) f.1 in
    let there : slice_get (map field_range (map code_field fields)) field ≡ Some range = slice_get-map field_range (map code_field fields) field ∙ ap (option_map field_range) wire ∙ ap (λ r. Some r) f.2 in
    let inside = slice_get_within (map field_range (map code_field fields)) field range there in
    let value = element_at received field (omega (arith, h.counted, inside)) in
    (value.0, value.1, both_at _ (map field_range (map code_field fields)) received field range value.0 h.within there value.1)

pub part_fits : (s : Site) (m : Moment) (i : Instr) (received : List ℤ) (r field : ℕ) → FitsSite s m → m.next < length s.instrs → ReceivedFit s.received received
    → both_in (s.received >>= λ fields. option_map (λ f. field_range (code_field f)) (slice_get fields field)) (slice_get s.ranges r) ≡ true → Outcome s i m (slice_get received field >>= λ x. puts r x m)
part_fits s m i received r field fits going heard kept =
    let lie = both_are (s.received >>= λ fields. option_map (λ f. field_range (code_field f)) (slice_get fields field)) (slice_get s.ranges r) kept in
    let x = field_at s.received received field lie.first heard lie.one in
    let at = x.1 in
    rw at (puts_fits s m r x.0 lie.second fits going lie.other (lies_on lie.first lie.second x.0 lie.within x.2))
