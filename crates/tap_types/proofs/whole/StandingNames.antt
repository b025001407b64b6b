-- What the names of a process stand for is there.
use Rattle.std.proofs.Common.{◌≡◌, ℕ, ◌+◌, ◌≤◌, ◌≤ℤ◌, ℤ, pos, Bool, true, false, List, [], ◌∷◌, ◌++◌, Option, Some, length, replicate, slice_get, refl, ap, sym, ◌∙◌, subst, arith}
use Rattle.std.specs.Prelude.{bytes_eq, if◌then◌else◌, option_and_then, unsigned_abs}
use Rattle.std.proofs.lemmas.Int.{ints}
use Rattle.std.proofs.lemmas.List.{append_assoc, length-append, length-replicate}
use Rattle.std.proofs.lemmas.Option.{same_Some}
use Rattle.tap_base.specs.declared.place.Range.{Range}
use Rattle.tap_base.specs.declared.ast.AstConst.{AstConst}
use Rattle.tap_base.specs.declared.ast.AstProcess.{AstProcess}
use Rattle.tap_base.specs.declared.ast.AstScalar.{AstScalar}
use Rattle.tap_base.specs.declared.ast.AstScalar.TheVariants as scalar
use Rattle.tap_base.specs.declared.ast.AstType.{AstType}
use Rattle.tap_base.specs.declared.ast.AstType.TheVariants as type_of
use Rattle.tap_base.specs.declared.ast.AstVar.{AstVar}
use Rattle.tap_base.specs.declared.ast.Ident.{Ident}
use Rattle.tap_base.specs.declared.system.Var.{Var}
use Rattle.tap_base.specs.Interval.{IsWithin, from_to, truth_range}
use Rattle.tap_base.specs.Lists.{Each}
use Rattle.tap_base.specs.Option.{each}
use Rattle.tap_base.specs.Ranges.{ranges_of}
use Rattle.tap_base.proofs.ListFacts.{each_append}
use Rattle.tap_base.proofs.OptionFacts.{bound}
use Rattle.tap_names.specs.declared.named.Named.{Named}
use Rattle.tap_names.specs.Kinds.{cells_of, kind_of_scalar, scalar_of}
use Rattle.tap_names.specs.Names.{constants, initial_of, input_entry, input_names, input_of, names_of, range_of, timer_entry, timer_names, var_of, variable_named, variable_names}
use Rattle.tap_names.specs.Tables.{Entry, standing_for}
use Rattle.tap_names.specs.VariableOffences.{has_cells}
use Rattle.tap_types.specs.Given.{IsFit}
use Rattle.tap_base.specs.Resolved.{IsArray}
use Rattle.tap_base.specs.Scope.{Scope as Reach, input_ranges}
use Rattle.tap_types.proofs.whole.CellRuns.{get_behind, run_there}
use Rattle.tap_types.proofs.whole.Numbers.{at_most}
use Rattle.tap_types.proofs.whole.Standing.{IsStanding, OfKind, StandsFor}
use Rattle.tap_base.proofs.GatheredFacts.{each_first_of}

-- ---- ranges

-- a boolean has no value but 0 and 1
kind_ranged : (names : List (Entry Named)) (k : AstScalar) (range : Range) → range_of names k ≡ Some range → OfKind (kind_of_scalar k) range
kind_ranged names scalar.Boolean range e =
    let F : Range → Type 0 = λ z. IsWithin z truth_range in
    subst F (same_Some (from_to (pos 0) (pos 1)) range e) (omega (arith, ints), omega (arith, ints))
kind_ranged names (scalar.Between lo hi) range e = tt

abs_some : (n : ℤ) → pos 1 ≤ℤ n → 1 ≤ unsigned_abs n
abs_some n h = grind (arith, ints)

pub cells_some : (k : AstType) → has_cells k ≡ true → 1 ≤ cells_of k
cells_some (type_of.Scalar s) h = omega arith
cells_some (type_of.Array n s) h = abs_some n (at_most (pos 1) n h)

-- ---- one variable

-- what an input or a variable is found from
pub input_is : (names : List (Entry Named)) (v : AstVar) (w : Var) → input_of names v ≡ Some w → (range : Range) × (range_of names (scalar_of v.kind) ≡ Some range) × (record { name = v.name.text; range = range; cells = 1; initial = range.lo } ≡ w)
input_is names v w e =
    let b = bound (λ (range : Range). Some (record { name = v.name.text; range = range; cells = 1; initial = range.lo })) (range_of names (scalar_of v.kind)) w e in
    (b.0, b.1, same_Some (record { name = v.name.text; range = b.0; cells = 1; initial = b.0.lo }) w b.2)

pub var_is : (names : List (Entry Named)) (v : AstVar) (w : Var) → var_of names v ≡ Some w → (range : Range) × (initial : ℤ) × (range_of names (scalar_of v.kind) ≡ Some range) × (record { name = v.name.text; range = range; cells = cells_of v.kind; initial = initial } ≡ w)
var_is names v w e =
    let b = bound (λ range. option_and_then (λ initial. Some (record { name = v.name.text; range = range; cells = cells_of v.kind; initial = initial })) (initial_of names range v.initial)) (range_of names (scalar_of v.kind)) w e in
    let c = bound (λ initial. Some (record { name = v.name.text; range = b.0; cells = cells_of v.kind; initial = initial })) (initial_of names b.0 v.initial) w b.2 in
    (b.0, c.0, b.1, same_Some (record { name = v.name.text; range = b.0; cells = cells_of v.kind; initial = c.0 }) w c.2)

-- what a variable's name stands for is a run of cells
variable_stands : (s : Reach) (timers k : ℕ) (range : Range) (type : AstType) → IsArray s.cells k (cells_of type) range → OfKind (kind_of_scalar (scalar_of type)) range → IsStanding s timers (variable_named k range type)
variable_stands s timers k range (type_of.Scalar x) a h = (a, h)
variable_stands s timers k range (type_of.Array n x) a h = (a, h)

module _ (s : Reach) (timers : ℕ) (consts : List (Entry Named)) where
  abbrev EntryStands : Entry Named → Type 0
  EntryStands e = IsStanding s timers e.1

  -- ---- variables

  pub variables_stand : (k : ℕ) (vs : List AstVar) (ws : List Var) (es : List (Entry Named)) (front : List Range) → length front ≡ k → s.cells ≡ front ++ ranges_of ws → Each (λ v. has_cells v.kind ≡ true) vs → each (var_of consts) vs ≡ Some ws → variable_names consts k vs ≡ Some es → Each EntryStands es
  variables_stand k [] ws es front l c h e n = subst (Each EntryStands) (same_Some [] es n) tt
  variables_stand k (v ∷ vs) ws es front l c h e n =
      let r = each_first_of (var_of consts) v vs ws e in
      let w = var_is consts v r.0 r.2 in
      let size = cells_of v.kind in
      let a = bound (λ range. option_and_then (λ rest. Some ((v.name.text, variable_named k range v.kind) ∷ rest)) (variable_names consts (k + size) vs)) (range_of consts (scalar_of v.kind)) es n in
      let b = bound (λ rest. Some ((v.name.text, variable_named k a.0 v.kind) ∷ rest)) (variable_names consts (k + size) vs) es a.2 in
      let one_range : w.0 ≡ a.0 = same_Some w.0 a.0 (sym w.2 ∙ a.1) in
      let D : Var → List Range = λ z. front ++ (replicate z.cells z.range ++ ranges_of r.1) in
      let run : s.cells ≡ front ++ (replicate size a.0 ++ ranges_of r.1) = c ∙ ap (λ z. front ++ ranges_of z) (sym r.4) ∙ ap D (sym w.3) ∙ ap (λ z. front ++ (replicate size z ++ ranges_of r.1)) one_range in
      let there = run_there s.cells front (ranges_of r.1) k size a.0 l run (cells_some v.kind h.0) in
      let here = variable_stands s timers k a.0 v.kind there (kind_ranged consts (scalar_of v.kind) a.0 a.1) in
      let longer : length (front ++ replicate size a.0) ≡ k + size = length-append front (replicate size a.0) ∙ ap (λ z. length front + z) (length-replicate size a.0) ∙ ap (λ z. z + size) l in
      let later = variables_stand (k + size) vs r.1 b.0 (front ++ replicate size a.0) longer (run ∙ sym (append_assoc front (replicate size a.0) (ranges_of r.1))) h.1 r.3 b.1 in
      subst (Each EntryStands) (same_Some ((v.name.text, variable_named k a.0 v.kind) ∷ b.0) es b.2) (here, later)

  -- ---- inputs

  pub inputs_stand : (n : ℕ) (vs : List AstVar) (ws : List Var) (front : List Range) → length front ≡ n → s.inputs ≡ front ++ input_ranges ws → each (input_of consts) vs ≡ Some ws → Each EntryStands (input_names n vs)
  inputs_stand n [] ws front l c e = tt
  inputs_stand n (v ∷ vs) ws front l c e =
      let r = each_first_of (input_of consts) v vs ws e in
      let w = input_is consts v r.0 r.2 in
      let D : Var → List Range = λ z. front ++ (z.range ∷ input_ranges r.1) in
      let run : s.inputs ≡ front ++ (w.0 ∷ input_ranges r.1) = c ∙ ap (λ z. front ++ input_ranges z) (sym r.4) ∙ ap D (sym w.2) in
      let same : n + 0 ≡ n = omega arith in
      let there : slice_get s.inputs n ≡ Some w.0 = ap (slice_get s.inputs) (sym same) ∙ ap (λ z. slice_get s.inputs (z + 0)) (sym l) ∙ ap (λ z. slice_get z (length front + 0)) run ∙ get_behind front (w.0 ∷ input_ranges r.1) 0 in
      let here : EntryStands (input_entry n v) = (w.0, there, kind_ranged consts (scalar_of v.kind) w.0 w.1) in
      let longer : length (front ++ w.0 ∷ []) ≡ n + 1 = length-append front (w.0 ∷ []) ∙ ap (λ z. z + 1) l in
      (here, inputs_stand (n + 1) vs r.1 (front ++ w.0 ∷ []) longer (run ∙ sym (append_assoc front (w.0 ∷ []) (input_ranges r.1))) r.3)

  -- ---- timers and constants

  pub timers_stand : (n : ℕ) (ts : List Ident) → n + length ts ≤ timers → Each EntryStands (timer_names n ts)
  timers_stand n [] l = tt
  timers_stand n (t ∷ ts) l =
      let here : EntryStands (timer_entry n t) = omega (arith, l) in
      (here, timers_stand (n + 1) ts (omega (arith, l)))

  pub constants_stand : (cs : List AstConst) → Each (λ c. IsFit c.value) cs → Each EntryStands (constants cs)
  constants_stand [] h = tt
  constants_stand (c ∷ cs) h = (h.0, constants_stand cs h.1)

  -- ---- all names

  by_test : (b : Bool) (n : Named) (rest : Option Named) → IsStanding s timers n → StandsFor s timers rest → StandsFor s timers (if b then Some n else rest)
  by_test true n rest h k = h
  by_test false n rest h k = k

  pub found_stands : (x : List ℕ) (es : List (Entry Named)) → Each EntryStands es → StandsFor s timers (standing_for x es)
  found_stands x [] h = tt
  found_stands x (e ∷ es) h = by_test (bytes_eq x e.0) e.1 (standing_for x es) h.0 (found_stands x es h.1)

-- What is found among the names of a process is there.
pub names_stand : (s : Reach) (p : AstProcess) (inputs vars : List Var) (names : List (Entry Named)) → s.cells ≡ ranges_of vars → s.inputs ≡ input_ranges inputs
    → Each (λ c. IsFit c.value) p.consts → Each (λ v. has_cells v.kind ≡ true) p.vars → each (input_of (constants p.consts)) p.inputs ≡ Some inputs → each (var_of (constants p.consts)) p.vars ≡ Some vars
    → names_of p ≡ Some names → (x : List ℕ) → StandsFor s (length p.timers) (standing_for x names)
names_stand s p inputs vars names c i f h ei ev e x =
    let timers = length p.timers in
    let k = constants p.consts in
    let E : Entry Named → Type 0 = λ z. IsStanding s timers z.1 in
    let b = bound (λ variables. Some (k ++ (input_names 0 p.inputs ++ variables ++ timer_names 0 p.timers))) (variable_names k 0 p.vars) names e in
    let vs = variables_stand s timers k 0 p.vars vars b.0 [] refl c h ev b.1 in
    let is = inputs_stand s timers k 0 p.inputs inputs [] refl i ei in
    let ts = timers_stand s timers k 0 p.timers (omega arith) in
    let cs = constants_stand s timers k p.consts f in
    let all = each_append E k (input_names 0 p.inputs ++ b.0 ++ timer_names 0 p.timers) cs (each_append E (input_names 0 p.inputs ++ b.0) (timer_names 0 p.timers) (each_append E (input_names 0 p.inputs) b.0 is vs) ts) in
    found_stands s timers k x names (subst (Each E) (same_Some (k ++ (input_names 0 p.inputs ++ b.0 ++ timer_names 0 p.timers)) names b.2) all)
