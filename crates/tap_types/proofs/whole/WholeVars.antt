-- Inputs, variables and timers without an offence.
use Rattle.std.proofs.Common.{◌≡◌, ℕ, ◌+◌, ◌<◌, ◌≤◌, ℤ, true, not, ◌&&◌, List, [], ◌∷◌, ◌++◌, Option, Some, None, map, length, replicate, slice_get, refl, ap, sym, ◌∙◌, subst}
use Rattle.std.specs.Prelude.{int_le, nat_lt}
use Rattle.std.proofs.lemmas.List.{length-append, length-map, length-replicate}
use Rattle.std.proofs.lemmas.List.Sums.{sum_by-cons}
use Rattle.tap_base.specs.declared.place.Range.{Range}
use Rattle.tap_base.specs.declared.refusal.Refusal.{Refusal}
use Rattle.tap_base.specs.declared.refusal.RefusalCode.TheVariants.{X1, X2}
use Rattle.tap_base.specs.declared.ast.AstAction.{AstAction}
use Rattle.tap_base.specs.declared.ast.AstProcess.{AstProcess}
use Rattle.tap_base.specs.declared.ast.AstVar.{AstVar}
use Rattle.tap_base.specs.declared.ast.Ident.{Ident}
use Rattle.tap_base.specs.declared.system.Var.{Var}
use Rattle.tap_base.specs.Interval.{IsIn}
use Rattle.tap_base.specs.Lists.{AreDistinct, Each}
use Rattle.tap_base.specs.Option.{each}
use Rattle.tap_base.specs.Ranges.{is_within, ranges_of}
use Rattle.tap_base.proofs.ListFacts.{none_first, none_second, past_end}
use Rattle.tap_base.proofs.RangeFacts.{within_decides}
use Rattle.tap_names.specs.declared.named.Named.{Named}
use Rattle.tap_names.specs.Declarations.{inputs_offences, timers_offences, too_many_actions, variables_offences}
use Rattle.tap_names.specs.Kinds.{cells_of, scalar_of}
use Rattle.tap_names.specs.NameOffences.{count_offences, name_offences}
use Rattle.tap_names.specs.Names.{constants, input_of, var_of}
use Rattle.tap_base.specs.Offences.{where_}
use Rattle.tap_names.specs.Tables.{Entry, names_in}
use Rattle.tap_names.specs.VariableOffences.{are_sound, cells_among, has_cells, idents, initial_offences, input_offences, is_sound, scalar_offences, timer_offences, var_names, variable_offences}
use Rattle.tap_base.specs.NamesOfSystems.{IsShort}
use Rattle.tap_base.specs.Resolved.{IsInput, IsOrdered, IsVar}
use Rattle.tap_types.proofs.whole.Numbers.{at_most, no_more}
use Rattle.tap_types.proofs.whole.StandingNames.{cells_some, input_is, var_is}
use Rattle.tap_types.proofs.whole.WholeMessages.{count_fewer, name_new, name_short}
use Rattle.tap_base.proofs.GatheredFacts.{behind_distinct, behind_each, behind_few, behind_little, each_alike, each_first_of, each_found}
use Rattle.tap_base.proofs.DistinctFacts.{none_behind}
use Rattle.tap_base.proofs.OffenceFacts.{both_true, met, unmet}

-- ---- values

-- a sound range is in order, and its initial value is in it
sound_values : (range : Range) (initial : ℤ) → are_sound range initial ≡ true → IsOrdered range × IsIn initial range
sound_values range initial h =
    let b = both_true (int_le range.lo range.hi) (is_within range initial) h in
    (at_most range.lo range.hi b.0, (within_decides range initial).0 b.1)

sound_at : (o : Option Var) (w : Var) → o ≡ Some w → is_sound o ≡ true → IsOrdered w.range × IsIn w.initial w.range
sound_at o w e h = let F : Option Var → Type 0 = λ z. is_sound z ≡ true in sound_values w.range w.initial (subst F e h)

-- ---- inputs

abbrev InputFact : List (Entry Named) → AstVar → Type 0
InputFact consts v = IsShort v.name.text × (is_sound (input_of consts v) ≡ true)

of_input : (consts : List (Entry Named)) (before : List (List ℕ)) (v : AstVar) → input_offences consts before v ≡ [] → (name_offences (names_in consts ++ before) v.name ≡ []) × (count_offences 256 before v.name ≡ []) × (is_sound (input_of consts v) ≡ true)
of_input consts before v h =
    let a = name_offences (names_in consts ++ before) v.name in
    let b = count_offences 256 before v.name in
    let c = scalar_offences consts (scalar_of v.kind) in
    let d = where_ (not (is_sound (input_of consts v))) X2 v.name.place in
    let ab = none_first (a ++ b) c (none_first (a ++ b ++ c) d h) in
    (none_first a b ab, none_second a b ab, met (is_sound (input_of consts v)) X2 v.name.place (none_second (a ++ b ++ c) d h))

input_good : (consts : List (Entry Named)) (v : AstVar) (w : Var) → InputFact consts v → input_of consts v ≡ Some w → IsInput w × IsShort w.name
input_good consts v w f e =
    let i = input_is consts v w e in
    let s = sound_at (input_of consts v) w e f.1 in
    let one : w.cells ≡ 1 = ap (λ (z : Var). z.cells) (sym i.2) in
    let input : IsInput w = (one, s.0) in
    (input, subst (λ (z : Var). IsShort z.name) i.2 f.0)

abbrev input_step : AstProcess → List AstVar → AstVar → List Refusal
input_step p before v = input_offences (constants p.consts) (var_names before) v

pub inputs_good : (p : AstProcess) (ws : List Var) → inputs_offences p ≡ [] → each (input_of (constants p.consts)) p.inputs ≡ Some ws → Each (λ w. IsInput w × IsShort w.name) ws
inputs_good p ws h e =
    let k = constants p.consts in
    let facts = behind_each (input_step p) (InputFact k) (λ before v g. let t = of_input k (var_names before) v g in (name_short (names_in k ++ var_names before) v.name t.0, t.2)) [] p.inputs h in
    each_found (input_of k) (InputFact k) (λ w. IsInput w × IsShort w.name) (λ v w f g. input_good k v w f g) p.inputs ws facts e

pub inputs_few : (p : AstProcess) → inputs_offences p ≡ [] → length p.inputs ≤ 256
inputs_few p h = behind_few (input_step p) 256 few p.inputs h
  where
    few : (before : List AstVar) (v : AstVar) → input_step p before v ≡ [] → length before < 256
    few before v e = subst (λ z. z < 256) (length-map before (λ (v : AstVar). v.name.text)) (count_fewer 256 (var_names before) v.name (of_input (constants p.consts) (var_names before) v e).1)

pub input_names_kept : (consts : List (Entry Named)) (vs : List AstVar) (ws : List Var) → each (input_of consts) vs ≡ Some ws → map (λ (w : Var). w.name) ws ≡ var_names vs
input_names_kept consts vs ws e = each_alike (input_of consts) (λ v. v.name.text) (λ (w : Var). w.name) (λ v w g. ap (λ (z : Var). z.name) (sym (input_is consts v w g).2)) vs ws e

-- ---- variables

abbrev VarFact : List (Entry Named) → AstVar → Type 0
VarFact consts v = IsShort v.name.text × (has_cells v.kind ≡ true) × (is_sound (var_of consts v) ≡ true)

pub record OfVariable (consts : List (Entry Named)) (before : List (List ℕ)) (cells : ℕ) (v : AstVar) : Type 0 where
  pub name : name_offences (names_in consts ++ before) v.name ≡ []
  pub sound : has_cells v.kind && is_sound (var_of consts v) ≡ true
  pub few : cells + cells_of v.kind ≤ 4096

of_variable : (consts : List (Entry Named)) (before : List (List ℕ)) (cells : ℕ) (v : AstVar) → variable_offences consts before cells v ≡ [] → OfVariable consts before cells v
of_variable consts before cells v h =
    let a = name_offences (names_in consts ++ before) v.name in
    let b = scalar_offences consts (scalar_of v.kind) in
    let c = initial_offences consts v.initial in
    let d = where_ (not (has_cells v.kind && is_sound (var_of consts v))) X2 v.name.place in
    let f = where_ (nat_lt 4096 (cells + cells_of v.kind)) X1 v.name.place in
    let abcd = none_first (a ++ b ++ c ++ d) f h in
    record {
      name = none_first a b (none_first (a ++ b) c (none_first (a ++ b ++ c) d abcd));
      sound = met (has_cells v.kind && is_sound (var_of consts v)) X2 v.name.place (none_second (a ++ b ++ c) d abcd);
      few = no_more 4096 (cells + cells_of v.kind) (unmet (nat_lt 4096 (cells + cells_of v.kind)) X1 v.name.place (none_second (a ++ b ++ c ++ d) f h));
    }

var_good : (consts : List (Entry Named)) (v : AstVar) (w : Var) → VarFact consts v → var_of consts v ≡ Some w → IsVar w × IsShort w.name
var_good consts v w f e =
    let i = var_is consts v w e in
    let s = sound_at (var_of consts v) w e f.2 in
    let some : 1 ≤ w.cells = subst (λ (z : Var). 1 ≤ z.cells) i.3 (cells_some v.kind f.1) in
    let var : IsVar w = (some, s.0, s.1) in
    (var, subst (λ (z : Var). IsShort z.name) i.3 f.0)

abbrev variable_step : AstProcess → List AstVar → AstVar → List Refusal
variable_step p before v = variable_offences (constants p.consts) (var_names p.inputs ++ var_names before) (cells_among before) v

var_facts : (p : AstProcess) → variables_offences p ≡ [] → Each (VarFact (constants p.consts)) p.vars
var_facts p h =
    let k = constants p.consts in
    behind_each (variable_step p) (VarFact k)
    (λ before v g.
    let t = of_variable k (var_names p.inputs ++ var_names before) (cells_among before) v g in
    let b = both_true (has_cells v.kind) (is_sound (var_of k v)) t.sound in
    (name_short (names_in k ++ (var_names p.inputs ++ var_names before)) v.name t.name, b.0, b.1)) [] p.vars h

pub vars_good : (p : AstProcess) (ws : List Var) → variables_offences p ≡ [] → each (var_of (constants p.consts)) p.vars ≡ Some ws → Each (λ w. IsVar w × IsShort w.name) ws
vars_good p ws h e =
    let k = constants p.consts in
    each_found (var_of k) (VarFact k) (λ w. IsVar w × IsShort w.name) (λ v w f g. var_good k v w f g) p.vars ws (var_facts p h) e

pub vars_have_cells : (p : AstProcess) → variables_offences p ≡ [] → Each (λ v. has_cells v.kind ≡ true) p.vars
vars_have_cells p h =
    behind_each (variable_step p) (λ v. has_cells v.kind ≡ true)
    (λ before v g.
    let k = constants p.consts in
    let t = of_variable k (var_names p.inputs ++ var_names before) (cells_among before) v g in
    (both_true (has_cells v.kind) (is_sound (var_of k v)) t.sound).0) [] p.vars h

pub var_names_kept : (consts : List (Entry Named)) (vs : List AstVar) (ws : List Var) → each (var_of consts) vs ≡ Some ws → map (λ (w : Var). w.name) ws ≡ var_names vs
var_names_kept consts vs ws e = each_alike (var_of consts) (λ v. v.name.text) (λ (w : Var). w.name) (λ v w g. ap (λ (z : Var). z.name) (sym (var_is consts v w g).3)) vs ws e

-- ---- cells

cells_kept : (consts : List (Entry Named)) (vs : List AstVar) (ws : List Var) → each (var_of consts) vs ≡ Some ws → length (ranges_of ws) ≡ cells_among vs
cells_kept consts [] ws e = let F : List Var → ℕ = λ z. length (ranges_of z) in ap F (sym (same_nil ws e))
  where
    same_nil : (ws : List Var) → each (var_of consts) [] ≡ Some ws → [] ≡ ws
    same_nil ws e = cc
cells_kept consts (v ∷ vs) ws e =
    let r = each_first_of (var_of consts) v vs ws e in
    let i = var_is consts v r.0 r.2 in
    let size : r.0.cells ≡ cells_of v.kind = ap (λ (z : Var). z.cells) (sym i.3) in
    let rest = cells_kept consts vs r.1 r.3 in
    let split : length (ranges_of (r.0 ∷ r.1)) ≡ r.0.cells + length (ranges_of r.1) = length-append (replicate r.0.cells r.0.range) (ranges_of r.1) ∙ ap (λ z. z + length (ranges_of r.1)) (length-replicate r.0.cells r.0.range) in
    let total : cells_among (v ∷ vs) ≡ cells_of v.kind + cells_among vs = sum_by-cons (λ n. n) (cells_of v.kind) (map (λ (v : AstVar). cells_of v.kind) vs) in
    ap (λ z. length (ranges_of z)) (sym r.4) ∙ split ∙ ap (λ z. z + length (ranges_of r.1)) size ∙ ap (λ z. cells_of v.kind + z) rest ∙ sym total

pub cells_few : (p : AstProcess) (ws : List Var) → variables_offences p ≡ [] → each (var_of (constants p.consts)) p.vars ≡ Some ws → length (ranges_of ws) ≤ 4096
cells_few p ws h e =
    let k = constants p.consts in
    let few : cells_among p.vars ≤ 4096 = behind_little (variable_step p) (λ v. cells_of v.kind) 4096 (λ before v g. (of_variable k (var_names p.inputs ++ var_names before) (cells_among before) v g).few) p.vars h in
    subst (λ z. z ≤ 4096) (sym (cells_kept k p.vars ws e)) few

-- ---- names

-- inputs and variables have names of their own
pub vars_distinct : (p : AstProcess) → inputs_offences p ≡ [] → variables_offences p ≡ [] → AreDistinct (var_names p.inputs ++ var_names p.vars)
vars_distinct p hi hv =
    let k = constants p.consts in
    let inputs = behind_distinct (input_step p) (λ v. v.name.text) [] tt (λ before v g. none_behind v.name.text (names_in k) (var_names before) (name_new (names_in k ++ var_names before) v.name (of_input k (var_names before) v g).0)) p.inputs hi in
    behind_distinct (variable_step p) (λ v. v.name.text) (var_names p.inputs) inputs (λ before v g. none_behind v.name.text (names_in k) (var_names p.inputs ++ var_names before) (name_new (names_in k ++ (var_names p.inputs ++ var_names before)) v.name (of_variable k (var_names p.inputs ++ var_names before) (cells_among before) v g).name)) p.vars hv

-- ---- timers and actions

pub timers_few : (p : AstProcess) → timers_offences p ≡ [] → length p.timers ≤ 32
timers_few p h = behind_few (λ before t. timer_offences (constants p.consts) (var_names p.inputs ++ var_names p.vars) (idents before) t) 32 few p.timers h
  where
    few : (before : List Ident) (t : Ident) → timer_offences (constants p.consts) (var_names p.inputs ++ var_names p.vars) (idents before) t ≡ [] → length before < 32
    few before t e = subst (λ z. z < 32) (length-map before (λ (x : Ident). x.text)) (count_fewer 32 (idents before) t (none_second (name_offences (names_in (constants p.consts) ++ ((var_names p.inputs ++ var_names p.vars) ++ idents before)) t) (count_offences 32 (idents before) t) e))

none_over : (o : Option AstAction) → too_many_actions o ≡ [] → o ≡ None
none_over None h = refl
none_over (Some a) h = absurd cc

pub actions_few : (p : AstProcess) → too_many_actions (slice_get p.actions 256) ≡ [] → length p.actions ≤ 256
actions_few p h = past_end p.actions 256 (none_over (slice_get p.actions 256) h)
