-- Which words are those of a variable.
use Rattle.std.proofs.Common.{◌≡◌, ◌<◌, ◌+◌, ℕ, zero, suc, ℤ, List, [], ◌∷◌, length, map, drop, get_or, slice_get, refl, ap, sym, subst, ◌∙◌, arith, codes, Option, Some, None, if◌then◌else◌}
use Rattle.std.specs.Prelude.{IsSomeAnd, slice_index_or}
use Rattle.std.specs.List.{position, position_from}
use Rattle.std.specs.Str.{bytes_eq}
use Rattle.std.proofs.lemmas.Iterator.Adapters.{position_from-zero}
use Rattle.run_text.specs.Operands.{IsNameWord}
use Rattle.run_text.specs.declared.names.Names.{Names}
use Rattle.run_text.specs.declared.names.VarName.{VarName}
use Rattle.run_text.proofs.LineLabels.{all_valued, integer, place}
use Rattle.run_text.proofs.NamesAt.{one_name}
use Rattle.trace_entries.specs.Entries.{AreEntryWords}
use Rattle.trace_entries.specs.LineNames.{AreLineNames, IsVarWord, var_names, vars_at}
use Rattle.trace_entries.specs.Tails.{AreIntegerWords}
use Rattle.trace_entries.specs.declared.entry.Entry.{Entry}
use Rattle.trace_entries.proofs.EntryBack.{few_vars, inside, of_words}

-- ---- names of variables

texts_from : (i : ℕ) (w : List ℕ) (vars : List VarName) → position_from (λ n. bytes_eq n w) i (var_names vars) ≡ position_from (λ v. bytes_eq v.text w) i vars
texts_from i w [] = refl
texts_from i w (v ∷ vs) = ap (λ r. if bytes_eq v.text w then Some i else r) (texts_from (i + 1) w vs)

-- a variable stands where its name does
pub var_position : (w : List ℕ) (vars : List VarName) (o : Option ℕ) → position (λ v. bytes_eq v.text w) vars ≡ o → position (λ n. bytes_eq n w) (var_names vars) ≡ o
var_position w vars o h = position_from-zero (λ n. bytes_eq n w) (var_names vars) ∙ texts_from 0 w vars ∙ sym (position_from-zero (λ v. bytes_eq v.text w) vars) ∙ h

-- what stands at a place
pub at_index : (vars : List VarName) (at : ℕ) (d : VarName) → at < length vars → IsSomeAnd (slice_get vars at) (λ v. v.cells ≡ (slice_index_or vars at d).cells)
at_index [] at d h = absurd (omega (arith, h))
at_index (v ∷ vs) zero d h = refl
at_index (v ∷ vs) (suc at) d h = at_index vs at d (omega (arith, h))

turn_round : (o : Option VarName) (n : ℕ) → IsSomeAnd o (λ v. n ≡ v.cells) → IsSomeAnd o (λ v. v.cells ≡ n)
turn_round None n h = absurd h
turn_round (Some v) n h = sym h

same_cells : (o : Option VarName) (n k : ℕ) → IsSomeAnd o (λ v. n ≡ v.cells) → IsSomeAnd o (λ v. v.cells ≡ k) → n ≡ k
same_cells None n k h i = absurd h
same_cells (Some v) n k h i = h ∙ i

-- ---- the parts of the words

record VarParts (names : Names) (process var : List ℕ) (words : List (List ℕ)) : Type 0 where
  p : ℕ
  x : ℕ
  values : List ℤ
  process_is : IsNameWord names.processes process p
  var_is : IsNameWord (var_names (vars_at names p)) var x
  there : IsSomeAnd (slice_get (vars_at names p) x) (λ v. length values ≡ v.cells)
  words_are : AreIntegerWords words values

var_parts : (names : Names) (process var : List ℕ) (words : List (List ℕ)) (e : Entry) → AreLineNames names → AreEntryWords names (codes "var" ∷ process ∷ var ∷ words) e → VarParts names process var words
var_parts names process var words e d h =
    let k = of_words names (codes "var" ∷ process ∷ var ∷ words) e d h in
    record {
      p = place names.processes process;
      x = place (var_names (vars_at names (place names.processes process))) var;
      values = map integer words;
      process_is = (k.0.0, ap (λ w. get_or w 1 []) k.1);
      var_is = (inside _ (vars_at names (place names.processes process)) _ k.0.1, ap (λ w. get_or w 2 []) k.1);
      there = k.0.1;
      words_are = (k.0.2, ap (drop 3) k.1);
    }

-- the variable that is named is the one that was found
same_process : (names : Names) (process var : List ℕ) (words : List (List ℕ)) (p : ℕ) → AreLineNames names → (t : VarParts names process var words) → IsNameWord names.processes process p → t.p ≡ p
same_process names process var words p d t h = one_name names.processes process t.p p d.processes.named t.process_is h

pub not_var : (names : Names) (process var : List ℕ) (words : List (List ℕ)) (e : Entry) (p : ℕ) → AreLineNames names → IsNameWord names.processes process p → ((x k : ℕ) → IsVarWord (vars_at names p) var x k → ⊥)
    → AreEntryWords names (codes "var" ∷ process ∷ var ∷ words) e → ⊥
not_var names process var words e p d h none w =
    let t = var_parts names process var words e d w in
    none t.x (length t.values) (subst (λ q. IsVarWord (vars_at names q) var t.x (length t.values)) (same_process names process var words p d t h) (t.var_is, turn_round _ _ t.there))

pub no_integers : (names : Names) (process var : List ℕ) (words : List (List ℕ)) (e : Entry) → AreLineNames names → ((zs : List ℤ) → AreIntegerWords words zs → ⊥) → AreEntryWords names (codes "var" ∷ process ∷ var ∷ words) e → ⊥
no_integers names process var words e d none w = let t = var_parts names process var words e d w in none t.values t.words_are

pub not_as_many : (names : Names) (process var : List ℕ) (words : List (List ℕ)) (e : Entry) (p x k : ℕ) (zs : List ℤ) → AreLineNames names → IsNameWord names.processes process p → IsVarWord (vars_at names p) var x k
    → AreIntegerWords words zs → (length zs ≡ k → ⊥) → AreEntryWords names (codes "var" ∷ process ∷ var ∷ words) e → ⊥
not_as_many names process var words e p x k zs d h v is other w =
    let t = var_parts names process var words e d w in
    let at = same_process names process var words p d t h in
    let here : IsNameWord (var_names (vars_at names p)) var t.x = subst (λ q. IsNameWord (var_names (vars_at names q)) var t.x) at t.var_is in
    let one = one_name (var_names (vars_at names p)) var t.x x (few_vars names p d).named here v.0 in
    let there : IsSomeAnd (slice_get (vars_at names p) t.x) (λ v. length t.values ≡ v.cells) = subst (λ q. IsSomeAnd (slice_get (vars_at names q) t.x) (λ v. length t.values ≡ v.cells)) at t.there in
    let cells : length t.values ≡ k = same_cells _ _ k (subst (λ y. IsSomeAnd (slice_get (vars_at names p) y) (λ v. length t.values ≡ v.cells)) one there) v.1 in
    let values : zs ≡ t.values = sym (all_valued zs is.0) ∙ ap (map integer) (sym is.1 ∙ t.words_are.1) ∙ all_valued t.values t.words_are.0 in
    other (ap length values ∙ cells)
