-- Loops over parts of a tree: the first offence where a part has one, and tables that grow.
use Rattle.std.proofs.Common.{◌≡◌, ℕ, ◌+◌, ◌<◌, ◌≤◌, sym, ◌∙◌, ap, List, [], ◌∷◌, ◌++◌, Option, length, drop, take, get_or, map}
use Rattle.std.specs.Prelude.{Result, Err, IsErrAnd, flat_map}
use Rattle.std.proofs.lemmas.List.{append_assoc, map-append, length-map, length-take-le}
use Rattle.tap_base.specs.declared.refusal.Refusal.{Refusal}
use Rattle.tap_base.specs.ListWords.{behind, by_number, joined}
use Rattle.tap_base.proofs.LoopFacts.{behind_cut, fault_passed, flat_cut, joined_cut, numbered_cut, said_next, taken_on}
use Rattle.tap_names.specs.declared.fault.TypeFault.{TypeFault}
use Rattle.tap_names.specs.Refusals.{Faults, Judges}
use Rattle.tap_names.specs.Tables.{Entry, names_in}
use Rattle.tap_names.proofs.Faults.{front_of}

-- ---- the element at hand has the first offence of all

module _ {A : Type 0} (f : A → List Refusal) (xs : List A) (i : ℕ) (x : A) (l : i < length xs) (q : x ≡ get_or xs i x) where
  pub joined_fault : (e : TypeFault) → Faults (f x) e → joined (map f (drop i xs)) ≡ joined (map f xs) → Faults (joined (map f xs)) e
  joined_fault e h k = front_of (f x) (joined (map f (drop (i + 1) xs))) (joined (map f xs)) e (joined_cut f xs i x l q k) h

  pub flat_fault : (e : TypeFault) → Faults (f x) e → flat_map f (drop i xs) ≡ flat_map f xs → Faults (flat_map f xs) e
  flat_fault e h k = front_of (f x) (flat_map f (drop (i + 1) xs)) (flat_map f xs) e (flat_cut f xs i x l q k) h

pub numbered_fault : {A : Type 0} (f : ℕ → A → List Refusal) (xs : List A) (i : ℕ) (x : A) → i < length xs → x ≡ get_or xs i x → (e : TypeFault) → Faults (f i x) e → by_number i f (drop i xs) ≡ by_number 0 f xs → Faults (by_number 0 f xs) e
numbered_fault f xs i x l q e h k = front_of (f i x) (by_number (i + 1) f (drop (i + 1) xs)) (by_number 0 f xs) e (numbered_cut f xs i x l q k) h

pub behind_fault : {A : Type 0} (f : List A → A → List Refusal) (xs : List A) (i : ℕ) (x : A) → i < length xs → x ≡ get_or xs i x → (e : TypeFault) → Faults (f (take i xs) x) e → behind f (take i xs) (drop i xs) ≡ behind f [] xs → Faults (behind f [] xs) e
behind_fault f xs i x l q e h k = front_of (f (take i xs) x) (behind f (take (i + 1) xs) (drop (i + 1) xs)) (behind f [] xs) e (behind_cut f xs i x l q k) h

-- a fault of a part is passed on
pub passed : {A : Type 0} (offences : List Refusal) (named : Option A) (r : Result A TypeFault) (e : TypeFault) → IsErrAnd r (λ d. d ≡ e) → Faults offences e → Judges offences named r
passed offences named r e h k = fault_passed (Faults offences) (Judges offences named) (λ d f. f) r e h k

-- the same of any answer that tells of a fault
pub passed_on : {A : Type 0} (P : Result A TypeFault → Type 0) (offences : List Refusal) → ((d : TypeFault) → Faults offences d → P (Err d)) → (r : Result A TypeFault) (e : TypeFault) → IsErrAnd r (λ d. d ≡ e) → Faults offences e → P r
passed_on P offences to r e h k = fault_passed (Faults offences) P to r e h k

-- ---- tables that grow with the loop

-- the names of a table that grows by one
pub listed_on : {A V : Type 0} (g : A → List ℕ) (xs : List A) (i : ℕ) (x : A) → i < length xs → x ≡ get_or xs i x → (v : V) (old new : List (Entry V)) → new ≡ old ++ (g x, v) ∷ [] → names_in old ≡ map g (take i xs) → names_in new ≡ map g (take (i + 1) xs)
listed_on {V = V} g xs i x l q v old new n h =
    taken_on g xs i x l q (names_in old) (names_in new) (ap names_in n ∙ map-append (λ (e : Entry V). e.0) old ((g x, v) ∷ [])) h

-- as many entries as the loop has passed
pub counted : {A V : Type 0} (g : A → List ℕ) (xs : List A) (i : ℕ) (es : List (Entry V)) → i ≤ length xs → names_in es ≡ map g (take i xs) → length es ≡ i
counted {V = V} g xs i es l h = sym (length-map es (λ (e : Entry V). e.0)) ∙ ap length h ∙ length-map (take i xs) g ∙ length-take-le i xs l

-- the names of a table that grows by one, behind names that were there
pub outer_on : {A V : Type 0} (g : A → List ℕ) (xs : List A) (i : ℕ) (x : A) → i < length xs → x ≡ get_or xs i x → (outer : List (List ℕ)) (v : V) (old new : List (Entry V)) → new ≡ old ++ (g x, v) ∷ [] → names_in old ≡ outer ++ map g (take i xs) → names_in new ≡ outer ++ map g (take (i + 1) xs)
outer_on {V = V} g xs i x l q outer v old new n h =
    ap names_in n ∙ map-append (λ (e : Entry V). e.0) old ((g x, v) ∷ []) ∙ ap (λ z. z ++ g x ∷ []) h ∙ append_assoc outer (map g (take i xs)) (g x ∷ [])
    ∙ ap (λ z. outer ++ z) (sym (said_next g xs i x l q))
