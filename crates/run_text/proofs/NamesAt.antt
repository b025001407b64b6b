-- A name is found where it stands.
use Rattle.std.proofs.Common.{◌≡◌, ◌<◌, ◌+◌, ℕ, zero, suc, Bool, true, false, List, [], ◌∷◌, length, refl, ap, sym, subst, ◌∙◌, arith, Option, Some, None, if◌then◌else◌}
use Rattle.std.specs.List.{position, position_from}
use Rattle.std.specs.Str.{bytes_eq}
use Rattle.std.proofs.lemmas.Iterator.Adapters.{position_from-zero}
use Rattle.std.proofs.lemmas.Slice.Eq.{bytes_eq-Decides}
use Rattle.run_text.specs.Names.{AreNames}
use Rattle.run_text.specs.TraceText.{name_at}
use Rattle.run_text.proofs.LineLabels.{found, place}
use Rattle.run_text.specs.Operands.{IsNameWord}

record At (i k : ℕ) (name : List ℕ) (ns : List (List ℕ)) : Type 0 where
  place : ℕ
  is : k ≡ i + place
  there : place < length ns
  named : name_at ns place ≡ name

step_at : (i k : ℕ) (name n : List ℕ) (ns : List (List ℕ)) → At (i + 1) k name ns → At i k name (n ∷ ns)
step_at i k name n ns a = record { place = suc a.place; is = omega (arith, a.is); there = omega (arith, a.there); named = a.named }

at_from : (i k : ℕ) (name : List ℕ) (ns : List (List ℕ)) → position_from (λ n. bytes_eq n name) i ns ≡ Some k → At i k name ns
at_from i k name [] h = cc
at_from i k name (n ∷ ns) h = by (bytes_eq n name) refl (at_from (i + 1) k name ns) h where
  by : (b : Bool) → bytes_eq n name ≡ b → (position_from (λ n. bytes_eq n name) (i + 1) ns ≡ Some k → At (i + 1) k name ns)
      → (if b then Some i else position_from (λ n. bytes_eq n name) (i + 1) ns) ≡ Some k → At i k name (n ∷ ns)
  by true e rest h = record { place = 0; is = let s : i ≡ k = cc in omega (arith, s); there = omega arith; named = (bytes_eq-Decides n name).0 e }
  by false e rest h = step_at i k name n ns (rest h)

none_from : (i p : ℕ) (name : List ℕ) (ns : List (List ℕ)) → position_from (λ n. bytes_eq n name) i ns ≡ None → p < length ns → name_at ns p ≡ name → ⊥
none_from i p name [] h k same = omega (arith, k)
none_from i p name (n ∷ ns) h k same = by (bytes_eq n name) refl (λ e r. none_from (i + 1) r name ns e) h p k same where
  by : (b : Bool) → bytes_eq n name ≡ b → (position_from (λ n. bytes_eq n name) (i + 1) ns ≡ None → (r : ℕ) → r < length ns → name_at ns r ≡ name → ⊥)
      → (if b then Some i else position_from (λ n. bytes_eq n name) (i + 1) ns) ≡ None → (p : ℕ) → p < length (n ∷ ns) → name_at (n ∷ ns) p ≡ name → ⊥
  by true e rest h p k same = cc
  by false e rest h zero k same = let t = (bytes_eq-Decides n name).1 same in cc
  by false e rest h (suc p) k same = rest h p (omega (arith, k)) same

from_first : (name : List ℕ) (ns : List (List ℕ)) (o : Option ℕ) → position (λ n. bytes_eq n name) ns ≡ o → position_from (λ n. bytes_eq n name) 0 ns ≡ o
from_first name ns o h = sym (position_from-zero (λ n. bytes_eq n name) ns) ∙ h

pub name_found : (ns : List (List ℕ)) (name : List ℕ) (p : ℕ) → position (λ n. bytes_eq n name) ns ≡ Some p → IsNameWord ns name p
name_found ns name p h =
    let a = at_from 0 p name ns (from_first name ns (Some p) h) in
    let e : a.place ≡ p = omega (arith, a.is) in
    subst (IsNameWord ns name) e (a.there, sym a.named)

pub name_missing : (ns : List (List ℕ)) (name : List ℕ) (p : ℕ) → position (λ n. bytes_eq n name) ns ≡ None → IsNameWord ns name p → ⊥
name_missing ns name p h w = none_from 0 p name ns (from_first name ns None h) w.0 (sym w.1)

pub one_name : (ns : List (List ℕ)) (w : List ℕ) (p q : ℕ) → AreNames ns → IsNameWord ns w p → IsNameWord ns w q → p ≡ q
one_name ns w p q named a b = sym (found ns p named.1 a.0) ∙ ap (place ns) (sym a.1 ∙ b.1) ∙ found ns q named.1 b.0
