-- Processes with what they declare, one after the other.
use Rattle.std.proofs.Common.{◌≡◌, ℕ, zero, suc, ◌+◌, ◌<◌, subst, List, [], ◌∷◌, ◌++◌, length, drop, get_or, arith}
use Rattle.tap_base.specs.declared.ast.AstProcess.{AstProcess}
use Rattle.tap_names.specs.declared.declared.Declared.{Declared}
use Rattle.tap_names.specs.Processes.{AllDeclared, IsDeclared}
use Rattle.tap_base.proofs.ListFacts.{cut_at_item}

some_left : (p : AstProcess) (ps : List AstProcess) (ds : List Declared) → AllDeclared (p ∷ ps) ds → 0 < length ds
some_left p ps [] h = absurd h
some_left p ps (d ∷ ds) h = omega arith

pub some_rest : (ps : List AstProcess) (i : ℕ) → i < length ps → (rest : List Declared) → AllDeclared (drop i ps) rest → 0 < length rest
some_rest [] i l rest h = absurd (omega arith)
some_rest (p ∷ ps) zero l rest h = some_left p ps rest h
some_rest (p ∷ ps) (suc i) l rest h = some_rest ps i (omega arith) rest h

module _ (ps : List AstProcess) (i : ℕ) (x : AstProcess) (l : i < length ps) (q : x ≡ get_or ps i x) (rest : List Declared) (h : AllDeclared (drop i ps) rest) where
  abbrev now : AllDeclared (x ∷ drop (i + 1) ps) rest
  now = let A : List AstProcess → Type 0 = λ z. AllDeclared z rest in subst A (cut_at_item ps i x l q) h

  pub all_next : (d : Declared) (new : List Declared) → rest ≡ d ∷ new → IsDeclared x d × AllDeclared (drop (i + 1) ps) new
  all_next d new e = let A : List Declared → Type 0 = λ z. AllDeclared (x ∷ drop (i + 1) ps) z in subst A e now

pub all_more : (ps : List AstProcess) (ds : List Declared) (p : AstProcess) (d : Declared) → AllDeclared ps ds → IsDeclared p d → AllDeclared (ps ++ p ∷ []) (ds ++ d ∷ [])
all_more [] [] p d h k = (k, tt)
all_more [] (e ∷ es) p d h k = absurd h
all_more (q ∷ qs) [] p d h k = absurd h
all_more (q ∷ qs) (e ∷ es) p d h k = (h.0, all_more qs es p d h.1 k)
