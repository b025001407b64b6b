-- Expressions that are read from fitting tokens have numbers of 64 bits.
use Rattle.std.proofs.Common.{◌≡◌, ◌≤◌, ℕ, ℤ, List, [], ◌∷◌, ◌++◌, Bool, sym, subst, length, arith, rules, true, false}
use Rattle.tap_base.specs.declared.place.Place.{Place}
use Rattle.tap_base.specs.declared.ast.AstExpr.{AstExpr}
use Rattle.tap_base.specs.declared.ast.AstKind.{the_lemmas}
use Rattle.tap_base.specs.declared.ast.AstKind.TheVariants as kind
use Rattle.tap_base.specs.declared.join.Join.{Join}
use Rattle.tap_base.specs.declared.token.Sign.{Sign}
use Rattle.tap_base.specs.declared.tree.Op.{Op}
use Rattle.tap_base.specs.Lists.{Each}
use Rattle.tap_base.proofs.ListFacts.{each_append}
use Rattle.tap_lexer.specs.Leaves.{node}
use Rattle.tap_lexer.specs.Lexeme.{Lexeme}
use Rattle.tap_lexer.specs.Rows.{Separated, SomeSeparated, last, more as more_items, none, some}
use Rattle.tap_expr.specs.Grammar.{Level, Reads, Goes, expression, chain, plain, denied, single, related, positive, negative, leaf, element, chosen, group, done, more, number, truth, untruth, name, part}
use Rattle.tap_types.specs.Given.{IsFit, NumbersFit}
use Rattle.tap_types.specs.Pieces.{numbers}
use Rattle.tap_front.proofs.given.FitTokens.{Fit}

-- ---- numbers, one level down

module _ (p : Place) where
  numbers_number : (n : ℤ) → numbers (node (kind.Number n) p) ≡ (n ∷ [])
  numbers_number n = search (rules, the_lemmas)

  numbers_truth : (b : Bool) → numbers (node (kind.Truth b) p) ≡ []
  numbers_truth b = search (rules, the_lemmas)

  numbers_name : (x : List ℕ) → numbers (node (kind.Name x) p) ≡ []
  numbers_name x = search (rules, the_lemmas)

  numbers_index : (x : List ℕ) (e : AstExpr) → numbers (node (kind.Index x e) p) ≡ numbers e
  numbers_index x e = search (rules, the_lemmas)

  numbers_part : (m f : List ℕ) → numbers (node (kind.Part m f) p) ≡ []
  numbers_part m f = search (rules, the_lemmas)

  numbers_not : (e : AstExpr) → numbers (node (kind.Not e) p) ≡ numbers e
  numbers_not e = search (rules, the_lemmas)

  numbers_neg : (e : AstExpr) → numbers (node (kind.Neg e) p) ≡ numbers e
  numbers_neg e = search (rules, the_lemmas)

  numbers_binary : (o : Op) (a b : AstExpr) → numbers (node (kind.Binary o a b) p) ≡ (numbers a ++ numbers b)
  numbers_binary o a b = search (rules, the_lemmas)

  binary_fit : (o : Op) (a b : AstExpr) → NumbersFit a → NumbersFit b → NumbersFit (node (kind.Binary o a b) p)
  binary_fit o a b f g = subst (Each IsFit) (sym (numbers_binary o a b)) (each_append IsFit (numbers a) (numbers b) f g)

-- ---- expressions

mutual
  reads_fit : {l : Level} {e : AstExpr} {ts us : List Lexeme} → Reads l e ts us → Fit ts → NumbersFit e × Fit us
  reads_fit (chain r g) h = let a = reads_fit r h in goes_fit g a.0 a.1
  reads_fit (plain r) h = reads_fit r h
  reads_fit (denied {e} {x} i r) h = let a = reads_fit r h.1 in (subst (Each IsFit) (sym (numbers_not x.place e)) a.0, a.1)
  reads_fit (single r) h = reads_fit r h
  reads_fit (related {a} {b} {x} {o} r i q) h = let l = reads_fit r h in let m = reads_fit q l.1.1 in (binary_fit x.place o a b l.0 m.0, m.1)
  reads_fit (positive r) h = reads_fit r h
  reads_fit (negative {e} {x} i r) h = let a = reads_fit r h.1 in (subst (Each IsFit) (sym (numbers_neg x.place e)) a.0, a.1)
  reads_fit (leaf (number {x} i)) h = (subst (Each IsFit) (sym (numbers_number x.place x.value)) (h.0.0, tt), h.1)
  reads_fit (leaf (truth {x} i)) h = (subst (Each IsFit) (sym (numbers_truth x.place true)) tt, h.1)
  reads_fit (leaf (untruth {x} i)) h = (subst (Each IsFit) (sym (numbers_truth x.place false)) tt, h.1)
  reads_fit (leaf (name {x} i)) h = (subst (Each IsFit) (sym (numbers_name x.place x.text)) tt, h.1)
  reads_fit (leaf (part {x} {y} {z} i o c)) h = (subst (Each IsFit) (sym (numbers_part x.place x.text z.text)) tt, h.1.1.1)
  reads_fit (element {x} {y} {z} {e} i o r c) h = let a = reads_fit r h.1.1 in (subst (Each IsFit) (sym (numbers_index x.place x.text e)) a.0, a.1.1)
  reads_fit (chosen {x} {y} {z} {w} {o} {a} {b} i p r c q d) h = let l = reads_fit r h.1.1 in let m = reads_fit q l.1.1 in (binary_fit x.place o a b l.0 m.0, m.1.1)
  reads_fit (group i r c) h = let a = reads_fit r h.1 in (a.0, a.1.1)

  goes_fit : {j : Join} {a e : AstExpr} {us ws : List Lexeme} → Goes j a e us ws → NumbersFit a → Fit us → NumbersFit e × Fit ws
  goes_fit done n h = (n, h)
  goes_fit (more {j} {x} {o} {a} {b} {e} i r g) n h = let m = reads_fit r h.1 in goes_fit g (binary_fit x.place o a b n m.0) m.1

-- from fitting tokens a rule reads what has the fact, and leaves fitting tokens
abbrev pub Gives : {A : Type 0} → (A → List Lexeme → List Lexeme → Type 0) → (A → Type 0) → Type 0
Gives {A} Item Q = (a : A) (ts us : List Lexeme) → Item a ts us → Fit ts → Q a × Fit us

pub exprs_fit : Gives (Reads expression) NumbersFit
exprs_fit e ts us r h = reads_fit r h

-- ---- rows

module _ {A : Type 0} (Item : A → List Lexeme → List Lexeme → Type 0) (Q : A → Type 0) (f : Gives Item Q) (s : Sign) where
  separated : {as_ : List A} {ts us : List Lexeme} → Separated Item s as_ ts us → Fit ts → Each Q as_ × Fit us
  separated (last {a} {ts} {us} i) h = let r = f a ts us i h in ((r.0, tt), r.1)
  separated (more_items {a} {as_} {x} {ts} {us} {ws} i e q) h = let r = f a ts (x ∷ us) i h in let t = separated q r.1.1 in ((r.0, t.0), t.1)

  pub separated_fit : Gives (Separated Item s) (Each Q)
  separated_fit as_ ts us r h = separated r h

  pub some_separated_fit : Gives (SomeSeparated Item s) (Each Q)
  some_separated_fit as_ ts us none h = (tt, h)
  some_separated_fit as_ ts us (some {as_ = bs} {ts = vs} {us = ws} r) h = separated r h

-- there is at least one
pub separated_some : {A : Type 0} {Item : A → List Lexeme → List Lexeme → Type 0} {s : Sign} {as_ : List A} {ts us : List Lexeme} → Separated Item s as_ ts us → 1 ≤ length as_
separated_some (last i) = omega arith
separated_some (more_items i e q) = omega arith
