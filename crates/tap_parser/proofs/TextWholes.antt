-- All the tokens of a text.
use Rattle.std.proofs.Common.{◌≡◌, ℕ, ◌+◌, ◌-◌, ◌<◌, ◌≤◌, min, refl, sym, subst, List, [], ◌++◌, Option, Some, None, true, Result, Ok, Err, IsErrAnd, take, drop, length, ltb-true, lt-ltb, arith}
use Rattle.std.proofs.Math.Nat.{min-le_right}
use Rattle.std.proofs.lemmas.List.{drop_all, length-map, length-drop}
use Rattle.tap_base.specs.declared.ast.Ast.{Ast}
use Rattle.tap_base.specs.declared.token.Sign.TheVariants as sign
use Rattle.tap_base.specs.declared.token.Token.{Token}
use Rattle.tap_lexer.specs.Lexeme.{Lexeme, lexeme, lexemes}
use Rattle.tap_lexer.specs.Rows.{Row}
use Rattle.tap_lexer.specs.declared.found.Found.{Found}
use Rattle.tap_lexer.specs.inner.Reading.{Lacks}
use Rattle.tap_expr.specs.declared.found.Stuck.{Stuck}
use Rattle.tap_expr.specs.declared.found.Stuck.TheVariants as stuck
use Rattle.tap_expr.specs.inner.ExprReading.{Alike}
use Rattle.tap_expr.proofs.ExprAlike.{longer_as}
use Rattle.tap_expr.proofs.ExprStopped.{before_end}
use Rattle.tap_expr.proofs.ExprWholes.{front_alike}
use Rattle.tap_parser.specs.Systems.{IsProcess, SpellsOver, system, Sized, SpellsText, SpellsTo, IsUntold}
use Rattle.tap_parser.specs.declared.kept.Kept.{Kept}
use Rattle.tap_parser.specs.declared.kept.Kept.TheVariants.{Whole, Large}
use Rattle.tap_parser.specs.inner.Forms.{AreSystem, system as read_system}
use Rattle.tap_parser.specs.inner.Reading.{Verdict, asks, Agrees, Answers}
use Rattle.tap_parser.specs.inner.Texts.{SystemAnswers}
use Rattle.tap_parser.proofs.TextProcesses.{Systems}
use Rattle.tap_parser.proofs.TextWeaker.{unasked, asked_none}

Ends : List Lexeme → Type 0
Ends = Lacks sign.Process

to_system : (n : Option ℕ) (ts us : List Lexeme) (tree : Ast) → us ≡ [] → AreSystem (Sized n) tree ts us → SpellsOver (Sized n) ts tree
to_system n ts us tree e (read_system {messages} {processes} {us = ks} m p) = let G : List Lexeme → Type 0 = λ k. Row (IsProcess (Sized n)) processes ks k in system m (subst G e p)

of_system : (n : Option ℕ) (ts : List Lexeme) (tree : Ast) → SpellsOver (Sized n) ts tree → AreSystem (Sized n) tree ts []
of_system n ts tree (system m p) = read_system m p

untold : (xs : List Lexeme) (k : ℕ) → ((ys : List Lexeme) → Alike (k + 1) xs ys → (tree : Ast) → SpellsText ys tree → ⊥) → IsUntold xs (min k (length xs))
untold xs k h = record {
  within = min-le_right k (length xs);
  none = λ tree r. h xs refl tree r;
  front = λ l us tree r.
      let q = before_end k (length xs) l in
      let G : ℕ → Type 0 = λ m. SpellsText (take (m + 1) xs ++ us) tree in
      h (take (k + 1) xs ++ us) (front_alike xs us k (omega (arith, l, q))) tree (subst G q r);
}

pub whole_refused : (xs : List Lexeme) (r : Result (Kept Ast) Stuck) (s : Stuck) → IsErrAnd r (λ e. e ≡ s) → Answers Systems (Lacks sign.Process) xs 0 (Err s) → SystemAnswers xs r
whole_refused xs (Ok e) s p h = absurd p
whole_refused xs (Err (stuck.At k)) (stuck.At i) p h = let q : i ≡ k = cc in let G : ℕ → Type 0 = λ z. IsUntold xs (min z (length xs)) in subst G q (untold xs i (λ ys same tree r. h.1 ys same None tree [] (of_system None ys tree (asked_none ys tree r)) tt))
whole_refused xs (Err (stuck.At k)) stuck.NoMemory p h = absurd cc
whole_refused xs (Err stuck.NoMemory) s p h = tt

-- of what is asked nothing, there is a tree
asked_nothing : (xs : List Lexeme) (k : Kept Ast) (o : Option Ast) → Agrees None xs k o → Verdict (Systems None) (Lacks sign.Process) (drop 0 xs) [] o → (tree : Ast) × Verdict (Systems None) (Lacks sign.Process) (drop 0 xs) [] (Some tree) × (o ≡ Some tree)
asked_nothing xs k (Some tree) a v = (tree, v, refl)
asked_nothing xs (Whole t) None a v = absurd cc
asked_nothing xs (Large j) None a v = absurd cc

longer_tree : (n : Option ℕ) (ys : List Lexeme) (m : ℕ) (o : Option Ast) (tree : Ast) → (drop m ys ≡ [] → ⊥) → Verdict (Systems n) (Lacks sign.Process) (drop 0 ys) (drop m ys) o → AreSystem (Sized n) tree ys [] → ⊥
longer_tree n ys m (Some t) tree far v r = far (sym (v.only tree [] r tt).1)
longer_tree n ys m None tree far v r = v tree [] r tt

pub whole_longer : (text : List ℕ) (ts : List Token) (f : Found (Kept Ast)) → Answers Systems (Lacks sign.Process) (lexemes text ts) 0 (Ok f) → f.next < length ts → IsUntold (lexemes text ts) (min f.next (length (lexemes text ts)))
whole_longer text ts f h l = untold (lexemes text ts) f.next (λ ys same tree r.
    let v = h.2 ys same None in
    longer_tree None ys f.next v.0 tree (longer_as (lexemes text ts) ys (f.next + 1) same f.next (omega arith) (rw (length-map ts (lexeme text)) l)) v.1 (of_system None ys tree (asked_none ys tree r)))

module _ (xs : List Lexeme) (m : ℕ) (over : drop m xs ≡ []) where
  -- the tree where what is asked holds
  found_tree : (n : Option ℕ) (tree : Ast) → Verdict (Systems n) (Lacks sign.Process) (drop 0 xs) (drop m xs) (Some tree) → SpellsOver (Sized n) xs tree
  found_tree n tree v = to_system n xs (drop m xs) tree over v.spelled

  whole_tree : (n : Option ℕ) (tree : Ast) (o : Option Ast) → Agrees n xs (Whole tree) o → Verdict (Systems n) (Lacks sign.Process) (drop 0 xs) (drop m xs) o → SpellsOver (Sized n) xs tree
  whole_tree n tree (Some t) a v = let e : t ≡ tree = cc in let G : Ast → Type 0 = λ k. SpellsOver (Sized n) xs k in subst G e (found_tree n t v)
  whole_tree n tree None a v = absurd cc

  -- nothing is asked of what begins at the token k, where less than the tokens from it on are let off
  not_asked : (k : ℕ) → asks (Some (length (drop k xs))) xs k ≡ true → ⊥
  not_asked k e = let p = ltb-true (length (drop k xs)) (length (drop k xs)) e in omega arith

  is_asked : (k : ℕ) → k < length xs → asks (Some (length (drop (k + 1) xs))) xs k ≡ true
  is_asked k h =
      let p : length (drop k xs) ≡ length xs - k = length-drop k xs in
      let q : length (drop (k + 1) xs) ≡ length xs - (k + 1) = length-drop (k + 1) xs in
      lt-ltb (length (drop (k + 1) xs)) (length (drop k xs)) (omega arith)

  let_off : (k : ℕ) (o : Option Ast) → Agrees (Some (length (drop k xs))) xs (Large k) o → Verdict (Systems (Some (length (drop k xs)))) (Lacks sign.Process) (drop 0 xs) (drop m xs) o → (tree : Ast) × SpellsTo k xs tree
  let_off k (Some t) a v = (t, found_tree (Some (length (drop k xs))) t v)
  let_off k None a v = absurd (not_asked k a)

  held : (k : ℕ) (o : Option Ast) → k < length xs → Agrees (Some (length (drop (k + 1) xs))) xs (Large k) o → Verdict (Systems (Some (length (drop (k + 1) xs)))) (Lacks sign.Process) (drop 0 xs) (drop m xs) o → (tree : Ast) → SpellsTo (k + 1) xs tree → ⊥
  held k (Some t) l a v tree r = let i = is_asked k l in absurd cc
  held k None l a v tree r = v tree [] (of_system (Some (length (drop (k + 1) xs))) xs tree r) tt

  pub ends_whole : (k : Kept Ast) → Answers Systems (Lacks sign.Process) xs 0 (Ok (record { value = k; next = m })) → SystemAnswers xs (Ok k)
  ends_whole (Whole tree) h =
      let v = h.2 xs refl None in
      let n : Option ℕ = Some (length (drop (length xs) xs)) in
      let w = h.2 xs refl n in
      (unasked None xs tree (whole_tree None tree v.0 v.2 v.1), whole_tree n tree w.0 w.2 w.1)
  ends_whole (Large k) h =
      let n : Option ℕ = Some (length (drop k xs)) in
      let w = h.2 xs refl n in
      let i : Option ℕ = Some (length (drop (k + 1) xs)) in
      let u = h.2 xs refl i in
      let t = let_off k w.0 w.2 w.1 in
      record { tree = t.0; spelled = unasked n xs t.0 t.1; before = t.1; there = held k u.0 h.1.2 u.2 u.1 }

pub whole_found : (text : List ℕ) (ts : List Token) (f : Found (Kept Ast)) → Answers Systems (Lacks sign.Process) (lexemes text ts) 0 (Ok f) → length ts ≤ f.next → SystemAnswers (lexemes text ts) (Ok f.value)
whole_found text ts f h l = ends_whole (lexemes text ts) f.next (drop_all f.next (lexemes text ts) (rw (length-map ts (lexeme text)) l)) f.value h
