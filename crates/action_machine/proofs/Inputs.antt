-- A body leaves the inputs as they are.
use Rattle.std.proofs.Common.{◌≡◌, ◌+◌, ◌<◌, ◌≤◌, ◌&&◌, ℕ, zero, suc, ℤ, pos, negsuc, true, false, not, List, [], ◌∷◌, map, take, drop, ◌⊎◌, inl, inr, refl, ap, sym, subst, ◌∙◌, slice_get, slice_set, Option, Some, arith}
use Rattle.std.specs.Prelude.{nat_lt, nat_le, int_le, int_lt, unsigned_abs, ◌^◌}
use Rattle.std.proofs.lemmas.Bool.{and_parts, or_cases, ltb-true, leb-true}
use Rattle.std.proofs.lemmas.List.{take-set-le}
use Rattle.std.proofs.lemmas.Option.{cond_some, option_and_then_some}
use Rattle.tap_base.specs.declared.tree.Op.{Op}
use Rattle.tap_base.specs.declared.tree.Op.TheVariants as op
use Rattle.tap_base.specs.Interval.{from_to}
use Rattle.tap_base.specs.Option.{provided}
use Rattle.tap_base.specs.Ranges.{values_of}
use Rattle.tap_exec.specs.Execution.{takes}
use Rattle.tap_exec.specs.Filling.{filled}
use Rattle.register_code.specs.declared.bad.Part.TheVariants as part
use Rattle.register_code.specs.declared.instr.Instr.{Instr}
use Rattle.register_code.specs.declared.instr.Instr.TheVariants as instr
use Rattle.register_code.specs.Fields.{code_message}
use Rattle.register_code.specs.Instructions.{Moment, Setting, chooses, computes, does, ones, place_at, puts, run_of, selects}
use Rattle.register_code.specs.Naming.{may_write, written}
use Rattle.register_code.specs.Sites.{Site, holds_of}
use Rattle.sound_code.proofs.Named.{Names}

-- a write before or behind some elements leaves them
middle_set : (n k r : ℕ) (x : ℤ) (xs : List ℤ) → (r < n) ⊎ (k ≤ r) → drop n (take k (slice_set xs r x)) ≡ drop n (take k xs)
middle_set n zero r x xs h = refl
middle_set n (suc k) r x [] h = refl
middle_set zero (suc k) r x (y ∷ ys) (inl l) = absurd (omega (arith, l))
middle_set zero (suc k) zero x (y ∷ ys) (inr l) = absurd (omega (arith, l))
middle_set zero (suc k) (suc r) x (y ∷ ys) (inr l) = ap (λ zs. y ∷ zs) (take-set-le k ys r x (omega (arith, l)))
middle_set (suc n) (suc k) zero x (y ∷ ys) h = refl
middle_set (suc n) (suc k) (suc r) x (y ∷ ys) (inl l) = middle_set n k r x ys (inl (omega (arith, l)))
middle_set (suc n) (suc k) (suc r) x (y ∷ ys) (inr l) = middle_set n k r x ys (inr (omega (arith, l)))

-- the inputs of a process with so many cells, behind which so many registers in all are kept
abbrev pub inputs_in : ℕ → ℕ → Moment → List ℤ
inputs_in n k m = drop n (take k m.registers)

module _ (n k : ℕ) where
  -- a register that is no input
  abbrev Apart : ℕ → Type 0
  Apart r = (r < n) ⊎ (k ≤ r)

  same : (s t u : Moment) → Some u ≡ Some t → inputs_in n k u ≡ inputs_in n k s → inputs_in n k t ≡ inputs_in n k s
  same s t u e f = let is : u ≡ t = cc in ap (inputs_in n k) (sym is) ∙ f

  puts_same : (r : ℕ) (x : ℤ) (s t : Moment) → Apart r → puts r x s ≡ Some t → inputs_in n k t ≡ inputs_in n k s
  puts_same r x s t h e = same s t (record s { next = s.next + 1; registers = slice_set s.registers r x }) e (middle_set n k r x s.registers h)

  computes_same : (o : Op) (r a b : ℕ) (s t : Moment) → Apart r → computes o r a b s ≡ Some t → inputs_in n k t ≡ inputs_in n k s
  computes_same o r a b s t h e =
      option_and_then_some _ (slice_get s.registers a) t e (λ x is f. option_and_then_some _ (slice_get s.registers b) t f (λ y at g. puts_same r _ s t h g))

  chooses_same : (r : ℕ) (options : List ℤ) (s t : Moment) → Apart r → chooses r options s ≡ Some t → inputs_in n k t ≡ inputs_in n k s
  chooses_same r options s t h e =
      option_and_then_some _ (takes options s.choices) t e
      (λ choice is f. same s t (record s { next = s.next + 1; registers = slice_set s.registers r choice.0; choices = choice.1 }) f (middle_set n k r choice.0 s.registers h))

  selects_same : (r count : ℕ) (ks : List ℕ) (s t : Moment) → Apart r → selects r count ks s ≡ Some t → inputs_in n k t ≡ inputs_in n k s
  selects_same r count [] s t h e = puts_same r (pos count) s t h e
  selects_same r count (j ∷ []) s t h e = puts_same r (pos j) s t h e
  selects_same r count (j ∷ l ∷ more) s t h e = chooses_same r (map pos (j ∷ l ∷ more)) s t h e

  -- a place in a run of cells is a cell
  place_apart : (base length index j : ℕ) (s : Moment) → nat_le (base + length) n ≡ true → place_at base length index s ≡ Some j → Apart j
  place_apart base length index j s inside e =
      option_and_then_some _ (slice_get s.registers index) j e
      (λ i is f. let found = cond_some (int_le (pos 0) i && int_lt i (pos length)) (base + unsigned_abs i) j f in
      let parts = and_parts (int_le (pos 0) i) (int_lt i (pos length)) found.0 in
      inl (below i parts.0 parts.1 found.1)) where
        below : (i : ℤ) → int_le (pos 0) i ≡ true → int_lt i (pos length) ≡ true → base + unsigned_abs i ≡ j → j < n
        below (pos m) low high is = omega (arith, is, ltb-true m length high, leb-true (base + length) n inside)
        below (negsuc m) low high is = cc

  -- what an instruction writes, but for a Save
  abbrev WritesApart : Instr → Type 0
  WritesApart i = (r : ℕ) → written i ≡ Some r → Apart r

  abbrev SavesApart : Instr → Type 0
  SavesApart (instr.Save base length index a) = nat_le (base + length) n ≡ true
  SavesApart _ = Unit {0}

  kept_by : (e : Setting) (i : Instr) (s t : Moment) → WritesApart i → SavesApart i → does e i s ≡ Some t → inputs_in n k t ≡ inputs_in n k s
  kept_by e (instr.Const r imm) s t w v h = puts_same r imm s t (w r refl) h
  kept_by e (instr.Copy r a) s t w v h = option_and_then_some _ (slice_get s.registers a) t h (λ x is f. puts_same r x s t (w r refl) f)
  kept_by e (instr.Add r a b) s t w v h = computes_same op.Add r a b s t (w r refl) h
  kept_by e (instr.Sub r a b) s t w v h = computes_same op.Sub r a b s t (w r refl) h
  kept_by e (instr.Mul r a b) s t w v h = computes_same op.Mul r a b s t (w r refl) h
  kept_by e (instr.Div r a b) s t w v h = computes_same op.Div r a b s t (w r refl) h
  kept_by e (instr.Mod r a b) s t w v h = computes_same op.Mod r a b s t (w r refl) h
  kept_by e (instr.Min r a b) s t w v h = computes_same op.Min r a b s t (w r refl) h
  kept_by e (instr.Max r a b) s t w v h = computes_same op.Max r a b s t (w r refl) h
  kept_by e (instr.Eq r a b) s t w v h = computes_same op.Eq r a b s t (w r refl) h
  kept_by e (instr.Ne r a b) s t w v h = computes_same op.Ne r a b s t (w r refl) h
  kept_by e (instr.Lt r a b) s t w v h = computes_same op.Lt r a b s t (w r refl) h
  kept_by e (instr.Le r a b) s t w v h = computes_same op.Le r a b s t (w r refl) h
  kept_by e (instr.Load r base length index) s t w v h =
      option_and_then_some _ (place_at base length index s) t h (λ j is f. option_and_then_some _ (slice_get s.registers j) t f (λ x at g. puts_same r x s t (w r refl) g))
  kept_by e (instr.Save base length index a) s t w v h =
      option_and_then_some _ (place_at base length index s) t h (λ j is f. option_and_then_some _ (slice_get s.registers a) t f (λ x at g. puts_same j x s t (place_apart base length index j s v is) g))
  kept_by e (instr.Part r field) s t w v h = option_and_then_some _ (slice_get e.received field) t h (λ x is f. puts_same r x s t (w r refl) f)
  kept_by e (instr.Choose r lo hi) s t w v h = chooses_same r (values_of (from_to lo hi)) s t (w r refl) h
  kept_by e (instr.Select r first count) s t w v h = option_and_then_some _ (run_of first count s.registers) t h (λ xs is f. selects_same r count (ones 0 xs) s t (w r refl) f)
  kept_by e (instr.Jump target) s t w v h = same s t (record s { next = target }) h refl
  kept_by e (instr.JumpNe a imm target) s t w v h = option_and_then_some _ (slice_get s.registers a) t h (λ x is f. same s t _ f refl)
  kept_by e (instr.Repeat count last) s t w v h = same s t _ h refl
  kept_by e (instr.Again first) s t w v h = option_and_then_some _ (slice_get s.counters first) t h (λ left is f. same s t _ f refl)
  kept_by e (instr.Send message first count to) s t w v h =
      option_and_then_some _ (slice_get e.messages message) t h
      (λ m is f. option_and_then_some _ (run_of first count s.registers) t f
      (λ free at g. option_and_then_some _ (filled (code_message m) free) t g (λ values all j. same s t _ j refl)))
  kept_by e (instr.Start timer a) s t w v h =
      option_and_then_some _ (slice_get s.registers a) t h
      (λ x is f. option_and_then_some _ (provided (int_le (pos 0) x && int_lt x (pos (2 ^ 32))) (unsigned_abs x)) t f (λ delay at g. same s t _ g refl))
  kept_by e (instr.Stop timer) s t w v h = same s t _ h refl

-- ---- in a body

writes_apart : (s : Site) (r : ℕ) → s.part ≡ part.Body → may_write s r ≡ true → (r < s.cells) ⊎ (s.cells + s.inputs ≤ r)
writes_apart s r body e = by_test (or_cases (nat_le (s.cells + s.inputs) r) (not false && nat_lt r s.cells) (rw body at e)) where
  by_test : (nat_le (s.cells + s.inputs) r ≡ true) ⊎ ((not false && nat_lt r s.cells) ≡ true) → (r < s.cells) ⊎ (s.cells + s.inputs ≤ r)
  by_test (inl f) = inr (leb-true (s.cells + s.inputs) r f)
  by_test (inr f) = inl (ltb-true r s.cells f)

saves_apart : (s : Site) (i : Instr) → Names s i → SavesApart s.cells (s.cells + s.inputs) i
saves_apart s (instr.Save base length index a) names = names.others
saves_apart s _ names = tt

pub inputs_stay : (s : Site) (e : Setting) (i : Instr) (m t : Moment) → s.part ≡ part.Body → Names s i → does e i m ≡ Some t → inputs_in s.cells (s.cells + s.inputs) t ≡ inputs_in s.cells (s.cells + s.inputs) m
inputs_stay s e i m t body names done =
    kept_by s.cells (s.cells + s.inputs) e i m t (λ r w. let kept = names.written in writes_apart s r body (subst (λ (o : Option ℕ). holds_of o (may_write s) ≡ true) w kept)) (saves_apart s i names) done
