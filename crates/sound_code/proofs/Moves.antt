-- Where an instruction goes, and what it does to the counters of loops.
use Rattle.std.proofs.Common.{◌≡◌, ◌+◌, ◌-◌, ℕ, ℤ, Bool, true, false, if◌then◌else◌, List, [], ◌∷◌, map, ◌⊎◌, inl, inr, refl, ap, sym, ◌∙◌, slice_get, slice_set, Some}
use Rattle.std.specs.Prelude.{nat_lt, int_le, int_lt, pos, ◌^◌, ◌&&◌, unsigned_abs}
use Rattle.tap_base.specs.Option.{provided}
use Rattle.std.specs.Ordering.{int_eq}
use Rattle.std.proofs.lemmas.Option.{option_and_then_some}
use Rattle.tap_base.specs.declared.tree.Op.{Op}
use Rattle.tap_base.specs.declared.tree.Op.TheVariants as op
use Rattle.tap_base.specs.Interval.{from_to}
use Rattle.tap_exec.specs.declared.running.TimerState.{TimerState}
use Rattle.tap_exec.specs.Execution.{takes}
use Rattle.tap_base.specs.Ranges.{values_of}
use Rattle.tap_exec.specs.Filling.{filled}
use Rattle.register_code.specs.Fields.{code_message}
use Rattle.register_code.specs.declared.instr.Instr.{Instr}
use Rattle.register_code.specs.declared.instr.Instr.TheVariants as instr
use Rattle.register_code.specs.Instructions.{Setting, Moment, puts, computes, place_at, run_of, chooses, ones, selects, sets, does}

-- the following instruction is next, and no counter has changed
pub record IsStraight (s t : Moment) : Type 0 where
  pub next : t.next ≡ s.next + 1
  pub counters : t.counters ≡ s.counters

by_some : {s t u : Moment} → Some u ≡ Some t → IsStraight s u → IsStraight s t
by_some {s} {t} {u} e h = let same : u ≡ t = cc in record { next = sym (ap (λ (m : Moment). m.next) same) ∙ h.next; counters = sym (ap (λ (m : Moment). m.counters) same) ∙ h.counters }

puts_on : (r : ℕ) (x : ℤ) (s t : Moment) → puts r x s ≡ Some t → IsStraight s t
puts_on r x s t e = by_some e (record { next = refl; counters = refl })

sets_on : (k : ℕ) (x : TimerState) (s t : Moment) → sets k x s ≡ Some t → IsStraight s t
sets_on k x s t e = by_some e (record { next = refl; counters = refl })

computes_on : (o : Op) (r a b : ℕ) (s t : Moment) → computes o r a b s ≡ Some t → IsStraight s t
computes_on o r a b s t e =
    option_and_then_some _ (slice_get s.registers a) t e
    (λ x is f. option_and_then_some _ (slice_get s.registers b) t f (λ y at g. puts_on _ _ s t g))

chooses_on : (r : ℕ) (options : List ℤ) (s t : Moment) → chooses r options s ≡ Some t → IsStraight s t
chooses_on r options s t e =
    option_and_then_some _ (takes options s.choices) t e (λ choice is f. by_some f (record { next = refl; counters = refl }))

selects_on : (r count : ℕ) (ks : List ℕ) (s t : Moment) → selects r count ks s ≡ Some t → IsStraight s t
selects_on r count [] s t e = puts_on _ _ s t e
selects_on r count (k ∷ []) s t e = puts_on _ _ s t e
selects_on r count (k ∷ l ∷ more) s t e = chooses_on r (map pos (k ∷ l ∷ more)) s t e

-- where an instruction goes from s, and what it leaves of the counters
abbrev pub Goes : Instr → Moment → Moment → Type 0
Goes (instr.Jump target) s t = (t.next ≡ target) × (t.counters ≡ s.counters)
Goes (instr.JumpNe a imm target) s t = ((t.next ≡ target) ⊎ (t.next ≡ s.next + 1)) × (t.counters ≡ s.counters)
Goes (instr.Repeat count last) s t = (t.next ≡ s.next + 1) × (t.counters ≡ slice_set s.counters s.next count)
Goes (instr.Again first) s t =
    (left : ℕ) × (slice_get s.counters first ≡ Some left) × (t.next ≡ (if nat_lt 0 (left - 1) then first + 1 else s.next + 1)) × (t.counters ≡ slice_set s.counters first (left - 1))
Goes _ s t = IsStraight s t

pub goes : (e : Setting) (i : Instr) (s t : Moment) → does e i s ≡ Some t → Goes i s t
goes e (instr.Const r imm) s t h = puts_on _ _ s t h
goes e (instr.Copy r a) s t h = option_and_then_some _ (slice_get s.registers a) t h (λ x is f. puts_on _ _ s t f)
goes e (instr.Add r a b) s t h = computes_on op.Add r a b s t h
goes e (instr.Sub r a b) s t h = computes_on op.Sub r a b s t h
goes e (instr.Mul r a b) s t h = computes_on op.Mul r a b s t h
goes e (instr.Div r a b) s t h = computes_on op.Div r a b s t h
goes e (instr.Mod r a b) s t h = computes_on op.Mod r a b s t h
goes e (instr.Min r a b) s t h = computes_on op.Min r a b s t h
goes e (instr.Max r a b) s t h = computes_on op.Max r a b s t h
goes e (instr.Eq r a b) s t h = computes_on op.Eq r a b s t h
goes e (instr.Ne r a b) s t h = computes_on op.Ne r a b s t h
goes e (instr.Lt r a b) s t h = computes_on op.Lt r a b s t h
goes e (instr.Le r a b) s t h = computes_on op.Le r a b s t h
goes e (instr.Load r base length index) s t h =
    option_and_then_some _ (place_at base length index s) t h (λ k is f. option_and_then_some _ (slice_get s.registers k) t f (λ x at g. puts_on _ _ s t g))
goes e (instr.Save base length index a) s t h =
    option_and_then_some _ (place_at base length index s) t h (λ k is f. option_and_then_some _ (slice_get s.registers a) t f (λ x at g. puts_on _ _ s t g))
goes e (instr.Part r field) s t h = option_and_then_some _ (slice_get e.received field) t h (λ x is f. puts_on _ _ s t f)
goes e (instr.Choose r lo hi) s t h = chooses_on r (values_of (from_to lo hi)) s t h
goes e (instr.Select r first count) s t h = option_and_then_some _ (run_of first count s.registers) t h (λ xs is f. selects_on r count (ones 0 xs) s t f)
goes e (instr.Jump target) s t h =
    let same : record s { next = target } ≡ t = cc in (sym (ap (λ (m : Moment). m.next) same), sym (ap (λ (m : Moment). m.counters) same))
goes e (instr.JumpNe a imm target) s t h =
    option_and_then_some _ (slice_get s.registers a) t h
    (λ x is f. let same : record s { next = if int_eq x imm then s.next + 1 else target } ≡ t = cc in
    let to = ap (λ (m : Moment). m.next) same in
    (either (int_eq x imm) (s.next + 1) target t.next to, sym (ap (λ (m : Moment). m.counters) same))) where
      either : (b : Bool) (x y z : ℕ) → (if b then x else y) ≡ z → (z ≡ y) ⊎ (z ≡ x)
      either true x y z f = inr (sym f)
      either false x y z f = inl (sym f)
goes e (instr.Repeat count last) s t h =
    let same : record s { next = s.next + 1; counters = slice_set s.counters s.next count } ≡ t = cc in
    (sym (ap (λ (m : Moment). m.next) same), sym (ap (λ (m : Moment). m.counters) same))
goes e (instr.Again first) s t h =
    option_and_then_some _ (slice_get s.counters first) t h
    (λ left is f. let same : record s { next = if nat_lt 0 (left - 1) then first + 1 else s.next + 1; counters = slice_set s.counters first (left - 1) } ≡ t = cc in
    (left, is, sym (ap (λ (m : Moment). m.next) same), sym (ap (λ (m : Moment). m.counters) same)))
goes e (instr.Send message first count to) s t h =
    option_and_then_some _ (slice_get e.messages message) t h
    (λ m is f. option_and_then_some _ (run_of first count s.registers) t f
    (λ free at g. option_and_then_some _ (filled (code_message m) free) t g
    (λ values all k. by_some k (record { next = refl; counters = refl }))))
goes e (instr.Start timer a) s t h =
    option_and_then_some _ (slice_get s.registers a) t h
    (λ x is f. option_and_then_some _ (provided (int_le (pos 0) x && int_lt x (pos (2 ^ 32))) (unsigned_abs x)) t f (λ delay at g. sets_on _ _ s t g))
goes e (instr.Stop timer) s t h = sets_on _ _ s t h
