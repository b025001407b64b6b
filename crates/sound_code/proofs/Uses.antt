-- How many sends and choices an instruction adds and takes.
use Rattle.std.proofs.Common.{◌≡◌, ◌+◌, ◌-◌, ◌≤◌, ◌^◌, ◌&&◌, ℕ, ℤ, pos, if◌then◌else◌, List, [], ◌∷◌, map, ◌++◌, length, refl, ap, sym, ◌∙◌, slice_get, slice_set, Some, arith}
use Rattle.std.specs.Prelude.{nat_lt, int_le, int_lt, unsigned_abs}
use Rattle.std.specs.List.{list_any}
use Rattle.std.specs.Ordering.{int_eq}
use Rattle.std.proofs.lemmas.List.{length-append}
use Rattle.std.proofs.lemmas.Option.{cond_some, option_and_then_some}
use Rattle.tap_base.specs.declared.tree.Op.{Op}
use Rattle.tap_base.specs.declared.tree.Op.TheVariants as op
use Rattle.tap_base.specs.Interval.{from_to}
use Rattle.tap_exec.specs.declared.running.Outgoing.{Outgoing}
use Rattle.tap_exec.specs.declared.running.TimerState.{TimerState}
use Rattle.tap_exec.specs.Execution.{takes}
use Rattle.tap_base.specs.Ranges.{values_of}
use Rattle.tap_exec.specs.Filling.{filled}
use Rattle.register_code.specs.Fields.{code_message}
use Rattle.tap_base.specs.Option.{provided}
use Rattle.register_code.specs.declared.instr.Instr.{Instr}
use Rattle.register_code.specs.declared.instr.Instr.TheVariants as instr
use Rattle.register_code.specs.Instructions.{Setting, Moment, puts, computes, place_at, run_of, chooses, ones, selects, sets, does}
use Rattle.register_code.specs.Loops.{one_choice, one_send}

pub record Uses (i : Instr) (s t : Moment) : Type 0 where
  pub sends : length t.sends ≤ length s.sends + one_send i
  pub choices : length s.choices ≤ length t.choices + one_choice i

-- an instruction that sends nothing and takes no choice
uses_none : (i : Instr) (s t u : Moment) → Some u ≡ Some t → u.sends ≡ s.sends → u.choices ≡ s.choices → Uses i s t
uses_none i s t u e f g =
    let same : u ≡ t = cc in
    let sends : t.sends ≡ s.sends = sym (ap (λ (m : Moment). m.sends) same) ∙ f in
    let choices : t.choices ≡ s.choices = sym (ap (λ (m : Moment). m.choices) same) ∙ g in
    record { sends = omega (arith, ap length sends); choices = omega (arith, ap length choices) }

puts_use : (i : Instr) (r : ℕ) (x : ℤ) (s t : Moment) → puts r x s ≡ Some t → Uses i s t
puts_use i r x s t e = uses_none i s t (record s { next = s.next + 1; registers = slice_set s.registers r x }) e refl refl

sets_use : (i : Instr) (k : ℕ) (x : TimerState) (s t : Moment) → sets k x s ≡ Some t → Uses i s t
sets_use i k x s t e = uses_none i s t (record s { next = s.next + 1; timers = slice_set s.timers k x }) e refl refl

computes_use : (i : Instr) (o : Op) (r a b : ℕ) (s t : Moment) → computes o r a b s ≡ Some t → Uses i s t
computes_use i o r a b s t e =
    option_and_then_some _ (slice_get s.registers a) t e
    (λ x is f. option_and_then_some _ (slice_get s.registers b) t f (λ y at g. puts_use i r _ s t g))

one_taken : (options choices : List ℤ) (choice : ℤ × List ℤ) → takes options choices ≡ Some choice → length choices ≡ length choice.1 + 1
one_taken options [] choice e = cc
one_taken options (y ∷ ys) choice e = let same = (cond_some (list_any (int_eq y) options) (y, ys) choice e).1 in let rest : ys ≡ choice.1 = ap (λ (z : ℤ × List ℤ). z.1) same in omega (arith, ap length rest)

chooses_use : (i : Instr) (r : ℕ) (options : List ℤ) (s t : Moment) → one_choice i ≡ 1 → chooses r options s ≡ Some t → Uses i s t
chooses_use i r options s t one e =
    option_and_then_some _ (takes options s.choices) t e
    (λ choice is f. let same : record s { next = s.next + 1; registers = slice_set s.registers r choice.0; choices = choice.1 } ≡ t = cc in
    let sends : s.sends ≡ t.sends = ap (λ (m : Moment). m.sends) same in
    let choices : choice.1 ≡ t.choices = ap (λ (m : Moment). m.choices) same in
    record { sends = omega (arith, ap length sends); choices = omega (arith, one_taken options s.choices choice is, ap length choices, one) })

selects_use : (i : Instr) (r count : ℕ) (ks : List ℕ) (s t : Moment) → one_choice i ≡ 1 → selects r count ks s ≡ Some t → Uses i s t
selects_use i r count [] s t one e = puts_use i r _ s t e
selects_use i r count (k ∷ []) s t one e = puts_use i r _ s t e
selects_use i r count (k ∷ l ∷ more) s t one e = chooses_use i r (map pos (k ∷ l ∷ more)) s t one e

abbrev the_send : ℕ → ℕ → List ℤ → Outgoing
the_send to message values = record { to = to; message = message; values = values }

pub uses : (e : Setting) (i : Instr) (s t : Moment) → does e i s ≡ Some t → Uses i s t
uses e (instr.Const r imm) s t h = puts_use _ r imm s t h
uses e (instr.Copy r a) s t h = option_and_then_some _ (slice_get s.registers a) t h (λ x is f. puts_use _ r x s t f)
uses e (instr.Add r a b) s t h = computes_use _ op.Add r a b s t h
uses e (instr.Sub r a b) s t h = computes_use _ op.Sub r a b s t h
uses e (instr.Mul r a b) s t h = computes_use _ op.Mul r a b s t h
uses e (instr.Div r a b) s t h = computes_use _ op.Div r a b s t h
uses e (instr.Mod r a b) s t h = computes_use _ op.Mod r a b s t h
uses e (instr.Min r a b) s t h = computes_use _ op.Min r a b s t h
uses e (instr.Max r a b) s t h = computes_use _ op.Max r a b s t h
uses e (instr.Eq r a b) s t h = computes_use _ op.Eq r a b s t h
uses e (instr.Ne r a b) s t h = computes_use _ op.Ne r a b s t h
uses e (instr.Lt r a b) s t h = computes_use _ op.Lt r a b s t h
uses e (instr.Le r a b) s t h = computes_use _ op.Le r a b s t h
uses e (instr.Load r base length index) s t h =
    option_and_then_some _ (place_at base length index s) t h (λ k is f. option_and_then_some _ (slice_get s.registers k) t f (λ x at g. puts_use _ r x s t g))
uses e (instr.Save base length index a) s t h =
    option_and_then_some _ (place_at base length index s) t h (λ k is f. option_and_then_some _ (slice_get s.registers a) t f (λ x at g. puts_use _ k x s t g))
uses e (instr.Part r field) s t h = option_and_then_some _ (slice_get e.received field) t h (λ x is f. puts_use _ r x s t f)
uses e (instr.Choose r lo hi) s t h = chooses_use (instr.Choose r lo hi) r (values_of (from_to lo hi)) s t refl h
uses e (instr.Select r first count) s t h = option_and_then_some _ (run_of first count s.registers) t h (λ xs is f. selects_use (instr.Select r first count) r count (ones 0 xs) s t refl f)
uses e (instr.Jump target) s t h = uses_none (instr.Jump target) s t (record s { next = target }) h refl refl
uses e (instr.JumpNe a imm target) s t h =
    option_and_then_some _ (slice_get s.registers a) t h (λ x is f. uses_none (instr.JumpNe a imm target) s t (record s { next = if int_eq x imm then s.next + 1 else target }) f refl refl)
uses e (instr.Repeat count last) s t h = uses_none (instr.Repeat count last) s t (record s { next = s.next + 1; counters = slice_set s.counters s.next count }) h refl refl
uses e (instr.Again first) s t h =
    option_and_then_some _ (slice_get s.counters first) t h
    (λ left is f. uses_none (instr.Again first) s t (record s { next = if nat_lt 0 (left - 1) then first + 1 else s.next + 1; counters = slice_set s.counters first (left - 1) }) f refl refl)
uses e (instr.Send message first count to) s t h =
    option_and_then_some _ (slice_get e.messages message) t h
    (λ m is f. option_and_then_some _ (run_of first count s.registers) t f
    (λ free at g. option_and_then_some _ (filled (code_message m) free) t g
    (λ values all k. let same : record s { next = s.next + 1; sends = s.sends ++ the_send to message values ∷ [] } ≡ t = cc in
    let sends : s.sends ++ the_send to message values ∷ [] ≡ t.sends = ap (λ (u : Moment). u.sends) same in
    let choices : s.choices ≡ t.choices = ap (λ (u : Moment). u.choices) same in
    record { sends = omega (arith, ap length sends, length-append s.sends (the_send to message values ∷ [])); choices = omega (arith, ap length choices) })))
uses e (instr.Start k a) s t h =
    option_and_then_some _ (slice_get s.registers a) t h
    (λ x is f. option_and_then_some _ (provided (int_le (pos 0) x && int_lt x (pos (2 ^ 32))) (unsigned_abs x)) t f (λ delay at g. sets_use _ k _ s t g))
uses e (instr.Stop k) s t h = sets_use _ k _ s t h
