-- What a guard's instruction does not write stays.
use Rattle.std.proofs.Common.{◌≡◌, ◌+◌, ◌≤◌, ℕ, ℤ, true, List, [], take, refl, ap, sym, ◌∙◌, slice_get, slice_set, Some}
use Rattle.std.proofs.lemmas.Bool.{true≢false}
use Rattle.std.proofs.lemmas.List.{take-set-le}
use Rattle.std.proofs.lemmas.Option.{option_and_then_some}
use Rattle.tap_base.specs.declared.tree.Op.{Op}
use Rattle.tap_base.specs.declared.tree.Op.TheVariants as op
use Rattle.register_code.specs.declared.instr.Instr.{Instr}
use Rattle.register_code.specs.declared.instr.Instr.TheVariants as instr
use Rattle.register_code.specs.Instructions.{Moment, Setting, computes, does, place_at, puts}
use Rattle.register_code.specs.Naming.{may_guard, written}
use Rattle.code_steps.specs.Holding.{Held, moment}
use Rattle.code_steps.specs.Moving.{Moves}
use Rattle.code_steps.specs.Guarding.{KeepsFirst}

puts_kept : (r : ℕ) (x : ℤ) (m t : Moment) (k : ℕ) → puts r x m ≡ Some t → k ≤ r → take k t.registers ≡ take k m.registers
puts_kept r x m t k e l =
    let is : record m { next = m.next + 1; registers = slice_set m.registers r x } ≡ t = cc in
    ap (λ (u : Moment). take k u.registers) (sym is) ∙ take-set-le k m.registers r x l

computes_kept : (o : Op) (r a b : ℕ) (m t : Moment) (k : ℕ) → computes o r a b m ≡ Some t → k ≤ r → take k t.registers ≡ take k m.registers
computes_kept o r a b m t k e l = option_and_then_some _ (slice_get m.registers a) t e (λ x is f. option_and_then_some _ (slice_get m.registers b) t f (λ y at g. puts_kept r _ m t k g l))

kept_by : (e : Setting) (i : Instr) (m t : Moment) (k : ℕ) → may_guard i ≡ true → does e i m ≡ Some t → ((r : ℕ) → written i ≡ Some r → k ≤ r) → take k t.registers ≡ take k m.registers
kept_by e (instr.Const r imm) m t k g d w = puts_kept r imm m t k d (w r refl)
kept_by e (instr.Copy r a) m t k g d w = option_and_then_some _ (slice_get m.registers a) t d (λ x is f. puts_kept r x m t k f (w r refl))
kept_by e (instr.Add r a b) m t k g d w = computes_kept op.Add r a b m t k d (w r refl)
kept_by e (instr.Sub r a b) m t k g d w = computes_kept op.Sub r a b m t k d (w r refl)
kept_by e (instr.Mul r a b) m t k g d w = computes_kept op.Mul r a b m t k d (w r refl)
kept_by e (instr.Div r a b) m t k g d w = computes_kept op.Div r a b m t k d (w r refl)
kept_by e (instr.Mod r a b) m t k g d w = computes_kept op.Mod r a b m t k d (w r refl)
kept_by e (instr.Min r a b) m t k g d w = computes_kept op.Min r a b m t k d (w r refl)
kept_by e (instr.Max r a b) m t k g d w = computes_kept op.Max r a b m t k d (w r refl)
kept_by e (instr.Eq r a b) m t k g d w = computes_kept op.Eq r a b m t k d (w r refl)
kept_by e (instr.Ne r a b) m t k g d w = computes_kept op.Ne r a b m t k d (w r refl)
kept_by e (instr.Lt r a b) m t k g d w = computes_kept op.Lt r a b m t k d (w r refl)
kept_by e (instr.Le r a b) m t k g d w = computes_kept op.Le r a b m t k d (w r refl)
kept_by e (instr.Load r base run index) m t k g d w =
    option_and_then_some _ (place_at base run index m) t d (λ j is f. option_and_then_some _ (slice_get m.registers j) t f (λ x at h. puts_kept r x m t k h (w r refl)))
kept_by e (instr.Save base run index a) m t k g d w = absurd (true≢false (sym g))
kept_by e (instr.Part r field) m t k g d w = absurd (true≢false (sym g))
kept_by e (instr.Choose r lo hi) m t k g d w = absurd (true≢false (sym g))
kept_by e (instr.Select r first count) m t k g d w = absurd (true≢false (sym g))
kept_by e (instr.Jump target) m t k g d w = absurd (true≢false (sym g))
kept_by e (instr.JumpNe a imm target) m t k g d w = absurd (true≢false (sym g))
kept_by e (instr.Repeat count last) m t k g d w = absurd (true≢false (sym g))
kept_by e (instr.Again first) m t k g d w = absurd (true≢false (sym g))
kept_by e (instr.Send message first count to) m t k g d w = absurd (true≢false (sym g))
kept_by e (instr.Start u a) m t k g d w = absurd (true≢false (sym g))
kept_by e (instr.Stop u) m t k g d w = absurd (true≢false (sym g))

pub keeps_first : (instrs : List Instr) (before after : Held) (i : Instr) → slice_get instrs before.next ≡ Some i → Moves [] i before after → KeepsFirst instrs before after
keeps_first instrs before after i is moves k behind =
    let e : Setting = record { messages = []; received = []; instrs = instrs } in
    kept_by e i (moment before [] [] []) (moment after [] [] []) k (behind.guards before.next i is) ((moves e refl).leads [] [] []) (λ r f. behind.behind before.next i r is f)
