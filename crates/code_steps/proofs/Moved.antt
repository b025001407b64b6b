-- What is held after an instruction is what the instruction leads to.
use Rattle.std.proofs.Common.{◌≡◌, ◌+◌, ◌-◌, ◌<◌, ◌&&◌, ℕ, ℤ, pos, negsuc, true, if◌then◌else◌, List, refl, ap, slice_get, slice_set, Some, arith}
use Rattle.std.specs.Prelude.{nat_lt, int_le, int_lt, unsigned_abs}
use Rattle.std.specs.Ordering.{int_eq}
use Rattle.std.proofs.lemmas.Bool.{and_from}
use Rattle.std.proofs.lemmas.Int.{ints}
use Rattle.tap_base.specs.declared.tree.Op.{Op}
use Rattle.tap_base.specs.Interval.{IsIn, index_range}
use Rattle.tap_exec.specs.Value.{operation}
use Rattle.register_code.specs.declared.instr.Instr.TheVariants as instr
use Rattle.register_code.specs.Instructions.{Moment, Setting, computes, does, place_at}
use Rattle.sound_code.proofs.Named.{le_is, lt_is}
use Rattle.code_steps.specs.Holding.{Held, moment}
use Rattle.code_steps.specs.Moving.{Moves, MovesBy}

-- a register holds this, and the following instruction is next
abbrev pub put_in : ℕ → ℤ → Held → Held
put_in r x h = record h { next = h.next + 1; registers = slice_set h.registers r x }

pub copied : (r a : ℕ) (x : ℤ) (before after : Held) → slice_get before.registers a ≡ Some x → after ≡ put_in r x before → (e : Setting) → MovesBy (does e (instr.Copy r a)) before after
copied r a x before after at is e = record { leads = λ timers sends choices. rw (at, is) refl; registers_room = ap (λ (h : Held). h.registers_room) is; counters_room = ap (λ (h : Held). h.counters_room) is }

pub computed : (o : Op) (r a b : ℕ) (x y : ℤ) (before after : Held) → slice_get before.registers a ≡ Some x → slice_get before.registers b ≡ Some y → after ≡ put_in r (operation o x y) before → MovesBy (computes o r a b) before after
computed o r a b x y before after at be is = record { leads = λ timers sends choices. rw (at, be, is) refl; registers_room = ap (λ (h : Held). h.registers_room) is; counters_room = ap (λ (h : Held). h.counters_room) is }

-- an index within its run
pub indexed : (x : ℤ) (run : ℕ) → IsIn x (index_range run) → (unsigned_abs x < run) × ((int_le (pos 0) x && int_lt x (pos run)) ≡ true)
indexed (pos n) run h = let l : n < run = omega (arith, ints, h.1) in (l, and_from (int_le (pos 0) (pos n)) (int_lt (pos n) (pos run)) (le_is (pos 0) (pos n) h.0) (lt_is n run l))
indexed (negsuc n) run h = absurd (omega (arith, ints, h.0))

pub placed : (base run index : ℕ) (x : ℤ) (h : Held) (m : Moment) → slice_get h.registers index ≡ Some x → IsIn x (index_range run) → m.registers ≡ h.registers → place_at base run index m ≡ Some (base + unsigned_abs x)
placed base run index x h m at within same = let test = (indexed x run within).1 in rw (same, at, test) refl

pub loaded : (r base run index k : ℕ) (x : ℤ) (before after : Held) → ((m : Moment) → m.registers ≡ before.registers → place_at base run index m ≡ Some k) → slice_get before.registers k ≡ Some x → after ≡ put_in r x before
    → (e : Setting) → MovesBy (does e (instr.Load r base run index)) before after
loaded r base run index k x before after place at is e = record { leads = λ timers sends choices. let here = place (moment before timers sends choices) refl in rw (here, at, is) refl; registers_room = ap (λ (h : Held). h.registers_room) is; counters_room = ap (λ (h : Held). h.counters_room) is }

pub saved : (base run index a k : ℕ) (x : ℤ) (before after : Held) → ((m : Moment) → m.registers ≡ before.registers → place_at base run index m ≡ Some k) → slice_get before.registers a ≡ Some x → after ≡ put_in k x before
    → (e : Setting) → MovesBy (does e (instr.Save base run index a)) before after
saved base run index a k x before after place at is e = record { leads = λ timers sends choices. let here = place (moment before timers sends choices) refl in rw (here, at, is) refl; registers_room = ap (λ (h : Held). h.registers_room) is; counters_room = ap (λ (h : Held). h.counters_room) is }

pub heard : (r field : ℕ) (x : ℤ) (received : List ℤ) (before after : Held) → slice_get received field ≡ Some x → after ≡ put_in r x before → Moves received (instr.Part r field) before after
heard r field x received before after at is e same = record { leads = λ timers sends choices. rw (same, at, is) refl; registers_room = ap (λ (h : Held). h.registers_room) is; counters_room = ap (λ (h : Held). h.counters_room) is }

pub branched : (a : ℕ) (imm x : ℤ) (target : ℕ) (before after : Held) → slice_get before.registers a ≡ Some x → after ≡ record before { next = if int_eq x imm then before.next + 1 else target }
    → (e : Setting) → MovesBy (does e (instr.JumpNe a imm target)) before after
branched a imm x target before after at is e = record { leads = λ timers sends choices. rw (at, is) refl; registers_room = ap (λ (h : Held). h.registers_room) is; counters_room = ap (λ (h : Held). h.counters_room) is }

pub begun : (count last : ℕ) (before after : Held) → after ≡ record before { next = before.next + 1; counters = slice_set before.counters before.next count } → (e : Setting) → MovesBy (does e (instr.Repeat count last)) before after
begun count last before after is e = record { leads = λ timers sends choices. rw is refl; registers_room = ap (λ (h : Held). h.registers_room) is; counters_room = ap (λ (h : Held). h.counters_room) is }

pub turned : (first left : ℕ) (before after : Held) → slice_get before.counters first ≡ Some left
    → after ≡ record before { next = if nat_lt 0 (left - 1) then first + 1 else before.next + 1; counters = slice_set before.counters first (left - 1) } → (e : Setting) → MovesBy (does e (instr.Again first)) before after
turned first left before after at is e = record { leads = λ timers sends choices. rw (at, is) refl; registers_room = ap (λ (h : Held). h.registers_room) is; counters_room = ap (λ (h : Held). h.counters_room) is }

pub jumped : (target : ℕ) (before after : Held) → after ≡ record before { next = target } → (e : Setting) → MovesBy (does e (instr.Jump target)) before after
jumped target before after is e = record { leads = λ timers sends choices. rw is refl; registers_room = ap (λ (h : Held). h.registers_room) is; counters_room = ap (λ (h : Held). h.counters_room) is }

pub loaded_const : (r : ℕ) (imm : ℤ) (before after : Held) → after ≡ put_in r imm before → (e : Setting) → MovesBy (does e (instr.Const r imm)) before after
loaded_const r imm before after is e = record { leads = λ timers sends choices. rw is refl; registers_room = ap (λ (h : Held). h.registers_room) is; counters_room = ap (λ (h : Held). h.counters_room) is }
