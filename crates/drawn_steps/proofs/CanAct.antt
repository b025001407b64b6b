-- From a moment that fits, an instruction of verified code has what it needs.
use Rattle.std.proofs.Common.{◌≡◌, ◌+◌, ◌<◌, ◌≤◌, ◌&&◌, ◌==◌, ◌^◌, ℕ, ℤ, pos, true, List, [], length, take, drop, ◌⊎◌, inl, inr, refl, sym, subst, ◌∙◌, slice_get, Option, Some, None, arith}
use Rattle.std.specs.Prelude.{nat_lt, nat_le, int_le, int_lt, ◌-ℤ◌, ◌≤ℤ◌}
use Rattle.std.proofs.lemmas.Bool.{and_parts, or_cases, ltb-true, leb-true, eqb-true}
use Rattle.std.proofs.lemmas.Int.{ints}
use Rattle.std.proofs.lemmas.Option.{option_and_then_some, same_Some}
use Rattle.tap_base.specs.declared.place.Range.{Range}
use Rattle.tap_base.specs.Interval.{IsIn, delay_range, from_to}
use Rattle.tap_exec.specs.Filling.{filled}
use Rattle.register_code.specs.declared.instr.Instr.{Instr}
use Rattle.register_code.specs.declared.instr.Instr.TheVariants as instr
use Rattle.register_code.specs.Fields.{code_message}
use Rattle.register_code.specs.Instructions.{Moment, does, run_of}
use Rattle.register_code.specs.Loops.{one_choice, one_send}
use Rattle.register_code.specs.Naming.{are_registers}
use Rattle.register_code.specs.Results.{are_truths}
use Rattle.register_code.specs.Sites.{Site, both_in, lies_in}
use Rattle.register_code.proofs.Kept.{are_whole}
use Rattle.sound_code.specs.Fitting.{FitsSite}
use Rattle.sound_code.proofs.Fitted.{both_are, held_in, lies_on}
use Rattle.sound_code.proofs.Named.{Outcome, names_of, one_named}
use Rattle.sound_code.proofs.Reached.{Sound}
use Rattle.sound_code.proofs.StepsKept.{does_fit, setting_at}
use Rattle.action_code.specs.Using.{one_value}
use Rattle.code_steps.specs.Holding.{Held}
use Rattle.code_steps.proofs.Ready.{can_move}
use Rattle.drawn_steps.specs.Acting.{CanAct, Scene, moment_of}
use Rattle.drawn_steps.specs.Boxes.{Boxed}
use Rattle.drawn_steps.specs.Sending.{CanSend}

-- room for what an instruction sends and chooses
pub record HasRoomAt (s : Site) (i : Instr) (box : Boxed) : Type 0 where
  pub sends : length box.sent + one_send i ≤ box.sends_room
  pub values : length box.values + one_value s.messages i ≤ box.values_room
  pub small : length box.values + one_value s.messages i < 2 ^ 32
  pub choices : length box.chosen + one_choice i ≤ box.choices_room

delay_within : (registers : List ℤ) (a : ℕ) (first second : Range) (x y : ℤ) → ◌≡◌ {A = Option Range} (Some delay_range) (Some second) → lies_in first second ≡ true → slice_get registers a ≡ Some x → IsIn x first → slice_get registers a ≡ Some y → IsIn y delay_range
delay_within registers a first second x y e lies at inside be =
    let is : x ≡ y = same_Some x y (sym at ∙ be) in
    subst (λ (z : ℤ). IsIn z delay_range) is (subst (IsIn x) (sym (same_Some delay_range second e)) (lies_on first second x lies inside))

module _ (s : Site) (received : List ℤ) (sound : Sound s received) (at : Scene) (fits : FitsSite s (moment_of at [])) where
  abbrev h : Held
  h = at.held

  there : (r : ℕ) → nat_lt r (length s.ranges) ≡ true → r < length h.registers
  there r e = omega (arith, fits.registers.counted, ltb-true r (length s.ranges) e)

  can_send : (message first count to : ℕ) → slice_get s.instrs h.next ≡ Some (instr.Send message first count to) → CanSend s.messages message first count h
  can_send message first count to is = by_done (does (setting_at s received) i m) refl (does_fit s received i m (are_whole s sound.keeps) is (sound.keeps.each h.next i is) sound.cells sound.heard fits) where
    i : Instr
    i = instr.Send message first count to

    m : Moment
    m = moment_of at []

    by_done : (o : Option Moment) → does (setting_at s received) i m ≡ o → Outcome s i m o → CanSend s.messages message first count h
    by_done None e refused = absurd refused
    by_done (Some t) e outcome =
        option_and_then_some _ (slice_get s.messages message) t e
        (λ d declared f. option_and_then_some _ (run_of first count h.registers) t f
        (λ free run g. option_and_then_some _ (filled (code_message d) free) t g
        (λ values all k. record { declared = d; there = declared; free = free; run = run; values = values; filled_is = all })))

  pub can_act : (i : Instr) → slice_get s.instrs h.next ≡ Some i → HasRoomAt s i at.box → CanAct s.messages received i h at.timers at.box
  can_act (instr.Choose r lo hi) is room =
      let k = sound.keeps.each h.next (instr.Choose r lo hi) is in
      let low = (and_parts (int_le lo hi) (int_lt (hi -ℤ lo) (pos (2 ^ 32))) k.options).0 in
      (there r (one_named (length s.ranges) r (names_of s (instr.Choose r lo hi) k.names).registers), at_most lo hi low, omega (arith, room.choices)) where
        at_most : (x y : ℤ) → int_le x y ≡ true → x ≤ℤ y
        at_most x y f = grind (arith, ints)
  can_act (instr.Select r first count) is room =
      let k = sound.keeps.each h.next (instr.Select r first count) is in
      let names = names_of s (instr.Select r first count) k.names in
      let parts = and_parts (nat_lt 0 count && are_truths (take count (drop first s.ranges))) (both_in (Some (from_to (pos 0) (pos count))) (slice_get s.ranges r)) k.options in
      let some = ltb-true 0 count (and_parts (nat_lt 0 count) (are_truths (take count (drop first s.ranges))) parts.0).0 in
      (there r (one_named (length s.ranges) r names.registers), inside first count some names.others, omega (arith, room.choices)) where
        inside : (b n : ℕ) → 0 < n → are_registers s b n ≡ true → b + n ≤ length h.registers
        inside b n some e = by_size (or_cases (n == 0) (nat_le (b + n) (length s.ranges)) e) where
          by_size : ((n == 0) ≡ true) ⊎ (nat_le (b + n) (length s.ranges) ≡ true) → b + n ≤ length h.registers
          by_size (inl none) = absurd (omega (arith, eqb-true n 0 none, some))
          by_size (inr within) = omega (arith, leb-true (b + n) (length s.ranges) within, fits.registers.counted)
  can_act (instr.Send message first count to) is room = (can_send message first count to is, record { sends = omega (arith, room.sends); values = room.values; small = room.small })
  can_act (instr.Start t a) is room =
      let k = sound.keeps.each h.next (instr.Start t a) is in
      let names = names_of s (instr.Start t a) k.names in
      let lie = both_are (slice_get s.ranges a) (Some delay_range) k.delay in
      let x = held_in s (moment_of at []) a lie.first fits lie.one in
      (there a (one_named (length s.ranges) a names.registers), (λ y f. delay_within h.registers a lie.first lie.second x.0 y lie.other lie.within x.1 x.2 f), omega (arith, fits.timers, ltb-true t s.timers names.others))
  can_act (instr.Stop t) is room =
      let k = sound.keeps.each h.next (instr.Stop t) is in
      let names = names_of s (instr.Stop t) k.names in
      omega (arith, fits.timers, ltb-true t s.timers names.others)
  can_act i is room = can_move s received i h at.timers.states _ [] (are_whole s sound.keeps) is (sound.keeps.each h.next i is) sound.cells sound.heard fits
