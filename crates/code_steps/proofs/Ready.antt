-- From a moment that fits, what an instruction of verified code names is there.
use Rattle.std.proofs.Common.{◌≡◌, ◌+◌, ◌<◌, ◌≤◌, ℕ, ℤ, true, List, [], ◌∷◌, length, map, sym, subst, slice_get, Option, Some, None, arith}
use Rattle.std.specs.Prelude.{nat_lt, nat_le}
use Rattle.std.specs.List.{list_all}
use Rattle.std.proofs.lemmas.Bool.{and_parts, ltb-true, leb-true}
use Rattle.std.proofs.lemmas.Option.{slice_get_within}
use Rattle.tap_base.specs.declared.place.Range.{Range}
use Rattle.tap_base.specs.declared.tree.Op.{Op}
use Rattle.tap_base.specs.declared.tree.Op.TheVariants as op
use Rattle.tap_base.specs.Interval.{IsIn, from_to, index_range, operation_range}
use Rattle.tap_exec.specs.Computed.{can_apply}
use Rattle.tap_exec.specs.declared.running.Outgoing.{Outgoing}
use Rattle.tap_exec.specs.declared.running.TimerState.{TimerState}
use Rattle.register_code.specs.declared.instr.Instr.{Instr}
use Rattle.register_code.specs.declared.instr.Instr.TheVariants as instr
use Rattle.register_code.specs.Instructions.{Moment}
use Rattle.register_code.specs.Jumping.{AreWhole}
use Rattle.register_code.specs.Results.{operates}
use Rattle.register_code.specs.Sites.{Site, both_in}
use Rattle.register_code.proofs.Kept.{Keeps}
use Rattle.register_code.proofs.Nested.{ended_loop, ends_of}
use Rattle.sound_code.specs.Fitting.{FitsSite, ReceivedFit}
use Rattle.register_code.specs.declared.code.CodeField.{CodeField}
use Rattle.register_code.specs.Fields.{code_field}
use Rattle.register_code.specs.Naming.{others_exist}
use Rattle.std.specs.Option.{option_map}
use Rattle.std.proofs.lemmas.List.{length-map}
use Rattle.tap_base.specs.Option.{is_yes}
use Rattle.tap_base.specs.Interval.{field_range}
use Rattle.sound_code.proofs.Fitted.{both_are, held_in, held, lies_on}
use Rattle.sound_code.proofs.Named.{names_of, one_named, operated, three_named}
use Rattle.sound_values.proofs.Operations.{operation_does}
use Rattle.code_steps.specs.Holding.{Held, moment}
use Rattle.code_steps.specs.Moving.{CanCompute, CanIndex, CanMove}

two_named : (n r a : ℕ) → list_all (λ k. nat_lt k n) (r ∷ a ∷ []) ≡ true → (nat_lt r n ≡ true) × (nat_lt a n ≡ true)
two_named n r a e = let parts = and_parts (nat_lt r n) (list_all (λ k. nat_lt k n) (a ∷ [])) e in (parts.0, one_named n a parts.1)

named_there : (s : Site) (m : Moment) (r : ℕ) → FitsSite s m → nat_lt r (length s.ranges) ≡ true → r < length m.registers
named_there s m r fits named = omega (arith, fits.registers.counted, ltb-true r (length s.ranges) named)

ranged_there : (s : Site) (m : Moment) (r : ℕ) (range : Range) → FitsSite s m → slice_get s.ranges r ≡ Some range → r < length m.registers
ranged_there s m r range fits ranged = omega (arith, fits.registers.counted, slice_get_within s.ranges r range ranged)

pub can_compute : (s : Site) (h : Held) (timers : List TimerState) (sends : List Outgoing) (choices : List ℤ) (o : Op) (r a b : ℕ) → FitsSite s (moment h timers sends choices)
    → list_all (λ k. nat_lt k (length s.ranges)) (r ∷ a ∷ b ∷ []) ≡ true → operates s o r a b ≡ true → CanCompute o r a b h
can_compute s h timers sends choices o r a b fits names kept =
    let m = moment h timers sends choices in
    let there_are = three_named (length s.ranges) r a b names in
    let to = held s m r fits there_are.0 in
    let x = held s m a fits there_are.1 in
    let y = held s m b fits there_are.2 in
    let to_is = to.ranged in
    let x_is = x.ranged in
    let y_is = y.ranged in
    let result = operated (operation_range o x.range y.range) to.range (rw (to_is, x_is, y_is) at kept) in
    let can = (operation_does o x.value y.value x.range y.range result.0 x.within y.within result.1).can in
    record {
      result = named_there s m r fits there_are.0;
      left = named_there s m a fits there_are.1;
      right = named_there s m b fits there_are.2;
      applies = λ v w e f. let first = x.at in let second = y.at in let same : x.value ≡ v = cc in let other : y.value ≡ w = cc in subst (λ z. can_apply o v z ≡ true) other (subst (λ z. can_apply o z y.value ≡ true) same can);
    }

can_index : (s : Site) (h : Held) (timers : List TimerState) (sends : List Outgoing) (choices : List ℤ) (base run index : ℕ) → FitsSite s (moment h timers sends choices)
    → s.cells ≤ length s.ranges → nat_le (base + run) s.cells ≡ true → both_in (slice_get s.ranges index) (Some (index_range run)) ≡ true → CanIndex base run index h
can_index s h timers sends choices base run index fits cells inside kept =
    let m = moment h timers sends choices in
    let lie = both_are (slice_get s.ranges index) (Some (index_range run)) kept in
    let x = held_in s m index lie.first fits lie.one in
    let same : index_range run ≡ lie.second = cc in
    let in_it : IsIn x.0 (index_range run) = subst (IsIn x.0) (sym same) (lies_on lie.first lie.second x.0 lie.within x.2) in
    record {
      index_there = slice_get_within h.registers index x.0 x.1;
      run_there = omega (arith, leb-true (base + run) s.cells inside, cells, fits.registers.counted);
      within = λ i e. let at = x.1 in let is : x.0 ≡ i = cc in subst (λ z. IsIn z (index_range run)) is in_it;
    }

field_there : (s : Site) (received : List ℤ) (r field : ℕ) → ReceivedFit s.received received → others_exist s (instr.Part r field) ≡ true → field < length received
field_there s received r field heard exist = by_fields s.received heard exist where
  by_fields : (o : Option (List CodeField)) → ReceivedFit o received → is_yes (option_map (λ fields. nat_lt field (length fields)) o) ≡ true → field < length received
  by_fields None h e = cc
  by_fields (Some fields) h e = omega (arith, ltb-true field (length fields) e, h.counted, length-map fields code_field, length-map (map code_field fields) field_range)

-- what is named, in a part that keeps its rules
pub can_move : (s : Site) (received : List ℤ) (i : Instr) (h : Held) (timers : List TimerState) (sends : List Outgoing) (choices : List ℤ) → AreWhole s.instrs → slice_get s.instrs h.next ≡ Some i → Keeps s h.next i
    → s.cells ≤ length s.ranges → ReceivedFit s.received received → FitsSite s (moment h timers sends choices) → CanMove received i h
can_move s received (instr.Const r imm) h ts ss cs w is k c f fits = let lie = both_are (Some (from_to imm imm)) (slice_get s.ranges r) k.result in ranged_there s (moment h ts ss cs) r lie.second fits lie.other
can_move s received (instr.Copy r a) h ts ss cs w is k c f fits =
    let lie = both_are (slice_get s.ranges a) (slice_get s.ranges r) k.result in
    (ranged_there s (moment h ts ss cs) r lie.second fits lie.other, ranged_there s (moment h ts ss cs) a lie.first fits lie.one)
can_move s received (instr.Add r a b) h ts ss cs w is k c f fits = can_compute s h ts ss cs op.Add r a b fits (names_of s (instr.Add r a b) k.names).registers k.result
can_move s received (instr.Sub r a b) h ts ss cs w is k c f fits = can_compute s h ts ss cs op.Sub r a b fits (names_of s (instr.Sub r a b) k.names).registers k.result
can_move s received (instr.Mul r a b) h ts ss cs w is k c f fits = can_compute s h ts ss cs op.Mul r a b fits (names_of s (instr.Mul r a b) k.names).registers k.result
can_move s received (instr.Div r a b) h ts ss cs w is k c f fits = can_compute s h ts ss cs op.Div r a b fits (names_of s (instr.Div r a b) k.names).registers k.result
can_move s received (instr.Mod r a b) h ts ss cs w is k c f fits = can_compute s h ts ss cs op.Mod r a b fits (names_of s (instr.Mod r a b) k.names).registers k.result
can_move s received (instr.Min r a b) h ts ss cs w is k c f fits = can_compute s h ts ss cs op.Min r a b fits (names_of s (instr.Min r a b) k.names).registers k.result
can_move s received (instr.Max r a b) h ts ss cs w is k c f fits = can_compute s h ts ss cs op.Max r a b fits (names_of s (instr.Max r a b) k.names).registers k.result
can_move s received (instr.Eq r a b) h ts ss cs w is k c f fits = can_compute s h ts ss cs op.Eq r a b fits (names_of s (instr.Eq r a b) k.names).registers k.result
can_move s received (instr.Ne r a b) h ts ss cs w is k c f fits = can_compute s h ts ss cs op.Ne r a b fits (names_of s (instr.Ne r a b) k.names).registers k.result
can_move s received (instr.Lt r a b) h ts ss cs w is k c f fits = can_compute s h ts ss cs op.Lt r a b fits (names_of s (instr.Lt r a b) k.names).registers k.result
can_move s received (instr.Le r a b) h ts ss cs w is k c f fits = can_compute s h ts ss cs op.Le r a b fits (names_of s (instr.Le r a b) k.names).registers k.result
can_move s received (instr.Load r base run index) h ts ss cs w is k c f fits =
    let names = names_of s (instr.Load r base run index) k.names in
    let both = two_named (length s.ranges) r index names.registers in
    (named_there s (moment h ts ss cs) r fits both.0, can_index s h ts ss cs base run index fits c names.others k.index)
can_move s received (instr.Save base run index a) h ts ss cs w is k c f fits =
    let names = names_of s (instr.Save base run index a) k.names in
    let both = two_named (length s.ranges) index a names.registers in
    (named_there s (moment h ts ss cs) a fits both.1, can_index s h ts ss cs base run index fits c names.others k.index)
can_move s received (instr.Part r field) h ts ss cs w is k c f fits =
    let names = names_of s (instr.Part r field) k.names in
    (named_there s (moment h ts ss cs) r fits (one_named (length s.ranges) r names.registers), field_there s received r field f names.others)
can_move s received (instr.JumpNe a imm target) h ts ss cs w is k c f fits =
    named_there s (moment h ts ss cs) a fits (one_named (length s.ranges) a (names_of s (instr.JumpNe a imm target) k.names).registers)
can_move s received (instr.Repeat count last) h ts ss cs w is k c f fits = omega (arith, slice_get_within s.instrs h.next _ is, fits.counters)
can_move s received (instr.Again first) h ts ss cs w is k c f fits =
    let loop = ended_loop s.instrs w first h.next is in
    omega (arith, slice_get_within s.instrs first _ (ends_of s.instrs first _ loop.1).first, fits.counters)
can_move s received (instr.Choose r lo hi) h ts ss cs w is k c f fits = tt
can_move s received (instr.Select r first count) h ts ss cs w is k c f fits = tt
can_move s received (instr.Jump target) h ts ss cs w is k c f fits = tt
can_move s received (instr.Send message first count to) h ts ss cs w is k c f fits = tt
can_move s received (instr.Start t a) h ts ss cs w is k c f fits = tt
can_move s received (instr.Stop t) h ts ss cs w is k c f fits = tt
