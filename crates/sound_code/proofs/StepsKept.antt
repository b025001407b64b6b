-- Each instruction of code that keeps its rules leads from a fitting moment to a fitting one.
use Rattle.std.proofs.Common.{◌≡◌, ◌+◌, ◌<◌, ◌≤◌, ◌&&◌, ◌==◌, ℕ, ℤ, pos, true, not, List, length, take, drop, ◌⊎◌, inl, inr, slice_get, Some, arith}
use Rattle.std.specs.Prelude.{nat_lt, nat_le}
use Rattle.std.specs.List.{list_any}
use Rattle.std.proofs.lemmas.Bool.{not-true, and_parts, or_cases, ltb-true, leb-true, eqb-true}
use Rattle.std.proofs.lemmas.Option.{slice_get_within}
use Rattle.tap_base.specs.declared.tree.Op.TheVariants as op
use Rattle.tap_base.specs.Interval.{from_to}
use Rattle.tap_exec.specs.declared.running.TimerState.TheVariants as timer
use Rattle.register_code.specs.declared.instr.Instr.{Instr}
use Rattle.register_code.specs.declared.instr.Instr.TheVariants as instr
use Rattle.sound_code.specs.Fitting.{FitsSite, ReceivedFit}
use Rattle.register_code.specs.Instructions.{Moment, Setting, does}
use Rattle.register_code.specs.Jumping.{AreWhole}
use Rattle.register_code.specs.Naming.{are_registers}
use Rattle.register_code.specs.Results.{are_truths}
use Rattle.register_code.specs.Sending.{fit_fields, free_fields, is_receive}
use Rattle.register_code.specs.Sites.{Site, both_in, holds_of}
use Rattle.register_code.proofs.Nested.{ended_loop, ends_of}
use Rattle.register_code.proofs.Kept.{Keeps}
use Rattle.sound_code.proofs.Named.{Outcome, computes_fits, names_of, one_named}
use Rattle.sound_code.proofs.Copied.{const_fits, copy_fits, load_fits, part_fits, save_fits}
use Rattle.sound_code.proofs.Chosen.{choose_fits, select_fits}
use Rattle.sound_code.proofs.Led.{again_fits, branch_fits, counts_to, goes_to, sets_fits, start_fits, target_inside}
use Rattle.sound_code.proofs.SentOn.{send_fits}

-- ---- any instruction

-- what the instructions of a site read
abbrev pub setting_at : Site → List ℤ → Setting
setting_at s received = record { messages = s.messages; received = received; instrs = s.instrs }

pub does_fit : (s : Site) (received : List ℤ) (i : Instr) (m : Moment) → AreWhole s.instrs → slice_get s.instrs m.next ≡ Some i → Keeps s m.next i → s.cells ≤ length s.ranges → ReceivedFit s.received received → FitsSite s m
    → Outcome s i m (does (setting_at s received) i m)
does_fit s received (instr.Const r imm) m h is k c f fits = const_fits s m (instr.Const r imm) r imm fits (slice_get_within s.instrs m.next _ is) k.result
does_fit s received (instr.Copy r a) m h is k c f fits = copy_fits s m (instr.Copy r a) r a fits (slice_get_within s.instrs m.next _ is) k.result
does_fit s received (instr.Add r a b) m h is k c f fits = computes_fits s m (instr.Add r a b) op.Add r a b fits (slice_get_within s.instrs m.next _ is) (names_of s (instr.Add r a b) k.names).registers k.result
does_fit s received (instr.Sub r a b) m h is k c f fits = computes_fits s m (instr.Sub r a b) op.Sub r a b fits (slice_get_within s.instrs m.next _ is) (names_of s (instr.Sub r a b) k.names).registers k.result
does_fit s received (instr.Mul r a b) m h is k c f fits = computes_fits s m (instr.Mul r a b) op.Mul r a b fits (slice_get_within s.instrs m.next _ is) (names_of s (instr.Mul r a b) k.names).registers k.result
does_fit s received (instr.Div r a b) m h is k c f fits = computes_fits s m (instr.Div r a b) op.Div r a b fits (slice_get_within s.instrs m.next _ is) (names_of s (instr.Div r a b) k.names).registers k.result
does_fit s received (instr.Mod r a b) m h is k c f fits = computes_fits s m (instr.Mod r a b) op.Mod r a b fits (slice_get_within s.instrs m.next _ is) (names_of s (instr.Mod r a b) k.names).registers k.result
does_fit s received (instr.Min r a b) m h is k c f fits = computes_fits s m (instr.Min r a b) op.Min r a b fits (slice_get_within s.instrs m.next _ is) (names_of s (instr.Min r a b) k.names).registers k.result
does_fit s received (instr.Max r a b) m h is k c f fits = computes_fits s m (instr.Max r a b) op.Max r a b fits (slice_get_within s.instrs m.next _ is) (names_of s (instr.Max r a b) k.names).registers k.result
does_fit s received (instr.Eq r a b) m h is k c f fits = computes_fits s m (instr.Eq r a b) op.Eq r a b fits (slice_get_within s.instrs m.next _ is) (names_of s (instr.Eq r a b) k.names).registers k.result
does_fit s received (instr.Ne r a b) m h is k c f fits = computes_fits s m (instr.Ne r a b) op.Ne r a b fits (slice_get_within s.instrs m.next _ is) (names_of s (instr.Ne r a b) k.names).registers k.result
does_fit s received (instr.Lt r a b) m h is k c f fits = computes_fits s m (instr.Lt r a b) op.Lt r a b fits (slice_get_within s.instrs m.next _ is) (names_of s (instr.Lt r a b) k.names).registers k.result
does_fit s received (instr.Le r a b) m h is k c f fits = computes_fits s m (instr.Le r a b) op.Le r a b fits (slice_get_within s.instrs m.next _ is) (names_of s (instr.Le r a b) k.names).registers k.result
does_fit s received (instr.Load r base run index) m h is k c f fits =
    load_fits s m (instr.Load r base run index) r base run index fits (slice_get_within s.instrs m.next _ is) c (names_of s (instr.Load r base run index) k.names).others k.result k.index
does_fit s received (instr.Save base run index a) m h is k c f fits =
    save_fits s m (instr.Save base run index a) base run index a fits (slice_get_within s.instrs m.next _ is) c (names_of s (instr.Save base run index a) k.names).others k.result k.index
does_fit s received (instr.Part r field) m h is k c f fits = part_fits s m (instr.Part r field) received r field fits (slice_get_within s.instrs m.next _ is) f k.result
does_fit s received (instr.Choose r lo hi) m h is k c f fits = choose_fits s m r lo hi fits (slice_get_within s.instrs m.next _ is) k.result
does_fit s received (instr.Select r first count) m h is k c f fits =
    let parts = and_parts (nat_lt 0 count && are_truths (take count (drop first s.ranges))) (both_in (Some (from_to (pos 0) (pos count))) (slice_get s.ranges r)) k.options in
    let some = ltb-true 0 count (and_parts (nat_lt 0 count) (are_truths (take count (drop first s.ranges))) parts.0).0 in
    select_fits s m r first count fits (slice_get_within s.instrs m.next _ is) (registers_inside first count some (names_of s (instr.Select r first count) k.names).others) parts.1 where
      registers_inside : (b n : ℕ) → 0 < n → are_registers s b n ≡ true → b + n ≤ length s.ranges
      registers_inside b n some e = by_size (or_cases (n == 0) (nat_le (b + n) (length s.ranges)) e) where
        by_size : ((n == 0) ≡ true) ⊎ (nat_le (b + n) (length s.ranges) ≡ true) → b + n ≤ length s.ranges
        by_size (inl none) = absurd (omega (arith, eqb-true n 0 none, some))
        by_size (inr inside) = leb-true (b + n) (length s.ranges) inside
does_fit s received (instr.Jump target) m h is k c f fits = goes_to s m target fits (target_inside s.instrs m.next target k.jumps)
does_fit s received (instr.JumpNe a imm target) m h is k c f fits =
    branch_fits s m (instr.JumpNe a imm target) a imm target fits (slice_get_within s.instrs m.next _ is) (one_named (length s.ranges) a (names_of s (instr.JumpNe a imm target) k.names).registers) (target_inside s.instrs m.next target k.jumps)
does_fit s received (instr.Repeat count last) m h is k c f fits = let going = slice_get_within s.instrs m.next (instr.Repeat count last) is in counts_to s m (m.next + 1) m.next count fits (omega (arith, going))
does_fit s received (instr.Again first) m h is k c f fits =
    let loop = ended_loop s.instrs h first m.next is in
    again_fits s m (instr.Again first) first fits (slice_get_within s.instrs m.next _ is) (slice_get_within s.instrs first _ (ends_of s.instrs first _ loop.1).first)
does_fit s received (instr.Send message first count to) m h is k c f fits =
    let exist = (names_of s (instr.Send message first count to) k.names).others in
    let most = and_parts (are_registers s first count && nat_lt message (length s.messages)) (nat_lt to (length s.processes)) exist in
    let parts = and_parts (are_registers s first count) (nat_lt message (length s.messages)) most.0 in
    let sends = and_parts _ (holds_of (slice_get s.processes to) (λ p. list_any (is_receive message s.process) p.actions)) k.sends in
    let values = and_parts (holds_of (slice_get s.messages message) (λ declared. fit_fields (free_fields declared.fields) (take count (drop first s.ranges)))) (not (to == s.process)) sends.0 in
    send_fits s m (instr.Send message first count to) message first count to fits (slice_get_within s.instrs m.next _ is) parts.0 parts.1 values.0 most.1 (not-true (to == s.process) values.1) sends.1
does_fit s received (instr.Start t a) m h is k c f fits = start_fits s m (instr.Start t a) t a fits (slice_get_within s.instrs m.next _ is) k.delay
does_fit s received (instr.Stop t) m h is k c f fits = sets_fits s m (instr.Stop t) t timer.Off fits (slice_get_within s.instrs m.next _ is) tt
