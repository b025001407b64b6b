-- Each instruction of a part that keeps its rules lowers what can still run.
use Rattle.std.proofs.Common.{◌≡◌, ◌+◌, ◌-◌, ◌<◌, ◌≤◌, ◌&&◌, ◌||◌, ℕ, Bool, true, false, not, if◌then◌else◌, List, length, get_or, ◌⊎◌, inl, inr, refl, ap, sym, subst, ◌∙◌, slice_get, slice_set, Some, None, get_or-set_same, get_or-set_other, arith}
use Rattle.std.specs.Prelude.{nat_lt, nat_le}
use Rattle.std.proofs.lemmas.Bool.{cases_eq, cases_lt, and_parts, and_from, or_cases, ltb-true, leb-true, lt-ltb, le-leb, true≢false}
use Rattle.std.proofs.lemmas.List.{get_or_past, length-set}
use Rattle.std.proofs.lemmas.Option.{get_or_from_slice_get, slice_get_past, slice_get_within}
use Rattle.register_code.specs.declared.instr.Instr.{Instr}
use Rattle.register_code.specs.declared.instr.Instr.TheVariants as instr
use Rattle.register_code.specs.Instructions.{Moment}
use Rattle.register_code.specs.Loops.{begun_by, counted, loop_at, is_held_from}
use Rattle.register_code.specs.Jumping.{AreWhole, all_below, jump_fits}
use Rattle.sound_code.proofs.Moves.{IsStraight, Goes}
use Rattle.register_code.proofs.Nested.{nest, is_nest, same_hold, no_loop, all_below_at, begun_loop, ended_loop, loop_fits}
use Rattle.register_code.proofs.Remaining.{within, remaining, forward, enter, back}

-- what the loops' counters say, by the beginnings of the loops
abbrev pub counter : List ℕ → ℕ → ℕ
counter counters b = get_or counters b 0

-- what the instructions that can still run count
abbrev pub still_counts : (Instr → ℕ) → List Instr → List ℕ → ℕ → ℕ
still_counts counts instrs counters p = remaining (nest instrs) (λ i. counted counts (slice_get instrs i)) (counter counters) p

-- The instruction i, next at p, is followed by q with these counters.
pub record Falls (counts : Instr → ℕ) (instrs : List Instr) (i : Instr) (before : List ℕ) (p : ℕ) (after : List ℕ) (q : ℕ) : Type 0 where
  pub less : still_counts counts instrs after q + counts i ≤ still_counts counts instrs before p
  pub stays : q ≤ length instrs

counts_here : (counts : Instr → ℕ) (instrs : List Instr) (p : ℕ) (i : Instr) → slice_get instrs p ≡ Some i → counted counts (slice_get instrs p) ≡ counts i
counts_here counts instrs p i e = ap (counted counts) e

-- ---- to the following instruction

follows_on : (counts : Instr → ℕ) (instrs : List Instr) → AreWhole instrs → (i : Instr) (before after : List ℕ) (p : ℕ) → slice_get instrs p ≡ Some i → begun_by i ≡ None
    → ((b : ℕ) → within (nest instrs) b (p + 1) ≡ true → counter after b ≡ counter before b) → Falls counts instrs i before p after (p + 1)
follows_on counts instrs h i before after p is plain same =
    let here = slice_get_within instrs p i is in
    let nests = is_nest instrs h in
    let less = forward (nest instrs) nests (λ j. counted counts (slice_get instrs j)) (counter before) (counter after) p (p + 1) here (omega arith) (λ b w. (into b w, same b w)) in
    record { less = subst (λ m. still_counts counts instrs after (p + 1) + m ≤ still_counts counts instrs before p) (counts_here counts instrs p i is) less; stays = omega arith } where
      none : loop_at instrs p ≡ None
      none = no_loop instrs p i is plain

      into : (b : ℕ) → within (nest instrs) b (p + 1) ≡ true → within (nest instrs) b p ≡ true
      into b w = by_place (cases_eq b p) where
        by_place : (b ≡ p) ⊎ (b ≡ p → ⊥) → within (nest instrs) b p ≡ true
        by_place (inl e) =
            let at_p : within (nest instrs) p (p + 1) ≡ true = subst (λ m. within (nest instrs) m (p + 1) ≡ true) e w in
            let held : nat_lt p (p + 1) && nat_le (p + 1) 0 ≡ true = rw none at at_p in
            let parts = and_parts (nat_lt p (p + 1)) (nat_le (p + 1) 0) held in absurd (omega (arith, leb-true (p + 1) 0 parts.1))
        by_place (inr ne) =
            let parts = and_parts (nat_lt b (p + 1)) (nat_le (p + 1) ((nest instrs).last b)) w in
            and_from (nat_lt b p) (nat_le p ((nest instrs).last b)) (lt-ltb b p (omega (arith, ltb-true b (p + 1) parts.0))) (le-leb p ((nest instrs).last b) (omega (arith, leb-true (p + 1) ((nest instrs).last b) parts.1)))

-- ---- a jump

jumps : (counts : Instr → ℕ) (instrs : List Instr) → AreWhole instrs → (i : Instr) (counters : List ℕ) (p q : ℕ) → slice_get instrs p ≡ Some i → jump_fits instrs p q ≡ true → Falls counts instrs i counters p counters q
jumps counts instrs h i counters p q is fits =
    let here = slice_get_within instrs p i is in
    let nests = is_nest instrs h in
    let parts = and_parts (nat_lt p q && nat_le q (length instrs)) _ fits in
    let ends = and_parts (nat_lt p q) (nat_le q (length instrs)) parts.0 in
    let less = forward (nest instrs) nests (λ j. counted counts (slice_get instrs j)) (counter counters) (counter counters) p q here (ltb-true p q ends.0) (λ b w. (into parts.1 b w, refl)) in
    record { less = subst (λ m. still_counts counts instrs counters q + m ≤ still_counts counts instrs counters p) (counts_here counts instrs p i is) less; stays = leb-true q (length instrs) ends.1 } where
      into : (all_below_is : all_below (length instrs) (λ b. not (is_held_from instrs b q) || is_held_from instrs b p) ≡ true) → (b : ℕ) → within (nest instrs) b q ≡ true → within (nest instrs) b p ≡ true
      into all b w = by_place (cases_lt b (length instrs)) where
        by_test : (not (is_held_from instrs b q) ≡ true) ⊎ (is_held_from instrs b p ≡ true) → within (nest instrs) b p ≡ true
        by_test (inl free) = absurd (true≢false (sym free ∙ ap not (same_hold instrs b q ∙ w)))
        by_test (inr held) = sym (same_hold instrs b p) ∙ held

        by_place : (b < length instrs) ⊎ (length instrs ≤ b) → within (nest instrs) b p ≡ true
        by_place (inl inside) = by_test (or_cases (not (is_held_from instrs b q)) (is_held_from instrs b p) (all_below_at (length instrs) (λ k. not (is_held_from instrs k q) || is_held_from instrs k p) b all inside))
        by_place (inr outside) =
            let none : loop_at instrs b ≡ None = rw (slice_get_past instrs b outside) refl in
            let held : nat_lt b q && nat_le q 0 ≡ true = rw none at w in
            let parts = and_parts (nat_lt b q) (nat_le q 0) held in absurd (omega (arith, ltb-true b q parts.0, leb-true q 0 parts.1))

-- ---- into a loop

enters : (counts : Instr → ℕ) (instrs : List Instr) → AreWhole instrs → (count last : ℕ) (counters : List ℕ) (p : ℕ) → slice_get instrs p ≡ Some (instr.Repeat count last) → loop_at instrs p ≡ Some (record { last = last; count = count })
    → Falls counts instrs (instr.Repeat count last) counters p (slice_set counters p count) (p + 1)
enters counts instrs h count last counters p is loop =
    let here = slice_get_within instrs p (instr.Repeat count last) is in
    let nests = is_nest instrs h in
    let fits = loop_fits instrs h p (record { last = last; count = count }) loop in
    let ends : (nest instrs).last p ≡ last = rw loop refl in
    let turns : (nest instrs).count p ≡ count = rw loop refl in
    let less = enter (nest instrs) nests (λ j. counted counts (slice_get instrs j)) (counter counters) (counter (slice_set counters p count)) p here (rw ends fits.ahead) (rw turns set) (λ b ne. get_or-set_other counters p b count 0 ne) (λ b ne w. into b ne w) in
    record { less = subst (λ m. still_counts counts instrs (slice_set counters p count) (p + 1) + m ≤ still_counts counts instrs counters p) (counts_here counts instrs p (instr.Repeat count last) is) less; stays = omega arith } where
      set : counter (slice_set counters p count) p ≤ count
      set = by_place (cases_lt p (length counters)) where
        by_place : (p < length counters) ⊎ (length counters ≤ p) → counter (slice_set counters p count) p ≤ count
        by_place (inl inside) = omega (arith, get_or-set_same counters p count 0 inside)
        by_place (inr outside) = let e : get_or (slice_set counters p count) p 0 ≡ 0 = get_or_past (slice_set counters p count) p 0 (omega (arith, length-set counters p count)) in omega (arith, e)

      into : (b : ℕ) → (b ≡ p → ⊥) → within (nest instrs) b (p + 1) ≡ true → within (nest instrs) b p ≡ true
      into b ne w =
          let parts = and_parts (nat_lt b (p + 1)) (nat_le (p + 1) ((nest instrs).last b)) w in
          and_from (nat_lt b p) (nat_le p ((nest instrs).last b)) (lt-ltb b p (omega (arith, ltb-true b (p + 1) parts.0))) (le-leb p ((nest instrs).last b) (omega (arith, leb-true (p + 1) ((nest instrs).last b) parts.1)))

-- ---- at the end of a loop

-- while its counter is above 0 after it falls, back to its beginning
goes_back : (counts : Instr → ℕ) (instrs : List Instr) → AreWhole instrs → (b count left : ℕ) (counters : List ℕ) (p : ℕ) → slice_get instrs p ≡ Some (instr.Again b)
    → loop_at instrs b ≡ Some (record { last = p; count = count }) → slice_get counters b ≡ Some left → 0 < left - 1
    → Falls counts instrs (instr.Again b) counters p (slice_set counters b (left - 1)) (b + 1)
goes_back counts instrs h b count left counters p is loop at more =
    let here = slice_get_within instrs p (instr.Again b) is in
    let nests = is_nest instrs h in
    let fits = loop_fits instrs h b (record { last = p; count = count }) loop in
    let ahead = fits.ahead in
    let ends : (nest instrs).last b ≡ p = rw loop refl in
    let was : counter counters b ≡ left = get_or_from_slice_get counters b left 0 at in
    let becomes : counter (slice_set counters b (left - 1)) b ≡ counter counters b - 1 = get_or-set_same counters b (left - 1) 0 (slice_get_within counters b left at) ∙ ap (λ m. m - 1) (sym was) in
    let less = back (nest instrs) nests (λ j. counted counts (slice_get instrs j)) (counter counters) (counter (slice_set counters b (left - 1))) b p here ahead ends (omega arith) becomes (λ d ne. get_or-set_other counters b d (left - 1) 0 ne) in
    record { less = subst (λ m. still_counts counts instrs (slice_set counters b (left - 1)) (b + 1) + m ≤ still_counts counts instrs counters p) (counts_here counts instrs p (instr.Again b) is) less; stays = omega arith }

goes_out : (counts : Instr → ℕ) (instrs : List Instr) → AreWhole instrs → (b count left : ℕ) (counters : List ℕ) (p : ℕ) → slice_get instrs p ≡ Some (instr.Again b)
    → loop_at instrs b ≡ Some (record { last = p; count = count }) → Falls counts instrs (instr.Again b) counters p (slice_set counters b (left - 1)) (p + 1)
goes_out counts instrs h b count left counters p is loop =
    follows_on counts instrs h (instr.Again b) counters (slice_set counters b (left - 1)) p is refl (λ d w. same d w) where
      same : (d : ℕ) → within (nest instrs) d (p + 1) ≡ true → counter (slice_set counters b (left - 1)) d ≡ counter counters d
      same d w = by_place (cases_eq d b) where
        by_place : (d ≡ b) ⊎ (d ≡ b → ⊥) → counter (slice_set counters b (left - 1)) d ≡ counter counters d
        by_place (inl e) =
            let ends : (nest instrs).last d ≡ p = rw (e, loop) refl in
            let parts = and_parts (nat_lt d (p + 1)) (nat_le (p + 1) ((nest instrs).last d)) w in absurd (omega (arith, leb-true (p + 1) ((nest instrs).last d) parts.1, ends))
        by_place (inr ne) = get_or-set_other counters b d (left - 1) 0 ne

-- ---- any instruction

moved : (counts : Instr → ℕ) (instrs : List Instr) (i : Instr) (before after later : List ℕ) (p q r : ℕ) → Falls counts instrs i before p after q → later ≡ after → r ≡ q → Falls counts instrs i before p later r
moved counts instrs i before after later p q r falls e f = subst (λ m. Falls counts instrs i before p later m) (sym f) (subst (λ c. Falls counts instrs i before p c q) (sym e) falls)

straight : (counts : Instr → ℕ) (instrs : List Instr) → AreWhole instrs → (i : Instr) (s t : Moment) → slice_get instrs s.next ≡ Some i → begun_by i ≡ None → IsStraight s t
    → Falls counts instrs i s.counters s.next t.counters t.next
straight counts instrs h i s t is plain on =
    moved counts instrs i s.counters s.counters t.counters s.next (s.next + 1) t.next (follows_on counts instrs h i s.counters s.counters s.next is plain (λ b w. refl)) on.counters on.next

turns_on : (counts : Instr → ℕ) (instrs : List Instr) → AreWhole instrs → (first left p : ℕ) (counters : List ℕ) → slice_get instrs p ≡ Some (instr.Again first) → slice_get counters first ≡ Some left
    → Falls counts instrs (instr.Again first) counters p (slice_set counters first (left - 1)) (if nat_lt 0 (left - 1) then first + 1 else p + 1)
turns_on counts instrs h first left p counters is at = by_test (nat_lt 0 (left - 1)) refl where
  loop : (count : ℕ) × (loop_at instrs first ≡ Some (record { last = p; count = count }))
  loop = ended_loop instrs h first p is

  by_test : (b : Bool) → nat_lt 0 (left - 1) ≡ b → Falls counts instrs (instr.Again first) counters p (slice_set counters first (left - 1)) (if b then first + 1 else p + 1)
  by_test true e = goes_back counts instrs h first loop.0 left counters p is loop.1 at (ltb-true 0 (left - 1) e)
  by_test false e = goes_out counts instrs h first loop.0 left counters p is loop.1

pub falls : (counts : Instr → ℕ) (instrs : List Instr) → AreWhole instrs → (i : Instr) (s t : Moment) → slice_get instrs s.next ≡ Some i → Goes i s t → Falls counts instrs i s.counters s.next t.counters t.next
falls counts instrs h (instr.Jump target) s t is on =
    moved counts instrs (instr.Jump target) s.counters s.counters t.counters s.next target t.next (jumps counts instrs h (instr.Jump target) s.counters s.next target is (h s.next (instr.Jump target) is).0) on.1 on.0
falls counts instrs h (instr.JumpNe a imm target) s t is on = by_way on.0 where
  by_way : (t.next ≡ target) ⊎ (t.next ≡ s.next + 1) → Falls counts instrs (instr.JumpNe a imm target) s.counters s.next t.counters t.next
  by_way (inl far) =
      moved counts instrs (instr.JumpNe a imm target) s.counters s.counters t.counters s.next target t.next (jumps counts instrs h (instr.JumpNe a imm target) s.counters s.next target is (h s.next (instr.JumpNe a imm target) is).0) on.1 far
  by_way (inr near) = straight counts instrs h (instr.JumpNe a imm target) s t is refl (record { next = near; counters = on.1 })
falls counts instrs h (instr.Repeat count last) s t is on =
    moved counts instrs (instr.Repeat count last) s.counters (slice_set s.counters s.next count) t.counters s.next (s.next + 1) t.next
    (enters counts instrs h count last s.counters s.next is (begun_loop instrs h count last s.next is)) on.1 on.0
falls counts instrs h (instr.Again first) s t is on =
    moved counts instrs (instr.Again first) s.counters (slice_set s.counters first (on.0 - 1)) t.counters s.next (if nat_lt 0 (on.0 - 1) then first + 1 else s.next + 1) t.next
    (turns_on counts instrs h first on.0 s.next s.counters is on.1) on.3 on.2
falls counts instrs h i s t is on = straight counts instrs h i s t is refl on
