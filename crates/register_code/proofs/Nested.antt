-- The loops of a part that keeps its rules are nested.
use Rattle.std.proofs.Common.{◌≡◌, ◌<◌, ◌≤◌, ◌&&◌, ◌||◌, ◌==◌, ℕ, zero, suc, Bool, true, false, not, List, length, ◌⊎◌, inl, inr, refl, ap, sym, ◌∙◌, slice_get, Option, Some, None, arith}
use Rattle.std.specs.Prelude.{nat_lt, nat_le}
use Rattle.std.specs.Option.{option_map}
use Rattle.std.proofs.lemmas.Bool.{cases_eq, cases_lt, and_parts, and_from, and_right, or_parts, not-true, ltb-true, leb-true, lt-ltb, le-ltb, lt-leb, eqb-true, true≢false}
use Rattle.std.proofs.lemmas.Option.{option_and_then_some, cond_some, slice_get_within}
use Rattle.tap_base.specs.Option.{is_yes}
use Rattle.register_code.specs.declared.instr.Instr.{Instr}
use Rattle.register_code.specs.declared.instr.Instr.TheVariants as instr
use Rattle.register_code.specs.declared.loops.Loop.{Loop}
use Rattle.register_code.specs.Loops.{begun_by, ended_by, loop_at, is_held_from}
use Rattle.register_code.specs.Jumping.{AreWhole, all_below, runs_out, is_nested}
use Rattle.register_code.specs.Sites.{holds_of}
use Rattle.register_code.proofs.Remaining.{Nest, IsNest, within}

pub all_below_at : (n : ℕ) (test : ℕ → Bool) (k : ℕ) → all_below n test ≡ true → k < n → test k ≡ true
all_below_at zero test k h l = absurd (omega arith)
all_below_at (suc n) test k h l = at (cases_eq k n) (and_parts (all_below n test) (test n) h) (λ b m. all_below_at n test k b m) where
  at : (k ≡ n) ⊎ (k ≡ n → ⊥) → (all_below n test ≡ true) × (test n ≡ true) → (all_below n test ≡ true → k < n → test k ≡ true) → test k ≡ true
  at (inl e) both below = ap test e ∙ both.1
  at (inr ne) both below = below both.0 (omega arith)

-- ---- loops

pub is_begun : (i : Instr) (loop : Loop) → begun_by i ≡ Some loop → i ≡ instr.Repeat loop.count loop.last
is_begun (instr.Repeat count last) loop e = let same : record { last = last; count = count } ≡ loop = cc in ap (λ (l : Loop). instr.Repeat l.count l.last) same
is_begun _ loop e = cc

pub is_over : (i : Instr) (first : ℕ) → ended_by i ≡ Some first → i ≡ instr.Again first
is_over (instr.Again k) first e = let same : k ≡ first = cc in ap (λ m. instr.Again m) same
is_over _ first e = cc

-- the two ends of a loop
pub record HasEnds (instrs : List Instr) (b : ℕ) (loop : Loop) : Type 0 where
  pub first : slice_get instrs b ≡ Some (instr.Repeat loop.count loop.last)
  pub last : slice_get instrs loop.last ≡ Some (instr.Again b)

pub ends_of : (instrs : List Instr) (b : ℕ) (loop : Loop) → loop_at instrs b ≡ Some loop → HasEnds instrs b loop
ends_of instrs b loop e =
    option_and_then_some _ _ loop e
    (λ begun is f. option_and_then_some _ _ loop f
    (λ first at g. let kept = cond_some (first == b) begun loop g in
    let start = option_and_then_some begun_by (slice_get instrs b) begun is (λ i there said. there ∙ ap (λ (j : Instr). Some j) (is_begun i begun said)) in
    let end = option_and_then_some ended_by (slice_get instrs begun.last) first at (λ i there said. there ∙ ap (λ (j : Instr). Some j) (is_over i first said)) in
    let same : first ≡ b = eqb-true first b kept.0 in
    record {
      first = start ∙ ap (λ (l : Loop). Some (instr.Repeat l.count l.last)) kept.1;
      last = ap (λ (l : Loop). slice_get instrs l.last) (sym kept.1) ∙ end ∙ ap (λ (m : ℕ). Some (instr.Again m)) same;
    }))

-- ---- the nest

abbrev last_of : Option Loop → ℕ
last_of None = 0
last_of (Some loop) = loop.last

abbrev count_of : Option Loop → ℕ
count_of None = 1
count_of (Some loop) = loop.count

abbrev pub nest : List Instr → Nest
nest instrs = record { size = length instrs; last = λ b. last_of (loop_at instrs b); count = λ b. count_of (loop_at instrs b) }

-- what the rule on loops says of a loop's beginning
pub record LoopFits (instrs : List Instr) (b : ℕ) (loop : Loop) : Type 0 where
  pub ahead : b < loop.last
  pub counted : 1 ≤ loop.count
  pub most : loop.count ≤ 65536
  pub nested : is_nested instrs b loop ≡ true

pub loop_fits : (instrs : List Instr) → AreWhole instrs → (b : ℕ) (loop : Loop) → loop_at instrs b ≡ Some loop → LoopFits instrs b loop
loop_fits instrs h b loop e =
    let ends = ends_of instrs b loop e in
    let well = (h b (instr.Repeat loop.count loop.last) ends.first).1 in
    let parts = and_parts _ (is_yes (option_map (is_nested instrs b) (loop_at instrs b))) well in
    let sizes = and_parts _ (nat_le loop.count 65536) parts.0 in
    let least = and_parts (nat_lt b loop.last) (nat_le 1 loop.count) sizes.0 in
    record { ahead = ltb-true b loop.last least.0; counted = leb-true 1 loop.count least.1; most = leb-true loop.count 65536 sizes.1; nested = rw e at parts.1 }

-- Of two loops of which the second begins in the first, the second does not run out.
inner : (instrs : List Instr) → AreWhole instrs → (b d : ℕ) (loop other : Loop) → loop_at instrs b ≡ Some loop → loop_at instrs d ≡ Some other → b < d → d ≤ loop.last → other.last ≤ loop.last
inner instrs h b d loop other e f ahead early =
    let ends = ends_of instrs b loop e in
    let start = ends_of instrs d other f in
    let fits = loop_fits instrs h b loop e in
    let apart : d ≡ loop.last → ⊥ = λ same. two_kinds (sym start.first ∙ ap (slice_get instrs) same ∙ ends.last) in
    let here = slice_get_within instrs d _ start.first in
    let test = all_below_at (length instrs) (λ k. holds_of (loop_at instrs k) (λ o. not (runs_out b loop k o || runs_out k o b loop))) d fits.nested here in
    let said : not (runs_out b loop d other || runs_out d other b loop) ≡ true = rw f at test in
    let kept = or_parts (runs_out b loop d other) (runs_out d other b loop) (not-true _ said) in
    by_order (cases_lt loop.last other.last) (omega arith) kept.0 where
      two_kinds : {count last first : ℕ} → Some (instr.Repeat count last) ≡ Some (instr.Again first) → ⊥
      two_kinds g = cc

      by_order : (loop.last < other.last) ⊎ (other.last ≤ loop.last) → d < loop.last → runs_out b loop d other ≡ false → other.last ≤ loop.last
      by_order (inl out) within_it kept = absurd (true≢false (sym (and_from (nat_lt b d && nat_lt d loop.last) (nat_lt loop.last other.last) (and_from (nat_lt b d) (nat_lt d loop.last) (lt-ltb b d ahead) (lt-ltb d loop.last within_it)) (lt-ltb loop.last other.last out)) ∙ kept))
      by_order (inr fine) within_it kept = fine

pub is_nest : (instrs : List Instr) → AreWhole instrs → IsNest (nest instrs)
is_nest instrs h = record { counted = counted; nested = nested } where
  counted : (b : ℕ) → 1 ≤ count_of (loop_at instrs b)
  counted b = by_loop (loop_at instrs b) refl where
    by_loop : (o : Option Loop) → loop_at instrs b ≡ o → 1 ≤ count_of o
    by_loop None e = omega arith
    by_loop (Some loop) e = (loop_fits instrs h b loop e).counted

  nested : (b d : ℕ) → b < d → d ≤ last_of (loop_at instrs b) → last_of (loop_at instrs d) ≤ last_of (loop_at instrs b)
  nested b d ahead = by_loop (loop_at instrs b) (loop_at instrs d) refl refl where
    by_loop : (o u : Option Loop) → loop_at instrs b ≡ o → loop_at instrs d ≡ u → d ≤ last_of o → last_of u ≤ last_of o
    by_loop None u e f early = absurd (omega arith)
    by_loop (Some loop) None e f early = omega arith
    by_loop (Some loop) (Some other) e f early = inner instrs h b d loop other e f ahead early

-- ---- what holds an instruction

-- the test of the rules, as the nest has it
pub same_hold : (instrs : List Instr) (b i : ℕ) → is_held_from instrs b i ≡ within (nest instrs) b i
same_hold instrs b i = by_loop (loop_at instrs b) refl where
  none : nat_lt b i && nat_le i 0 ≡ false
  none = by_order (cases_lt 0 i) where
    by_order : (0 < i) ⊎ (i ≤ 0) → nat_lt b i && nat_le i 0 ≡ false
    by_order (inl some) = let e : nat_le i 0 ≡ false = lt-leb i 0 some in rw e (and_right (nat_lt b i) false refl)
    by_order (inr nil) = let e : nat_lt b i ≡ false = le-ltb b i (omega arith) in rw e refl

  by_loop : (o : Option Loop) → loop_at instrs b ≡ o → is_held_from instrs b i ≡ within (nest instrs) b i
  by_loop None e = rw e (sym none)
  by_loop (Some loop) e = rw e refl

-- where the beginning of no loop stands, no loop begins
pub no_loop : (instrs : List Instr) (at : ℕ) (i : Instr) → slice_get instrs at ≡ Some i → begun_by i ≡ None → loop_at instrs at ≡ None
no_loop instrs at i e f = rw (e, f) refl

-- ---- the loops of a part that keeps its rules

abbrev the_loop : ℕ → ℕ → Loop
the_loop last count = record { last = last; count = count }

-- the loop that a Repeat begins
pub begun_loop : (instrs : List Instr) → AreWhole instrs → (count last p : ℕ) → slice_get instrs p ≡ Some (instr.Repeat count last) → loop_at instrs p ≡ Some (the_loop last count)
begun_loop instrs h count last p is = by_loop (loop_at instrs p) refl (and_parts (nat_lt p last && nat_le 1 count && nat_le count 65536) _ (h p (instr.Repeat count last) is).1).1 where
  by_loop : (o : Option Loop) → loop_at instrs p ≡ o → is_yes (option_map (is_nested instrs p) o) ≡ true → loop_at instrs p ≡ Some (the_loop last count)
  by_loop None e well = absurd (true≢false (sym well))
  by_loop (Some loop) e well =
      let ends = ends_of instrs p loop e in
      let same : Some (instr.Repeat loop.count loop.last) ≡ Some (instr.Repeat count last) = sym ends.first ∙ is in
      let counts : loop.count ≡ count = cc in
      let lasts : loop.last ≡ last = cc in
      e ∙ ap (λ m. Some (the_loop m loop.count)) lasts ∙ ap (λ m. Some (the_loop last m)) counts

-- the loop that an Again ends
pub ended_loop : (instrs : List Instr) → AreWhole instrs → (first p : ℕ) → slice_get instrs p ≡ Some (instr.Again first) → (count : ℕ) × (loop_at instrs first ≡ Some (record { last = p; count = count }))
ended_loop instrs h first p is = by_loop (loop_at instrs first) refl (h p (instr.Again first) is).1 where
  by_loop : (o : Option Loop) → loop_at instrs first ≡ o → is_yes (option_map (λ loop. loop.last == p && is_nested instrs first loop) o) ≡ true → (count : ℕ) × (loop_at instrs first ≡ Some (record { last = p; count = count }))
  by_loop None e well = absurd (true≢false (sym well))
  by_loop (Some loop) e well =
      let parts = and_parts (loop.last == p) (is_nested instrs first loop) well in
      let same : loop.last ≡ p = eqb-true loop.last p parts.0 in
      (loop.count, e ∙ ap (λ m. Some (the_loop m loop.count)) same)
