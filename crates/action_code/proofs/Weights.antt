-- The weight of each instruction, from that of the one before it.
use Rattle.std.proofs.Common.{◌≡◌, ◌+◌, ◌*◌, ◌<◌, ◌≤◌, ◌&&◌, ℕ, zero, suc, Bool, true, false, if◌then◌else◌, List, length, ◌⊎◌, inl, inr, refl, ap, sym, subst, ◌∙◌, slice_get, Option, Some, None, arith}
use Rattle.std.specs.Prelude.{nat_lt, nat_le}
use Rattle.std.proofs.lemmas.Bool.{cases_eq, and_parts, and_from, and_right, ltb-true, leb-true, lt-ltb, le-ltb, le-leb, lt-leb}
use Rattle.std.proofs.lemmas.Option.{slice_get_within}
use Rattle.register_code.specs.declared.instr.Instr.{Instr}
use Rattle.register_code.specs.declared.instr.Instr.TheVariants as instr
use Rattle.register_code.specs.declared.loops.Loop.{Loop}
use Rattle.register_code.specs.Loops.{begun_by, ended_by, is_held, loop_at, times, weight}
use Rattle.register_code.specs.Jumping.{AreWhole}
use Rattle.register_code.specs.Sums.{product_below}
use Rattle.register_code.proofs.Nested.{begun_loop, ended_loop}
use Rattle.register_code.proofs.Nested.{LoopFits, ends_of, loop_fits, no_loop}

-- ---- products that are equal but for one factor

product_same : (n : ℕ) (f h : ℕ → ℕ) → ((k : ℕ) → k < n → f k ≡ h k) → product_below n f ≡ product_below n h
product_same zero f h e = refl
product_same (suc n) f h e = let rest = product_same n f h (λ k l. e k (omega arith)) in let here = e n (omega arith) in rw (rest, here) refl

product_swap : (n p x : ℕ) (f h : ℕ → ℕ) → p < n → ((k : ℕ) → (k ≡ p → ⊥) → f k ≡ h k) → x * f p ≡ h p → x * product_below n f ≡ product_below n h
product_swap zero p x f h l e at = absurd (omega arith)
product_swap (suc n) p x f h l e at = by_place (cases_eq n p) (λ m. product_swap n p x f h m e at) where
  by_place : (n ≡ p) ⊎ (n ≡ p → ⊥) → (p < n → x * product_below n f ≡ product_below n h) → x * (product_below n f * f n) ≡ product_below n h * h n
  by_place (inl same) others =
      let rest = product_same n f h (λ k m. e k (λ d. omega arith)) in
      let here : x * f n ≡ h n = subst (λ m. x * f m ≡ h m) (sym same) at in rw (rest, ← here) (omega arith)
  by_place (inr ne) others = let rest = others (omega arith) in let here = e n ne in rw (← rest, here) (omega arith)

-- ---- the factor of one loop

same_tests : (x y : Bool) → (x ≡ true → y ≡ true) → (y ≡ true → x ≡ true) → x ≡ y
same_tests true y f g = sym (f refl)
same_tests false true f g = g refl
same_tests false false f g = refl

-- A loop that neither begins nor ends at i holds what follows i where it holds i.
held_on : (b i : ℕ) (loop : Loop) → (b ≡ i → ⊥) → (loop.last ≡ i → ⊥) → is_held b loop (i + 1) ≡ is_held b loop i
held_on b i loop first last =
    same_tests (is_held b loop (i + 1)) (is_held b loop i)
    (λ e. let parts = and_parts (nat_lt b (i + 1)) (nat_le (i + 1) loop.last) e in and_from (nat_lt b i) (nat_le i loop.last) (lt-ltb b i (omega (arith, ltb-true b (i + 1) parts.0))) (le-leb i loop.last (omega (arith, leb-true (i + 1) loop.last parts.1))))
    (λ e. let parts = and_parts (nat_lt b i) (nat_le i loop.last) e in and_from (nat_lt b (i + 1)) (nat_le (i + 1) loop.last) (lt-ltb b (i + 1) (omega (arith, ltb-true b i parts.0))) (le-leb (i + 1) loop.last (omega (arith, leb-true i loop.last parts.1))))

times_on : (instrs : List Instr) (b i : ℕ) → (b ≡ i → ⊥) → ((loop : Loop) → loop_at instrs b ≡ Some loop → loop.last ≡ i → ⊥) → times instrs b (i + 1) ≡ times instrs b i
times_on instrs b i first last = by_loop (loop_at instrs b) refl where
  by_loop : (o : Option Loop) → loop_at instrs b ≡ o → times instrs b (i + 1) ≡ times instrs b i
  by_loop None e = rw e refl
  by_loop (Some loop) e = let same = held_on b i loop first (last loop e) in rw e (ap (λ t. if t then loop.count else 1) same)

-- ---- weights

-- an instruction that ends no loop
ends_none : (instrs : List Instr) (i b : ℕ) (loop : Loop) (j : Instr) → slice_get instrs i ≡ Some j → ended_by j ≡ None → loop_at instrs b ≡ Some loop → loop.last ≡ i → ⊥
ends_none instrs i b loop j is none e same =
    let end = (ends_of instrs b loop e).last in
    let both : Some j ≡ Some (instr.Again b) = sym is ∙ ap (slice_get instrs) (sym same) ∙ end in
    let kind : j ≡ instr.Again b = cc in
    let said : Some b ≡ None = ap ended_by (sym kind) ∙ none in cc

pub weight_first : (instrs : List Instr) → weight instrs 0 ≡ 1
weight_first instrs = product_same (length instrs) (λ b. times instrs b 0) (λ b. 1) (λ b l. at b) ∙ all_ones (length instrs) where
  all_ones : (n : ℕ) → product_below n (λ b. 1) ≡ 1
  all_ones zero = refl
  all_ones (suc n) = let rest = all_ones n in rw rest refl

  at : (b : ℕ) → times instrs b 0 ≡ 1
  at b = by_loop (loop_at instrs b) refl where
    by_loop : (o : Option Loop) → loop_at instrs b ≡ o → times instrs b 0 ≡ 1
    by_loop None e = rw e refl
    by_loop (Some loop) e = let out : nat_lt b 0 ≡ false = le-ltb b 0 (omega arith) in rw (e, out) refl

pub weight_on : (instrs : List Instr) (i : ℕ) (j : Instr) → slice_get instrs i ≡ Some j → begun_by j ≡ None → ended_by j ≡ None → weight instrs (i + 1) ≡ weight instrs i
weight_on instrs i j is first last =
    product_same (length instrs) (λ b. times instrs b (i + 1)) (λ b. times instrs b i) (λ b l. by_place b (cases_eq b i)) where
      none : loop_at instrs i ≡ None
      none = no_loop instrs i j is first

      by_place : (b : ℕ) → (b ≡ i) ⊎ (b ≡ i → ⊥) → times instrs b (i + 1) ≡ times instrs b i
      by_place b (inl e) = rw (e, none) refl
      by_place b (inr ne) = times_on instrs b i ne (λ loop at. ends_none instrs i b loop j is last at)

pub weight_in : (instrs : List Instr) → AreWhole instrs → (i count last : ℕ) → slice_get instrs i ≡ Some (instr.Repeat count last) → weight instrs (i + 1) ≡ weight instrs i * count
weight_in instrs h i count last is = let swap = product_swap (length instrs) i count (λ b. times instrs b i) (λ b. times instrs b (i + 1)) here others self in omega (arith, swap) where
  here : i < length instrs
  here = slice_get_within instrs i (instr.Repeat count last) is

  loop : loop_at instrs i ≡ Some (record { last = last; count = count })
  loop = begun_loop instrs h count last i is

  ahead : i < last
  ahead = (loop_fits instrs h i (record { last = last; count = count }) loop).ahead

  others : (b : ℕ) → (b ≡ i → ⊥) → times instrs b i ≡ times instrs b (i + 1)
  others b ne = sym (times_on instrs b i ne (λ found at. ends_none instrs i b found (instr.Repeat count last) is refl at))

  self : count * times instrs i i ≡ times instrs i (i + 1)
  self =
      let out : nat_lt i i ≡ false = le-ltb i i (omega arith) in
      let into : (nat_lt i (i + 1) && nat_le (i + 1) last) ≡ true = and_from (nat_lt i (i + 1)) (nat_le (i + 1) last) (lt-ltb i (i + 1) (omega arith)) (le-leb (i + 1) last (omega (arith, ahead))) in
      rw (loop, out, into) (omega arith)

pub weight_out : (instrs : List Instr) → AreWhole instrs → (i first : ℕ) → slice_get instrs i ≡ Some (instr.Again first)
    → (count : ℕ) × (slice_get instrs first ≡ Some (instr.Repeat count i)) × (1 ≤ count) × (count * weight instrs (i + 1) ≡ weight instrs i)
weight_out instrs h i first is =
    (loop.0, (ends_of instrs first (record { last = i; count = loop.0 }) loop.1).first, fits.counted, product_swap (length instrs) first loop.0 (λ b. times instrs b (i + 1)) (λ b. times instrs b i) begun others self) where
      loop : (count : ℕ) × (loop_at instrs first ≡ Some (record { last = i; count = count }))
      loop = ended_loop instrs h first i is

      fits : LoopFits instrs first (record { last = i; count = loop.0 })
      fits = loop_fits instrs h first (record { last = i; count = loop.0 }) loop.1

      begun : first < length instrs
      begun = slice_get_within instrs first (instr.Repeat loop.0 i) (ends_of instrs first (record { last = i; count = loop.0 }) loop.1).first

      -- only the loop at first ends here
      one_end : (b : ℕ) (found : Loop) → (b ≡ first → ⊥) → loop_at instrs b ≡ Some found → found.last ≡ i → ⊥
      one_end b found ne at same =
          let end = (ends_of instrs b found at).last in
          let both : Some (instr.Again b) ≡ Some (instr.Again first) = sym end ∙ ap (slice_get instrs) same ∙ is in ne (cc)

      not_begun : (b : ℕ) → b ≡ i → times instrs b i ≡ times instrs b (i + 1)
      not_begun b e = let none : loop_at instrs i ≡ None = no_loop instrs i (instr.Again first) is refl in rw (e, none) refl

      others : (b : ℕ) → (b ≡ first → ⊥) → times instrs b (i + 1) ≡ times instrs b i
      others b ne = by_place (cases_eq b i) where
        by_place : (b ≡ i) ⊎ (b ≡ i → ⊥) → times instrs b (i + 1) ≡ times instrs b i
        by_place (inl e) = sym (not_begun b e)
        by_place (inr apart) = times_on instrs b i apart (λ found at. one_end b found ne at)

      self : loop.0 * times instrs first (i + 1) ≡ times instrs first i
      self =
          let is_loop = loop.1 in
          let ahead = fits.ahead in
          let out : (nat_lt first (i + 1) && nat_le (i + 1) i) ≡ false = and_right (nat_lt first (i + 1)) (nat_le (i + 1) i) (lt-leb (i + 1) i (omega arith)) in
          let into : (nat_lt first i && nat_le i i) ≡ true = and_from (nat_lt first i) (nat_le i i) (lt-ltb first i ahead) (le-leb i i (omega arith)) in
          rw (is_loop, out, into) (omega arith)
