-- What the tables of a part say of its jumps and its loops.
use Rattle.std.proofs.Common.{◌≡◌, ◌+◌, ◌<◌, ◌≤◌, ◌&&◌, ◌||◌, ℕ, zero, suc, Bool, true, false, not, List, length, get_or, ◌⊎◌, inl, inr, refl, ap, sym, ◌∙◌, slice_get, Option, Some, None, arith}
use Rattle.std.specs.Prelude.{nat_lt}
use Rattle.std.proofs.lemmas.Bool.{and_left, and_right, cases_eq, cases_lt, and_from, and_parts, ltb-true, leb-true, lt-ltb, le-ltb, le-leb, true≢false}
use Rattle.std.proofs.lemmas.Option.{slice_get-get_or, slice_get_within}
use Rattle.register_code.specs.declared.instr.Instr.{Instr}
use Rattle.register_code.specs.declared.instr.Instr.TheVariants as instr
use Rattle.register_code.specs.declared.loops.Loop.{Loop}
use Rattle.register_code.specs.Jumping.{all_below, enters_no_loop, is_nested, runs_out, stays_apart}
use Rattle.register_code.specs.Loops.{is_held_from, loop_at}
use Rattle.register_code.proofs.Nested.{ends_of}
use Rattle.code_rules.specs.declared.nests.Nests.{Nests}
use Rattle.code_rules.specs.Nests.{AreLatest, AreNests, IsLatest, IsSoonest, is_held_until}
use Rattle.code_rules.specs.inner.Bounds.{begins_before, ends_from}
use Rattle.code_rules.proofs.NestFacts.{Holds, held_holds, holds_held, holds_until, until_holds}

-- ---- all numbers below a bound

all_below_all : (n : ℕ) (test : ℕ → Bool) → ((k : ℕ) → k < n → test k ≡ true) → all_below n test ≡ true
all_below_all zero test h = refl
all_below_all (suc n) test h = and_from (all_below n test) (test n) (all_below_all n test (λ k l. h k (omega arith))) (h n (omega arith))

all_below_no : (n b : ℕ) (test : ℕ → Bool) → test b ≡ false → b < n → all_below n test ≡ false
all_below_no zero b test h l = absurd (omega arith)
all_below_no (suc n) b test h l = at (cases_eq b n) (λ m. all_below_no n b test h m) where
  at : (b ≡ n) ⊎ (b ≡ n → ⊥) → (b < n → all_below n test ≡ false) → (all_below n test && test n) ≡ false
  at (inl e) rest = and_right (all_below n test) (test n) (sym (ap test e) ∙ h)
  at (inr ne) rest = and_left (all_below n test) (test n) (rest (omega arith))

loop_within : (instrs : List Instr) (b : ℕ) (loop : Loop) → loop_at instrs b ≡ Some loop → b < length instrs
loop_within instrs b loop e = slice_get_within instrs b _ (ends_of instrs b loop e).first

-- the two ends of loops are apart
apart : (instrs : List Instr) (b d : ℕ) (loop other : Loop) → loop_at instrs b ≡ Some loop → loop_at instrs d ≡ Some other → b ≡ other.last → ⊥
apart instrs b d loop other e f same = two_kinds (sym (ends_of instrs b loop e).first ∙ ap (slice_get instrs) same ∙ (ends_of instrs d other f).last) where
  two_kinds : {count last first : ℕ} → Some (instr.Repeat count last) ≡ Some (instr.Again first) → ⊥
  two_kinds g = cc

-- ---- jumps

pub jump_free : (instrs : List Instr) (at target : ℕ) (begin : Option ℕ) → at < target → IsLatest instrs target begin → begins_before begin at ≡ enters_no_loop instrs at target
jump_free instrs at target None l latest = sym (all_below_all (length instrs) _ (λ b m. let none = latest b in rw none refl))
jump_free instrs at target (Some b) l latest = by_place (cases_lt b at) where
  it : Holds instrs b target
  it = held_holds instrs b target latest.0

  by_place : (b < at) ⊎ (at ≤ b) → nat_lt b at ≡ enters_no_loop instrs at target
  by_place (inl before) = lt-ltb b at before ∙ sym (all_below_all (length instrs) _ (λ d m. free d (is_held_from instrs d target) refl)) where
    free : (d : ℕ) (held : Bool) → is_held_from instrs d target ≡ held → (not (is_held_from instrs d target) || is_held_from instrs d at) ≡ true
    free d false none = rw none refl
    free d true some =
        let holds = held_holds instrs d target some in
        let early : d < at = by_order (cases_lt b d) in
        let here = holds_held instrs d at holds.loop holds.there early (omega (arith, l, holds.before)) in rw (some, here) refl
      where
        by_order : (b < d) ⊎ (d ≤ b) → d < at
        by_order (inl late) = absurd (true≢false (sym some ∙ latest.1 d late))
        by_order (inr fine) = omega (arith, before, fine)
  by_place (inr behind) = le-ltb b at behind ∙ sym (all_below_no (length instrs) b _ entered (loop_within instrs b it.loop it.there)) where
    out : (held : Bool) → is_held_from instrs b at ≡ held → held ≡ false
    out false e = refl
    out true e = let there = held_holds instrs b at e in absurd (omega (arith, behind, there.behind))

    entered : (not (is_held_from instrs b target) || is_held_from instrs b at) ≡ false
    entered = let some = latest.0 in let none = out (is_held_from instrs b at) refl in rw (some, none) refl

-- ---- loops

runs_out_no : (b : ℕ) (loop : Loop) (d : ℕ) (other : Loop) → (b < d → d < loop.last → loop.last < other.last → ⊥) → runs_out b loop d other ≡ false
runs_out_no b loop d other h = by_test (runs_out b loop d other) refl where
  by_test : (t : Bool) → runs_out b loop d other ≡ t → t ≡ false
  by_test false e = refl
  by_test true e =
      let parts = and_parts (nat_lt b d && nat_lt d loop.last) (nat_lt loop.last other.last) e in
      let first = and_parts (nat_lt b d) (nat_lt d loop.last) parts.0 in
      absurd (h (ltb-true b d first.0) (ltb-true d loop.last first.1) (ltb-true loop.last other.last parts.1))

runs_out_yes : (b : ℕ) (loop : Loop) (d : ℕ) (other : Loop) → b < d → d < loop.last → loop.last < other.last → runs_out b loop d other ≡ true
runs_out_yes b loop d other k l m = and_from (nat_lt b d && nat_lt d loop.last) (nat_lt loop.last other.last) (and_from (nat_lt b d) (nat_lt d loop.last) (lt-ltb b d k) (lt-ltb d loop.last l)) (lt-ltb loop.last other.last m)

module _ (instrs : List Instr) (b : ℕ) (loop : Loop) (e : loop_at instrs b ≡ Some loop) where
  -- no loop runs out of this one, and this one runs out of none
  keeps : (begin end : Option ℕ) → IsLatest instrs (loop.last + 1) begin → IsSoonest instrs b end → begins_before begin (b + 1) ≡ true → ends_from end loop.last ≡ true → (d : ℕ) → stays_apart instrs b loop d ≡ true
  keeps begin end latest soonest h k d = by_loop (loop_at instrs d) refl where
    by_loop : (o : Option Loop) → loop_at instrs d ≡ o → stays_apart instrs b loop d ≡ true
    by_loop None f = rw f refl
    by_loop (Some other) f = let first = runs_out_no b loop d other in_out in let second = runs_out_no d other b loop out_in in rw (f, first, second) refl where
      in_out : b < d → d < loop.last → loop.last < other.last → ⊥
      in_out l m n = by_begin begin latest h where
        held : is_held_from instrs d (loop.last + 1) ≡ true
        held = holds_held instrs d (loop.last + 1) other f (omega (arith, m)) (omega (arith, n))

        by_begin : (o : Option ℕ) → IsLatest instrs (loop.last + 1) o → begins_before o (b + 1) ≡ true → ⊥
        by_begin None last g = true≢false (sym held ∙ last d)
        by_begin (Some c) last g = by_order (cases_lt c d) where
          by_order : (c < d) ⊎ (d ≤ c) → ⊥
          by_order (inl late) = true≢false (sym held ∙ last.1 d late)
          by_order (inr fine) = let early = ltb-true c (b + 1) g in omega (arith, l, fine, early)

      out_in : d < b → b < other.last → other.last < loop.last → ⊥
      out_in l m n = by_end end soonest k where
        held : is_held_until instrs other.last b ≡ true
        held = holds_until instrs d b other f l (omega (arith, m))

        by_end : (o : Option ℕ) → IsSoonest instrs b o → ends_from o loop.last ≡ true → ⊥
        by_end None first g = true≢false (sym held ∙ first other.last)
        by_end (Some c) first g = by_order (cases_lt other.last c) where
          by_order : (other.last < c) ⊎ (c ≤ other.last) → ⊥
          by_order (inl early) = true≢false (sym held ∙ first.1 other.last early)
          by_order (inr fine) = let late = leb-true loop.last c g in omega (arith, n, fine, late)

  -- a loop that begins in this one and ends behind it
  breaks_later : (c : ℕ) → is_held_from instrs c (loop.last + 1) ≡ true → b < c → is_nested instrs b loop ≡ false
  breaks_later c held l =
      let it = held_holds instrs c (loop.last + 1) held in
      let ne : c ≡ loop.last → ⊥ = apart instrs c b it.loop loop it.there e in
      let out = runs_out_yes b loop c it.loop l (omega (arith, ne, it.behind)) (omega (arith, it.before)) in
      let there = it.there in
      let broken : stays_apart instrs b loop c ≡ false = rw (there, out) refl in
      all_below_no (length instrs) c (stays_apart instrs b loop) broken (loop_within instrs c it.loop it.there)

  -- a loop that begins before this one and ends in it
  breaks_sooner : (f : ℕ) → is_held_until instrs f b ≡ true → f < loop.last → is_nested instrs b loop ≡ false
  breaks_sooner f held l =
      let it = until_holds instrs f b held in
      let ne : b ≡ it.loop.last → ⊥ = apart instrs b it.begin loop it.loop e it.there in
      let out = runs_out_yes it.begin it.loop b loop it.behind (omega (arith, ne, it.before, it.ends)) (omega (arith, l, it.ends)) in
      let there = it.there in
      let broken : stays_apart instrs b loop it.begin ≡ false = rw (there, out) (either (runs_out b loop it.begin it.loop)) in
      all_below_no (length instrs) it.begin (stays_apart instrs b loop) broken (loop_within instrs it.begin it.loop it.there) where
        either : (t : Bool) → not (t || true) ≡ false
        either true = refl
        either false = refl

  pub nested_by : (begin end : Option ℕ) → IsLatest instrs (loop.last + 1) begin → IsSoonest instrs b end → (begins_before begin (b + 1) && ends_from end loop.last) ≡ is_nested instrs b loop
  nested_by begin end latest soonest = by_tests (begins_before begin (b + 1)) (ends_from end loop.last) refl refl where
    later : (o : Option ℕ) → IsLatest instrs (loop.last + 1) o → begins_before o (b + 1) ≡ false → is_nested instrs b loop ≡ false
    later None last h = absurd (true≢false h)
    later (Some c) last h = by_order (cases_lt b c) where
      by_order : (b < c) ⊎ (c ≤ b) → is_nested instrs b loop ≡ false
      by_order (inl late) = breaks_later c last.0 late
      by_order (inr early) = absurd (true≢false (sym (lt-ltb c (b + 1) (omega (arith, early))) ∙ h))

    sooner : (o : Option ℕ) → IsSoonest instrs b o → ends_from o loop.last ≡ false → is_nested instrs b loop ≡ false
    sooner None first h = absurd (true≢false h)
    sooner (Some f) first h = by_order (cases_lt f loop.last) where
      by_order : (f < loop.last) ⊎ (loop.last ≤ f) → is_nested instrs b loop ≡ false
      by_order (inl early) = breaks_sooner f first.0 early
      by_order (inr late) = absurd (true≢false (sym (le-leb loop.last f late) ∙ h))

    by_tests : (p q : Bool) → begins_before begin (b + 1) ≡ p → ends_from end loop.last ≡ q → (p && q) ≡ is_nested instrs b loop
    by_tests false q h k = sym (later begin latest h)
    by_tests true false h k = sym (sooner end soonest k)
    by_tests true true h k = sym (all_below_all (length instrs) (stays_apart instrs b loop) (λ d m. keeps begin end latest soonest h k d))

-- the same of the entries of the tables
pub jump_entry : (instrs : List Instr) (begins : List (Option ℕ)) (at target : ℕ) → AreLatest instrs begins → length begins ≡ length instrs + 1 → at < target → target ≤ length instrs → begins_before (get_or begins target None) at ≡ enters_no_loop instrs at target
jump_entry instrs begins at target table all l m = jump_free instrs at target (get_or begins target None) l (table target (get_or begins target None) (slice_get-get_or begins target None (omega (arith, all, m))))

pub nested_entries : (instrs : List Instr) (nests : Nests) (b : ℕ) (loop : Loop) → AreNests instrs nests → loop_at instrs b ≡ Some loop
    → (begins_before (get_or nests.begins (loop.last + 1) None) (b + 1) && ends_from (get_or nests.ends b None) loop.last) ≡ is_nested instrs b loop
nested_entries instrs nests b loop h e =
    let two = ends_of instrs b loop e in
    let last = slice_get_within instrs loop.last _ two.last in
    let first = slice_get_within instrs b _ two.first in
    nested_by instrs b loop e (get_or nests.begins (loop.last + 1) None) (get_or nests.ends b None)
    (h.begins (loop.last + 1) (get_or nests.begins (loop.last + 1) None) (slice_get-get_or nests.begins (loop.last + 1) None (omega (arith, h.all_begins, last))))
    (h.ends b (get_or nests.ends b None) (omega arith) (slice_get-get_or nests.ends b None (omega (arith, h.all_ends, first))))
