-- The last loop to begin and the first one to end, of those that hold a number, from those of the numbers beside it.
use Rattle.std.proofs.Common.{◌≡◌, ◌+◌, ◌-◌, ◌<◌, ◌≤◌, ◌&&◌, ◌==◌, ℕ, zero, suc, Bool, true, false, List, [], ◌∷◌, length, get_or, ◌⊎◌, inl, inr, refl, ap, sym, subst, ◌∙◌, slice_get, slice_set, Option, Some, None, arith}
use Rattle.std.specs.Prelude.{IfSome, nat_lt, nat_le}
use Rattle.std.proofs.lemmas.Bool.{cases_eq, cases_lt, and_parts, and_from, ltb-true, leb-true, lt-ltb, le-leb, eqb-true, eq-eqb, true≢false}
use Rattle.std.proofs.lemmas.Option.{none-some, same_Some, slice_get-get_or, slice_get_within}
use Rattle.tap_base.specs.Option.{◌>>=◌, is_yes}
use Rattle.tap_base.proofs.ListFacts.{element_at}
use Rattle.tap_base.proofs.OptionFacts.{bound}
use Rattle.register_code.specs.declared.instr.Instr.{Instr}
use Rattle.register_code.specs.declared.instr.Instr.TheVariants as instr
use Rattle.register_code.specs.declared.loops.Loop.{Loop}
use Rattle.register_code.specs.Loops.{ended_by, is_held, is_held_from, loop_at}
use Rattle.register_code.proofs.Nested.{ends_of}
use Rattle.code_rules.specs.Nests.{AreLatest, AreSoonest, IsLatest, IsSoonest, entry, held_until, is_held_until}

-- ---- a loop that holds a number

pub record Holds (instrs : List Instr) (b i : ℕ) : Type 0 where
  pub loop : Loop
  pub there : loop_at instrs b ≡ Some loop
  pub behind : b < i
  pub before : i ≤ loop.last

pub holds_is : (b i : ℕ) (loop : Loop) → is_held b loop i ≡ true → (b < i) × (i ≤ loop.last)
holds_is b i loop h = let parts = and_parts (nat_lt b i) (nat_le i loop.last) h in (ltb-true b i parts.0, leb-true i loop.last parts.1)

pub is_held_by : (b i : ℕ) (loop : Loop) → b < i → i ≤ loop.last → is_held b loop i ≡ true
is_held_by b i loop l m = and_from (nat_lt b i) (nat_le i loop.last) (lt-ltb b i l) (le-leb i loop.last m)

pub held_holds : (instrs : List Instr) (b i : ℕ) → is_held_from instrs b i ≡ true → Holds instrs b i
held_holds instrs b i h = by_loop (loop_at instrs b) refl where
  by_loop : (o : Option Loop) → loop_at instrs b ≡ o → Holds instrs b i
  by_loop None e = absurd (true≢false (sym h ∙ rw e refl))
  by_loop (Some loop) e =
      let said : is_held b loop i ≡ true = rw e at h in
      let sides = holds_is b i loop said in record { loop = loop; there = e; behind = sides.0; before = sides.1 }

pub holds_held : (instrs : List Instr) (b i : ℕ) (loop : Loop) → loop_at instrs b ≡ Some loop → b < i → i ≤ loop.last → is_held_from instrs b i ≡ true
holds_held instrs b i loop e l m = rw e (is_held_by b i loop l m)

-- the loop that ends there
pub record HoldsUntil (instrs : List Instr) (e i : ℕ) : Type 0 where
  pub begin : ℕ
  pub loop : Loop
  pub there : loop_at instrs begin ≡ Some loop
  pub ends : loop.last ≡ e
  pub behind : begin < i
  pub before : i ≤ e

yes_some : (o : Option Bool) → is_yes o ≡ true → o ≡ Some true
yes_some None h = absurd (true≢false (sym h))
yes_some (Some true) h = refl
yes_some (Some false) h = absurd (true≢false (sym h))

pub until_holds : (instrs : List Instr) (e i : ℕ) → is_held_until instrs e i ≡ true → HoldsUntil instrs e i
until_holds instrs e i h =
    let ended = bound (λ b. loop_at instrs b >>= λ loop. Some (loop.last == e && is_held b loop i)) (slice_get instrs e >>= ended_by) true (yes_some (held_until instrs e i) h) in
    let found = bound (λ (loop : Loop). Some (loop.last == e && is_held ended.0 loop i)) (loop_at instrs ended.0) true ended.2 in
    let both : (found.0.last == e && is_held ended.0 found.0 i) ≡ true = same_Some (found.0.last == e && is_held ended.0 found.0 i) true found.2 in
    let parts = and_parts (found.0.last == e) (is_held ended.0 found.0 i) both in
    let last = eqb-true found.0.last e parts.0 in
    let sides = holds_is ended.0 i found.0 parts.1 in
    record { begin = ended.0; loop = found.0; there = found.1; ends = last; behind = sides.0; before = subst (λ m. i ≤ m) last sides.1 }

pub holds_until : (instrs : List Instr) (b i : ℕ) (loop : Loop) → loop_at instrs b ≡ Some loop → b < i → i ≤ loop.last → is_held_until instrs loop.last i ≡ true
holds_until instrs b i loop e l m =
    let end : slice_get instrs loop.last ≡ Some (instr.Again b) = (ends_of instrs b loop e).last in
    let last : (loop.last == loop.last) ≡ true = eq-eqb loop.last loop.last refl in
    let held = is_held_by b i loop l m in rw (end, e, last, held) refl

-- ---- the last loop to begin

-- no loop that holds i begins behind this
abbrev IsUpTo : ℕ → Option ℕ → Type 0
IsUpTo d None = ⊥
IsUpTo d (Some b) = d ≤ b

abbrev pub Covers : List Instr → ℕ → Option ℕ → Type 0
Covers instrs i begin = (d : ℕ) → is_held_from instrs d i ≡ true → IsUpTo d begin

abbrev pub measure : Option ℕ → ℕ
measure None = 0
measure (Some b) = suc b

not_held : (b : Bool) → (b ≡ true → ⊥) → b ≡ false
not_held true h = absurd (h refl)
not_held false h = refl

pub covers_first : (instrs : List Instr) (at : ℕ) → Covers instrs (at + 1) (Some at)
covers_first instrs at d h = let it = held_holds instrs d (at + 1) h in omega (arith, it.behind)

pub covers_none : (instrs : List Instr) (i : ℕ) → Covers instrs i None → IsLatest instrs i None
covers_none instrs i c b = not_held (is_held_from instrs b i) (λ h. c b h)

pub covers_some : (instrs : List Instr) (i b : ℕ) → Covers instrs i (Some b) → is_held_from instrs b i ≡ true → IsLatest instrs i (Some b)
covers_some instrs i b c h = (h, λ d l. not_held (is_held_from instrs d i) (λ held. let up : d ≤ b = c d held in omega (arith, l, up)))

-- A loop that holds i, and begins before one that does not, holds that one's beginning.
outward : (instrs : List Instr) (i b d : ℕ) → b < i → is_held_from instrs b i ≡ false → is_held_from instrs d i ≡ true → d ≤ b → is_held_from instrs d b ≡ true
outward instrs i b d l none h up = by_place (cases_eq d b) where
  by_place : (d ≡ b) ⊎ (d ≡ b → ⊥) → is_held_from instrs d b ≡ true
  by_place (inl same) = absurd (true≢false (sym h ∙ ap (λ k. is_held_from instrs k i) same ∙ none))
  by_place (inr ne) = let it = held_holds instrs d i h in let lo : d < b = omega (arith, ne, up) in let hi : b ≤ it.loop.last = omega (arith, l, it.before) in holds_held instrs d b it.loop it.there lo hi

pub covers_next : (instrs : List Instr) (i b : ℕ) (o : Option ℕ) → b < i → Covers instrs i (Some b) → is_held_from instrs b i ≡ false → IsLatest instrs b o → Covers instrs i o
covers_next instrs i b None l c none latest d h = true≢false (sym (outward instrs i b d l none h (c d h)) ∙ latest d)
covers_next instrs i b (Some e) l c none latest d h = by_place (cases_lt e d) where
  by_place : (e < d) ⊎ (d ≤ e) → d ≤ e
  by_place (inl past) = absurd (true≢false (sym (outward instrs i b d l none h (c d h)) ∙ latest.1 d past))
  by_place (inr fine) = fine

-- what a table of latest beginnings says is before the number
pub latest_before : (instrs : List Instr) (b e : ℕ) → IsLatest instrs b (Some e) → e < b
latest_before instrs b e h = (held_holds instrs e b h.0).behind

pub none_at_first : (instrs : List Instr) → IsLatest instrs 0 None
none_at_first instrs b = not_held (is_held_from instrs b 0) (λ h. let it = held_holds instrs b 0 h in omega (arith, it.behind))

-- what the table says of a number that the search has come to
pub record Come (instrs : List Instr) (begins : List (Option ℕ)) (at b : ℕ) : Type 0 where
  pub inside : b < length begins
  pub early : b ≤ at
  pub latest : IsLatest instrs b (get_or begins b None)

pub come_to : (instrs : List Instr) (begins : List (Option ℕ)) (at b : ℕ) (begin : Option ℕ) → AreLatest instrs begins → begin ≡ Some b → IfSome begin (λ k. (k < length begins) × (k ≤ at)) → Come instrs begins at b
come_to instrs begins at b begin table e h =
    let here = subst (λ o. IfSome o (λ k. (k < length begins) × (k ≤ at))) e h in
    record { inside = here.0; early = here.1; latest = table b (get_or begins b None) (slice_get-get_or begins b None here.0) }

pub measure_falls : (instrs : List Instr) (b : ℕ) (o begin : Option ℕ) → begin ≡ Some b → IsLatest instrs b o → measure o < measure begin
measure_falls instrs b None begin e h = rw e (omega arith)
measure_falls instrs b (Some c) begin e h = let less = latest_before instrs b c h in rw e (omega (arith, less))

pub within_next : (instrs : List Instr) (begins : List (Option ℕ)) (at b : ℕ) (o : Option ℕ) → b < length begins → b ≤ at → IsLatest instrs b o → IfSome o (λ k. (k < length begins) × (k ≤ at))
within_next instrs begins at b None l m h = tt
within_next instrs begins at b (Some c) l m h = let less = latest_before instrs b c h in (omega (arith, less, l), omega (arith, less, m))

-- ---- the first loop to end

abbrev IsFrom : ℕ → Option ℕ → Type 0
IsFrom f None = ⊥
IsFrom f (Some e) = e ≤ f

abbrev pub Meets : List Instr → ℕ → Option ℕ → Type 0
Meets instrs i end = (f : ℕ) → is_held_until instrs f i ≡ true → IsFrom f end

abbrev pub left_of : ℕ → Option ℕ → ℕ
left_of n None = 0
left_of n (Some e) = suc (n - e)

pub meets_first : (instrs : List Instr) (at : ℕ) → Meets instrs at (Some at)
meets_first instrs at f h = (until_holds instrs f at h).before

pub meets_none : (instrs : List Instr) (i : ℕ) → Meets instrs i None → IsSoonest instrs i None
meets_none instrs i c e = not_held (is_held_until instrs e i) (λ h. c e h)

pub meets_some : (instrs : List Instr) (i e : ℕ) → Meets instrs i (Some e) → is_held_until instrs e i ≡ true → IsSoonest instrs i (Some e)
meets_some instrs i e c h = (h, λ f l. not_held (is_held_until instrs f i) (λ held. let up : e ≤ f = c f held in omega (arith, l, up)))

-- A loop that holds i, and ends behind one that does not, holds the number behind that one's end.
onward : (instrs : List Instr) (i e f : ℕ) → i ≤ e → is_held_until instrs e i ≡ false → is_held_until instrs f i ≡ true → e ≤ f → is_held_until instrs f (e + 1) ≡ true
onward instrs i e f l none h up = by_place (cases_eq e f) where
  by_place : (e ≡ f) ⊎ (e ≡ f → ⊥) → is_held_until instrs f (e + 1) ≡ true
  by_place (inl same) = absurd (true≢false (sym h ∙ ap (λ k. is_held_until instrs k i) (sym same) ∙ none))
  by_place (inr ne) =
      let it = until_holds instrs f i h in
      let lo : it.begin < e + 1 = omega (arith, l, it.behind) in
      let hi : e + 1 ≤ it.loop.last = omega (arith, ne, up, it.ends) in
      subst (λ k. is_held_until instrs k (e + 1) ≡ true) it.ends (holds_until instrs it.begin (e + 1) it.loop it.there lo hi)

until_within : (instrs : List Instr) (f i : ℕ) → is_held_until instrs f i ≡ true → f < length instrs
until_within instrs f i h = let it = until_holds instrs f i h in subst (λ k. k < length instrs) it.ends (slice_get_within instrs it.loop.last _ (ends_of instrs it.begin it.loop it.there).last)

pub meets_next : (instrs : List Instr) (ends : List (Option ℕ)) (i e : ℕ) → length ends ≡ length instrs → AreSoonest instrs (i + 1) ends → i ≤ e → Meets instrs i (Some e) → is_held_until instrs e i ≡ false → Meets instrs i (entry ends (e + 1))
meets_next instrs ends i e all table l c none f h =
    let on = onward instrs i e f l none h (c f h) in
    let it = until_holds instrs f (e + 1) on in
    let inside : e + 1 < length ends = omega (arith, all, it.before, until_within instrs f (e + 1) on) in
    let there = element_at ends (e + 1) inside in
    let there_is = there.1 in
    rw there_is (by_entry there.0 on (table (e + 1) there.0 (omega (arith, l)) there.1)) where
      by_entry : (o : Option ℕ) → is_held_until instrs f (e + 1) ≡ true → IsSoonest instrs (e + 1) o → IsFrom f o
      by_entry None on soonest = true≢false (sym on ∙ soonest f)
      by_entry (Some d) on soonest = by_place (cases_lt f d) where
        by_place : (f < d) ⊎ (d ≤ f) → d ≤ f
        by_place (inl early) = absurd (true≢false (sym on ∙ soonest.1 f early))
        by_place (inr fine) = fine

-- an entry is at its number or behind, and within the part
pub entry_behind : (instrs : List Instr) (ends : List (Option ℕ)) (i e d : ℕ) → AreSoonest instrs (i + 1) ends → i ≤ e → entry ends (e + 1) ≡ Some d → (e < d) × (d < length instrs)
entry_behind instrs ends i e d table l h =
    let found = bound (λ (o : Option ℕ). o) (slice_get ends (e + 1)) d h in
    let soonest : IsSoonest instrs (e + 1) (Some d) = subst (λ o. IsSoonest instrs (e + 1) o) found.2 (table (e + 1) found.0 (omega (arith, l)) found.1) in
    let it = until_holds instrs d (e + 1) soonest.0 in
    (omega (arith, it.before), until_within instrs d (e + 1) soonest.0)

pub left_falls : (n e : ℕ) (o end : Option ℕ) → end ≡ Some e → ((d : ℕ) → o ≡ Some d → (e < d) × (d < n)) → left_of n o < left_of n end
left_falls n e None end is h = rw is (omega arith)
left_falls n e (Some d) end is h = let far = h d refl in rw is (omega (arith, far.0, far.1))

pub from_next : (i e : ℕ) (o : Option ℕ) → i ≤ e → ((d : ℕ) → o ≡ Some d → e < d) → IfSome o (λ d. i ≤ d)
from_next i e None l h = tt
from_next i e (Some d) l h = let far = h d refl in omega (arith, far, l)

set_here : {A : Type 0} (xs : List A) (k : ℕ) (x y : A) → slice_get (slice_set xs k x) k ≡ Some y → x ≡ y
set_here [] k x y e = absurd (none-some y e)
set_here (z ∷ zs) zero x y e = same_Some x y e
set_here (z ∷ zs) (suc k) x y e = set_here zs k x y e

set_there : {A : Type 0} (xs : List A) (k i : ℕ) (x : A) → (i ≡ k → ⊥) → slice_get (slice_set xs k x) i ≡ slice_get xs i
set_there [] k i x ne = refl
set_there (z ∷ zs) zero zero x ne = absurd (ne refl)
set_there (z ∷ zs) zero (suc i) x ne = refl
set_there (z ∷ zs) (suc k) zero x ne = refl
set_there (z ∷ zs) (suc k) (suc i) x ne = set_there zs k i x (λ e. ne (ap suc e))

-- one more entry, in front of those from n on
pub soonest_more : (instrs : List Instr) (ends : List (Option ℕ)) (n k : ℕ) (o : Option ℕ) → n ≡ k + 1 → AreSoonest instrs n ends → IsSoonest instrs k o → AreSoonest instrs k (slice_set ends k o)
soonest_more instrs ends n k o e table h i end l at = by_place (cases_eq i k) where
  by_place : (i ≡ k) ⊎ (i ≡ k → ⊥) → IsSoonest instrs i end
  by_place (inl same) =
      let here : slice_get (slice_set ends k o) k ≡ Some end = subst (λ j. slice_get (slice_set ends k o) j ≡ Some end) same at in
      let is : o ≡ end = set_here ends k o end here in
      subst (λ j. IsSoonest instrs j end) (sym same) (subst (IsSoonest instrs k) is h)
  by_place (inr ne) = table i end (omega (arith, e, l, ne)) (sym (set_there ends k i o ne) ∙ at)
