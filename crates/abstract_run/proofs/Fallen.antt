-- A stop that takes back the sends that failed: each channel has them in flight, at its end.
use Rattle.std.proofs.Common.{inl, inr, ◌≡◌, ◌+◌, ◌-◌, ◌≤◌, ◌==◌, ℕ, zero, suc, Bool, true, false, List, [], ◌∷◌, take, map, length, refl, ap, sym, subst, ◌∙◌, Option, Some, None, if◌then◌else◌, arith}
use Rattle.std.specs.Prelude.{count_by, ◌⊎◌}
use Rattle.std.proofs.lemmas.Bool.{eqb-true, eqb-false, eq-eqb}
use Rattle.std.proofs.lemmas.List.{length-take}
use Rattle.std.proofs.lemmas.List.Sums.{sum_by-cons}
use Rattle.std.proofs.lemmas.Option.{option_and_then_some}
use Rattle.tap_base.specs.Lists.{Each}
use Rattle.tap_base.proofs.ListFacts.{each_of}
use Rattle.byte_meaning.specs.declared.cell.Cell.{Cell}
use Rattle.abstract_run.specs.declared.state.Channel.{Channel}
use Rattle.abstract_run.specs.Channels.{changed_at, joins, last_gone, on_channel, place_of, taken_back}
use Rattle.abstract_run.specs.Fits.{IsFitChannel}
use Rattle.abstract_run.proofs.Found.{flying}
use Rattle.abstract_run.proofs.OnChannel.{Ends, Left, changed, changed_each, changed_map, count, count_next, here, joined, joins_by, joins_not_to, later, left_by, on_channel_is}
use Rattle.abstract_run.proofs.Roomy.{CanChange, Joined, changed_can}
use Rattle.abstract_run.proofs.Sent.{counts, flying_here, flying_later}

abbrev pub going : Channel → Option Channel
going c = Some (last_gone c)

pub goes : (c d : Channel) → going c ≡ Some d → d ≡ last_gone c
goes c d e = cc

-- ---- one that goes

-- what is left where a cell from q to r was in flight
record Shrinks (q r : ℕ) (cs ds : List Channel) : Type 0 where
  fit : Each IsFitChannel ds
  counted : count ds + 1 ≡ count cs
  flies : (p : ℕ) → flying q p ds + counts r p ≡ flying q p cs

shorter : (c : Channel) → length (last_gone c).cells ≡ length c.cells - 1
shorter c = omega (arith, length-take (length c.cells - 1) c.cells)

same_ends : (q p : ℕ) (c d : Channel) → going c ≡ Some d → joins q p d ≡ joins q p c
same_ends q p c d e = ap (joins q p) (goes c d e)

shrinks_here : (q r : ℕ) (c d : Channel) (cs : List Channel) → Each IsFitChannel (c ∷ cs) → joins q r c ≡ true → going c ≡ Some d → 1 ≤ flying q r (c ∷ cs) → Shrinks q r (c ∷ cs) (d ∷ cs)
shrinks_here q r c d cs fit is e some = record {
  fit = (subst IsFitChannel (sym (goes c d e)) (omega (arith, most, less), omega (arith, mark, flown, less)), fit.1);
  counted = subst (λ (x : Channel). count (x ∷ cs) + 1 ≡ count (c ∷ cs)) (sym (goes c d e)) (omega (arith, mark, flown, less, count_next (last_gone c) cs, count_next c cs));
  flies = λ p. by_test p (r == p) refl;
} where
  ends : (c.from ≡ q) × (c.to ≡ r)
  ends = joined q r c is

  less : length (last_gone c).cells ≡ length c.cells - 1
  less = shorter c

  most : length c.cells ≤ 4294967295
  most = fit.0.0

  mark : c.mark ≤ length c.cells
  mark = fit.0.1

  flown : 1 ≤ length c.cells - c.mark
  flown = subst (λ n. 1 ≤ n) (flying_here q r c cs is) some

  behind : length d.cells - d.mark + 1 ≡ length c.cells - c.mark
  behind = subst (λ (x : Channel). length x.cells - x.mark + 1 ≡ length c.cells - c.mark) (sym (goes c d e)) (omega (arith, mark, flown, less))

  by_test : (p : ℕ) (b : Bool) → (r == p) ≡ b → flying q p (d ∷ cs) + (if b then 1 else 0) ≡ flying q p (c ∷ cs)
  by_test p true same =
      let at : joins q p c ≡ true = joins_by q p c ends.0 (ends.1 ∙ eqb-true r p same) in
      ap (λ n. n + 1) (flying_here q p d cs (same_ends q p c d e ∙ at)) ∙ behind ∙ sym (flying_here q p c cs at)
  by_test p false other =
      let not : joins q p c ≡ false = joins_not_to q p c (λ to. eqb-false r p other (sym ends.1 ∙ to)) in
      ap (λ n. n + 0) (flying_later q p d cs (same_ends q p c d e ∙ not) ∙ sym (flying_later q p c cs not)) ∙ omega arith

shrinks_later : (q r : ℕ) (c : Channel) (cs es : List Channel) → IsFitChannel c → joins q r c ≡ false → Shrinks q r cs es → Shrinks q r (c ∷ cs) (c ∷ es)
shrinks_later q r c cs es fit is more = record {
  fit = (fit, more.fit);
  counted = let less = more.counted in omega (arith, less, count_next c es, count_next c cs);
  flies = λ p. by_test p (joins q p c) refl;
} where
  by_number : (p : ℕ) (b : Bool) → joins q p c ≡ true → (r == p) ≡ b → ◌≡◌ {A = ℕ} (if b then 1 else 0) 0
  by_number p false at other = refl
  by_number p true at same = let ends = joined q p c at in let yes = joins_by q r c ends.0 (ends.1 ∙ sym (eqb-true r p same)) in cc

  by_test : (p : ℕ) (b : Bool) → joins q p c ≡ b → flying q p (c ∷ es) + counts r p ≡ flying q p (c ∷ cs)
  by_test p true at =
      let none : counts r p ≡ 0 = by_number p (r == p) at refl in
      ap (λ n. n + counts r p) (flying_here q p c es at ∙ sym (flying_here q p c cs at)) ∙ omega (arith, none)
  by_test p false at = ap (λ n. n + counts r p) (flying_later q p c es at) ∙ more.flies p ∙ sym (flying_later q p c cs at)

shrinks : (q r : ℕ) (cs ds : List Channel) → Each IsFitChannel cs → 1 ≤ flying q r cs → changed q r going cs ≡ Some ds → Shrinks q r cs ds
shrinks q r [] ds fit some e = cc
shrinks q r (c ∷ cs) ds fit some e = by_place (left_by q r going c cs ds e) (λ es less done. shrinks q r cs es fit.1 less done) where
  by_place : Left q r going c cs ds → ((es : List Channel) → 1 ≤ flying q r cs → changed q r going cs ≡ Some es → Shrinks q r cs es) → Shrinks q r (c ∷ cs) ds
  by_place (here d is done same) more = subst (Shrinks q r (c ∷ cs)) (sym same) (shrinks_here q r c d cs fit is done some)
  by_place (later es is done same) more =
      subst (Shrinks q r (c ∷ cs)) (sym same) (shrinks_later q r c cs es fit.0 is (more es (subst (λ n. 1 ≤ n) (flying_later q r c cs is) some) done))

-- ---- all that go

-- each receiver has as many cells in flight as it is named
abbrev pub Flies : ℕ → List ℕ → List Channel → Type 0
Flies q rs cs = (p : ℕ) → count_by (λ r. r == p) rs ≤ flying q p cs

named : (r p : ℕ) (rs : List ℕ) → count_by (λ x. x == p) (r ∷ rs) ≡ counts r p + count_by (λ x. x == p) rs
named r p rs = sum_by-cons (λ x. if x == p then 1 else 0) r rs

first_flies : (q r : ℕ) (rs : List ℕ) (cs : List Channel) → Flies q (r ∷ rs) cs → 1 ≤ flying q r cs
first_flies q r rs cs h = let few = h r in let one : counts r r ≡ 1 = (let same = eq-eqb r r refl in rw same refl) in omega (arith, few, one, named r r rs)

others_fly : (q r : ℕ) (rs : List ℕ) (cs ds : List Channel) → Flies q (r ∷ rs) cs → Shrinks q r cs ds → Flies q rs ds
others_fly q r rs cs ds h x = λ p. let few = h p in let less = x.flies p in omega (arith, few, less, named r p rs)

-- what is left of the channels; what `P` says of each stays where its last cell goes
pub record TakenBack (P : Channel → Type 0) (rs : List ℕ) (cs ds : List Channel) : Type 0 where
  pub fit : Each IsFitChannel ds
  pub counted : count ds + length rs ≡ count cs
  pub ends : Ends ds cs
  pub each : Each P ds

ends_one : (q r : ℕ) (cs ds : List Channel) → changed q r going cs ≡ Some ds → Ends ds cs
ends_one q r cs ds e = (
  changed_map (λ c. c.from) q r going (λ c d h. ap (λ (x : Channel). x.from) (goes c d h)) cs ds e,
  changed_map (λ c. c.to) q r going (λ c d h. ap (λ (x : Channel). x.to) (goes c d h)) cs ds e,
)

each_one : (P : Channel → Type 0) → ((c : Channel) → P c → P (last_gone c)) → (q r : ℕ) (cs ds : List Channel) → Each P cs → changed q r going cs ≡ Some ds → Each P ds
each_one P k q r cs ds h e = changed_each P q r going (λ c d f j done. subst P (sym (goes c d done)) (k c f)) cs ds h e

pub all_taken_back : (P : Channel → Type 0) → ((c : Channel) → P c → P (last_gone c)) → (q : ℕ) (rs : List ℕ) (cs ds : List Channel) → Each IsFitChannel cs → Each P cs → Flies q rs cs
    → taken_back q rs cs ≡ Some ds → TakenBack P rs cs ds
all_taken_back P k q [] cs ds fit g h e = let same : cs ≡ ds = cc in subst (TakenBack P [] cs) same (record { fit = fit; counted = omega arith; ends = (refl, refl); each = g })
all_taken_back P k q (r ∷ rs) cs ds fit g h e =
    option_and_then_some (taken_back q rs) (on_channel q r going cs) ds e (λ mid is done.
    let first = sym (on_channel_is q r going cs) ∙ is in
    let x = shrinks q r cs mid fit (first_flies q r rs cs h) first in
    let y = all_taken_back P k q rs mid ds x.fit (each_one P k q r cs mid g first) (others_fly q r rs cs mid h x) done in
    let one = ends_one q r cs mid first in
    let less = x.counted in
    let rest = y.counted in
    record {
      fit = y.fit;
      counted = omega (arith, less, rest);
      ends = (y.ends.0 ∙ one.0, y.ends.1 ∙ one.1);
      each = y.each;
    })

-- ---- it can be done

flies_joined : (q r : ℕ) (cs : List Channel) → 1 ≤ flying q r cs → Joined q r cs
flies_joined q r [] h = absurd (omega (arith, h))
flies_joined q r (c ∷ cs) h = by_test (joins q r c) refl (λ some. flies_joined q r cs some) where
  by_test : (b : Bool) → joins q r c ≡ b → (1 ≤ flying q r cs → Joined q r cs) → (joins q r c ≡ true) ⊎ Joined q r cs
  by_test true is more = inl is
  by_test false is more = inr (more (subst (λ n. 1 ≤ n) (flying_later q r c cs is) h))

pub can_take_back : (q : ℕ) (rs : List ℕ) (cs : List Channel) → Each IsFitChannel cs → Flies q rs cs → (ds : List Channel) × (taken_back q rs cs ≡ Some ds)
can_take_back q [] cs fit h = (cs, refl)
can_take_back q (r ∷ rs) cs fit h =
    let some = first_flies q r rs cs h in
    let one = changed_can q r going cs (flies_joined q r cs some) (each_of (CanChange going) cs (λ c. (last_gone c, refl))) in
    let x = shrinks q r cs one.0 fit some one.1 in
    let rest = can_take_back q rs one.0 x.fit (others_fly q r rs cs one.0 h x) in
    let first : on_channel q r going cs ≡ Some one.0 = on_channel_is q r going cs ∙ one.1 in
    let later = rest.1 in
    (rest.0, rw first later)

-- the receivers behind the first
pub back_rest : (q r k : ℕ) (rs ls : List ℕ) (cs ds : List Channel) → ls ≡ r ∷ rs → place_of q r cs ≡ Some k → changed_at k going cs ≡ Some ds → taken_back q ls cs ≡ taken_back q rs ds
back_rest q r k rs ls cs ds e at done = ap (λ xs. taken_back q xs cs) e ∙ rw (at, done) refl
