-- The places of the numbers that are 1.
use Rattle.std.proofs.Common.{◌≡◌, ◌+◌, ◌<◌, ◌≤◌, ℕ, zero, suc, ℤ, pos, if◌then◌else◌, List, [], ◌∷◌, drop, length, map, refl, ap, sym, subst, ◌∙◌, slice_get, Some, arith}
use Rattle.std.specs.Ordering.{int_eq}
use Rattle.tap_base.proofs.ListFacts.{cut_at}
use Rattle.std.specs.Option.{option_map}
use Rattle.std.proofs.lemmas.List.{length-map}
use Rattle.std.proofs.lemmas.Option.{slice_get-map}
use Rattle.rand_pcg.specs.Lcg.{Lcg}
use Rattle.drawn_choices.specs.Draws.{drawn, option_drawn}
use Rattle.register_code.specs.Instructions.{ones}
use Rattle.code_steps.specs.Holding.{Held}
use Rattle.drawn_steps.specs.Boxes.{Boxed}
use Rattle.drawn_steps.specs.Drawing.{Selects, TakesNone, TakesOption}

pub ones_at : (i : ℕ) (xs : List ℤ) (x : ℤ) → slice_get xs i ≡ Some x → ones i (drop i xs) ≡ (if int_eq x (pos 1) then i ∷ ones (i + 1) (drop (i + 1) xs) else ones (i + 1) (drop (i + 1) xs))
ones_at i xs x at = let e = cut_at xs i x at in rw e refl

drop_past : (n : ℕ) (ys : List ℤ) → length ys ≤ n → drop n ys ≡ []
drop_past zero [] l = refl
drop_past (suc n) [] l = refl
drop_past zero (y ∷ ys) l = absurd (omega (arith, l))
drop_past (suc n) (y ∷ ys) l = drop_past n ys (omega (arith, l))

pub none_behind : (i : ℕ) (xs : List ℤ) → length xs ≤ i → ones i (drop i xs) ≡ []
none_behind i xs past = let none = drop_past i xs past in rw none refl

-- what a word takes of the places
pub drawn_one : (ks : List ℕ) (word many place k : ℕ) → many ≡ length ks → place ≡ drawn word many → slice_get ks place ≡ Some k → option_drawn (map pos ks) word ≡ Some (pos k)
drawn_one ks word many place k e f at =
    ap (λ (n : ℕ). slice_get (map pos ks) (drawn word n)) (length-map ks pos ∙ sym e) ∙ ap (λ (n : ℕ). slice_get (map pos ks) n) (sym f) ∙ slice_get-map pos ks place ∙ ap (option_map pos) at

-- ---- by how many there are

pub selects_none : (r count : ℕ) (ks : List ℕ) (before after : Held) (box box_after : Boxed) (g g_after : Lcg) → length ks ≡ 0 → TakesNone (pos count) r before after box box_after g g_after → Selects r count ks before after box box_after g g_after
selects_none r count [] before after box box_after g g_after e t = t
selects_none r count (k ∷ ks) before after box box_after g g_after e t = absurd (omega (arith, e))

pub selects_one : (r count k : ℕ) (ks : List ℕ) (before after : Held) (box box_after : Boxed) (g g_after : Lcg) → length ks ≡ 1 → slice_get ks 0 ≡ Some k → TakesNone (pos k) r before after box box_after g g_after → Selects r count ks before after box box_after g g_after
selects_one r count k [] before after box box_after g g_after e at t = absurd (omega (arith, e))
selects_one r count k (l ∷ []) before after box box_after g g_after e at t = let same : k ≡ l = cc in subst (λ (j : ℕ). TakesNone (pos j) r before after box box_after g g_after) same t
selects_one r count k (l ∷ n ∷ ks) before after box box_after g g_after e at t = absurd (omega (arith, e))

pub selects_more : (r count : ℕ) (ks : List ℕ) (before after : Held) (box box_after : Boxed) (g g_after : Lcg) → 1 < length ks → TakesOption (map pos ks) r before after box box_after g g_after → Selects r count ks before after box box_after g g_after
selects_more r count [] before after box box_after g g_after l t = absurd (omega (arith, l))
selects_more r count (k ∷ []) before after box box_after g g_after l t = absurd (omega (arith, l))
selects_more r count (k ∷ j ∷ ks) before after box box_after g g_after l t = t
