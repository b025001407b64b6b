-- A word is the seed that it spells, and is none where it spells none.
use Rattle.std.proofs.Common.{◌≡◌, ◌<◌, ◌^◌, ◌&&◌, ℕ, true, List, [], ◌∷◌, ◌++◌, Option, Some, None, MatchOption, length, drop, get_or, refl, ap, sym, subst, ◌∙◌, arith, ne_eqb, ◌+◌}
use Rattle.std.specs.Prelude.{nat_lt}
use Rattle.std.specs.Fmt.{decimal}
use Rattle.std.specs.Str.{bytes_eq}
use Rattle.std.specs.Str.Parse.{digits_value}
use Rattle.std.proofs.lemmas.Bool.Decides.{nat_tests}
use Rattle.std.proofs.lemmas.Fmt.{decimal_is_IsNumeral}
use Rattle.std.proofs.lemmas.Option.{cond_some}
use Rattle.std.proofs.lemmas.Slice.Eq.{bytes_eq-Decides}
use Rattle.tap_base.specs.Option.{◌>>=◌, provided}
use Rattle.tap_base.proofs.ListFacts.{cut_at_item}
use Rattle.tap_base.proofs.OffenceFacts.{both_true}
use Rattle.run_text.specs.Operands.{IsLongWord}
use Rattle.run_text.specs.Reads.{NothingIs}
use Rattle.tap_settings.specs.inner.Reading.{Lacks}
use Rattle.tapc_core.specs.SeedWords.{natural_in, one_seed, seed_in, seed_listed, seeds_among}
use Rattle.tapc_core.specs.SettingWords.{cut_at}
use Rattle.tapc_core.proofs.SettingWords.{cut_joined}

-- ---- numbers

natural_here : (word : List ℕ) (n : ℕ) → IsLongWord word n → natural_in word ≡ Some n
natural_here word n w =
    let read : digits_value 10 word ≡ n = ap (digits_value 10) w.1 ∙ (decimal_is_IsNumeral n w.0).1 in
    let small : nat_lt n (2 ^ 64) ≡ true = let l = w.0 in grind (arith, nat_tests) in
    let same : bytes_eq word (decimal n) ≡ true = (bytes_eq-Decides word (decimal n)).1 w.1 in
    rw (read, small, same) refl

natural_is : (word : List ℕ) (n : ℕ) → natural_in word ≡ Some n → IsLongWord word n
natural_is word n e =
    let m = digits_value 10 word in
    let k = cond_some (nat_lt m (2 ^ 64) && bytes_eq word (decimal m)) m n e in
    let b = both_true (nat_lt m (2 ^ 64)) (bytes_eq word (decimal m)) k.0 in
    let small : m < 2 ^ 64 = let l = b.0 in grind (arith, nat_tests) in
    subst (IsLongWord word) k.1 (small, (bytes_eq-Decides word (decimal m)).0 b.1)

-- what is found of a word is the number that it writes
pub natural_found : (word : List ℕ) (o : Option ℕ) → MatchOption o (NothingIs (IsLongWord word)) (IsLongWord word) → o ≡ natural_in word
natural_found word (Some n) s = sym (natural_here word n s)
natural_found word None none = sym (nothing (natural_in word) refl) where
  nothing : (o : Option ℕ) → natural_in word ≡ o → o ≡ None
  nothing None e = refl
  nothing (Some n) e = absurd (none n (natural_is word n e))

-- ---- cuts

cut_none : (mark : ℕ) (word : List ℕ) → Lacks mark word → cut_at mark word ≡ None
cut_none mark [] h = refl
cut_none mark (b ∷ bs) h = let rest = cut_none mark bs h.1 in rw (ne_eqb b mark h.0, rest) refl

-- where there is no `=`
pub uncut : (word : List ℕ) → Lacks 61 word → seed_in word ≡ None
uncut word h = let none = cut_none 61 word h in rw none refl

-- the seed by what stands before the first `=` and behind it
pub cut_seed : (word name number : List ℕ) → word ≡ name ++ 61 ∷ number → Lacks 61 name → seed_in word ≡ (natural_in number >>= λ seed. provided (bytes_eq name (115 ∷ 101 ∷ 101 ∷ 100 ∷ [])) seed)
cut_seed word name number e h = let parts = ap (cut_at 61) e ∙ cut_joined 61 name number h in rw parts refl

-- ---- many words

module _ (words : List (List ℕ)) (i : ℕ) (w : List ℕ) (l : i < length words) (q : w ≡ get_or words i w) where
  -- the words from one on
  pub seeds_on : (found : List ℕ) → one_seed (found ++ seeds_among (drop i words)) ≡ one_seed (found ++ (seed_listed (seed_in w) ++ seeds_among (drop (i + 1) words)))
  seeds_on found = ap (λ z. one_seed (found ++ seeds_among z)) (cut_at_item words i w l q)
