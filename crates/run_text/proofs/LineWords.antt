-- Words that a separator stands between are found again.
use Rattle.std.proofs.Common.{◌≡◌, ℕ, List, [], ◌∷◌, ◌++◌, refl, ap, sym, ◌∙◌}
use Rattle.std.specs.Prelude.{flat_map}
use Rattle.tap_base.specs.Lists.{Each}
use Rattle.run_text.specs.ScheduleText.{Lacks}

-- nothing, or the separator first
pub data Ends (b : ℕ) : List ℕ → Type 0 where
  over : Ends b []
  more : {xs : List ℕ} → Ends b (b ∷ xs)

head_same : {A : Type 0} (x y : A) (xs ys : List A) → x ∷ xs ≡ y ∷ ys → (x ≡ y) × (xs ≡ ys)
head_same x y xs ys e = (cc, cc)

pub split : (b : ℕ) (w v r t : List ℕ) → Lacks b w → Lacks b v → Ends b r → Ends b t → w ++ r ≡ v ++ t → (w ≡ v) × (r ≡ t)
split b [] [] r t h k d e same = (refl, same)
split b [] (y ∷ v) [] t h k over e same = cc
split b [] (y ∷ v) (x ∷ r) t h k more e same = absurd (k.0 (sym (head_same _ _ _ _ same).0))
split b (x ∷ w) [] r [] h k d over same = cc
split b (x ∷ w) [] r (y ∷ t) h k d more same = absurd (h.0 (head_same _ _ _ _ same).0)
split b (x ∷ w) (y ∷ v) r t h k d e same =
    let heads = head_same x y (w ++ r) (v ++ t) same in
    let rest = split b w v r t h.1 k.1 d e heads.1 in
    (ap (λ z. z ∷ w) heads.0 ∙ ap (λ z. y ∷ z) rest.0, rest.1)

-- words, each behind the separator
abbrev pub behind : ℕ → List (List ℕ) → List ℕ
behind b ws = flat_map (λ w. b ∷ w) ws

behind_ends : (b : ℕ) (ws : List (List ℕ)) → Ends b (behind b ws)
behind_ends b [] = over
behind_ends b (w ∷ ws) = more

pub words_same : (b : ℕ) (ws vs : List (List ℕ)) → Each (Lacks b) ws → Each (Lacks b) vs → behind b ws ≡ behind b vs → ws ≡ vs
words_same b [] [] h k same = refl
words_same b [] (v ∷ vs) h k same = cc
words_same b (w ∷ ws) [] h k same = cc
words_same b (w ∷ ws) (v ∷ vs) h k same =
    let both = split b w v (behind b ws) (behind b vs) h.0 k.0 (behind_ends b ws) (behind_ends b vs) (head_same _ _ _ _ same).1 in
    ap (λ z. z ∷ ws) both.0 ∙ ap (λ z. v ∷ z) (words_same b ws vs h.1 k.1 both.1)

-- a first word, and words behind it
pub spaced_same : (w v : List ℕ) (ws vs : List (List ℕ)) → Lacks 32 w → Lacks 32 v → Each (Lacks 32) ws → Each (Lacks 32) vs
    → w ++ behind 32 ws ≡ v ++ behind 32 vs → (w ≡ v) × (ws ≡ vs)
spaced_same w v ws vs h k hs ks same =
    let both = split 32 w v (behind 32 ws) (behind 32 vs) h k (behind_ends 32 ws) (behind_ends 32 vs) same in
    (both.0, words_same 32 ws vs hs ks both.1)

-- lines, each with its line feed: the first line of a text and what is behind it
pub lines_split : (l m r t : List ℕ) → Lacks 10 l → Lacks 10 m → l ++ 10 ∷ r ≡ m ++ 10 ∷ t → (l ≡ m) × (r ≡ t)
lines_split l m r t h k same =
    let both = split 10 l m (10 ∷ r) (10 ∷ t) h k more more same in (both.0, (head_same _ _ _ _ both.1).1)
