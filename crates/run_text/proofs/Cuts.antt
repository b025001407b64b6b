-- Words are found again in their line.
use Rattle.std.proofs.Common.{◌≡◌, ◌<◌, ◌==◌, ℕ, zero, suc, false, List, [], ◌∷◌, ◌++◌, length, drop, get_or, take, refl, ap, ◌∙◌, arith, append-nil, ne_eqb}
use Rattle.std.specs.Prelude.{flat_map}
use Rattle.std.specs.List.{All, join_with_byte}
use Rattle.std.proofs.lemmas.List.Splits.{join_with_byte-slice_split, slice_split_at, slice_split_none}
use Rattle.tap_base.specs.LineWords.{IsWord}
use Rattle.tap_base.specs.Lists.{Each}
use Rattle.run_text.specs.Operands.{words_of}
use Rattle.run_text.specs.ScheduleText.{Lacks}
use Rattle.run_text.specs.TraceText.{line_of}
use Rattle.run_text.proofs.LineLabels.{spaceless}

-- a line of words is the words, joined by spaces
joined_behind : (w : List ℕ) (ws : List (List ℕ)) → w ++ flat_map (λ v. 32 ∷ v) ws ≡ join_with_byte 32 (w ∷ ws)
joined_behind w [] = append-nil w
joined_behind w (v ∷ vs) = ap (λ x. w ++ 32 ∷ x) (joined_behind v vs)

line_joined : (ws : List (List ℕ)) → line_of ws ≡ join_with_byte 32 ws
line_joined [] = refl
line_joined (w ∷ ws) = joined_behind w ws

pub joined : (line : List ℕ) → line_of (words_of line) ≡ line
joined line = line_joined (words_of line) ∙ join_with_byte-slice_split 32 line

no_space : (w : List ℕ) → Lacks 32 w → All (λ x. (x == 32) ≡ false) w
no_space [] h k d there = absurd (omega (arith, there))
no_space (x ∷ xs) h zero d there = ne_eqb x 32 (λ e. h.0 e)
no_space (x ∷ xs) h (suc k) d there = no_space xs h.1 k d (omega (arith, there))

-- a line is cut at its first space
pub cut_at : (line word rest : List ℕ) → line ≡ word ++ 32 ∷ rest → Lacks 32 word → words_of line ≡ word ∷ words_of rest
cut_at line word rest e h = ap words_of e ∙ slice_split_at (λ b. b == 32) word 32 rest (no_space word h) refl

-- or is one word
pub cut_none : (line : List ℕ) → Lacks 32 line → words_of line ≡ line ∷ []
cut_none line h = slice_split_none (λ b. b == 32) line (no_space line h)

cut_joined : (w : List ℕ) (ws : List (List ℕ)) → Each IsWord (w ∷ ws) → words_of (join_with_byte 32 (w ∷ ws)) ≡ w ∷ ws
cut_joined w [] h = cut_none w (spaceless w h.0)
cut_joined w (v ∷ ws) h = cut_at _ w (join_with_byte 32 (v ∷ ws)) refl (spaceless w h.0) ∙ ap (λ z. w ∷ z) (cut_joined v ws h.1)

-- words, cut out of their line
pub cut_back : (w : List ℕ) (ws : List (List ℕ)) → Each IsWord (w ∷ ws) → words_of (line_of (w ∷ ws)) ≡ w ∷ ws
cut_back w ws h = ap words_of (line_joined (w ∷ ws)) ∙ cut_joined w ws h

-- a list is its front where the front is shorter than it may be
pub whole_front : {A : Type 0} (n : ℕ) (xs ys : List A) → take n xs ≡ ys → length ys < n → xs ≡ ys
whole_front zero xs ys e h = absurd (omega (arith, h))
whole_front (suc n) [] ys e h = e
whole_front (suc n) (x ∷ xs) [] e h = cc
whole_front (suc n) (x ∷ xs) (y ∷ ys) e h =
    ap (λ z. z ∷ xs) (ap (λ w. get_or w 0 x) e) ∙ ap (λ z. y ∷ z) (whole_front n xs ys (ap (drop 1) e) (omega (arith, h)))
