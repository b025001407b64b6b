-- A text that begins with a line, or does not.
use Rattle.std.proofs.Common.{◌≡◌, ◌≤◌, ◌<◌, ◌+◌, ◌-◌, ◌==◌, ℕ, Bool, true, List, [], ◌∷◌, ◌++◌, length, take, drop, get_or, ap, sym, ◌∙◌, arith}
use Rattle.std.specs.Str.{bytes_eq}
use Rattle.std.proofs.lemmas.Slice.Eq.{bytes_eq-Decides}
use Rattle.std.proofs.lemmas.Bool.Decides.{Decides-eqb}
use Rattle.std.proofs.lemmas.List.{nil_from_length, take-append-drop, take_all}
use Rattle.std.proofs.Math.Seq.{drop-append-add, drop-append_seam, take-append_seam}

tail_there : (tail : List ℕ) → 0 < length tail → get_or tail 0 0 ≡ 10 → tail ≡ 10 ∷ take (length tail - 1) (drop 1 tail)
tail_there [] some e = absurd (omega arith)
tail_there (x ∷ xs) some e = let all : length xs ≤ length (x ∷ xs) - 1 = omega arith in ap (λ z. z ∷ xs) e ∙ ap (λ zs. 10 ∷ zs) (sym (take_all (length (x ∷ xs) - 1) xs all))

pub line_there : (text line head tail : List ℕ) → text ≡ head ++ tail → head ≡ line → 0 < length tail → get_or tail 0 0 ≡ 10 → text ≡ line ++ 10 ∷ take (length tail - 1) (drop 1 tail)
line_there text line head tail whole same some e = whole ∙ ap (λ z. z ++ tail) same ∙ ap (λ z. line ++ z) (tail_there tail some e)

pub head_there : (text line head rest : List ℕ) → head ≡ take (length line) text → text ≡ line ++ 10 ∷ rest → head ≡ line
head_there text line head rest front e = front ∙ ap (take (length line)) e ∙ take-append_seam line (10 ∷ rest)

pub feed_there : (text line tail rest : List ℕ) → tail ≡ drop (length line) text → text ≡ line ++ 10 ∷ rest → get_or tail 0 0 ≡ 10
feed_there text line tail rest back e = ap (λ z. get_or z 0 0) (back ∙ ap (drop (length line)) e ∙ drop-append_seam line (10 ∷ rest))

pub halves : (text head tail : List ℕ) (n : ℕ) → head ≡ take n text → tail ≡ drop n text → text ≡ head ++ tail
halves text head tail n front back = sym (take-append-drop n text) ∙ ap (λ z. z ++ drop n text) (sym front) ∙ ap (λ z. head ++ z) (sym back)

pub behind_first : (text line rest : List ℕ) → text ≡ line ++ 10 ∷ rest → drop (length line + 1) text ≡ rest
behind_first text line rest e = ap (drop (length line + 1)) e ∙ drop-append-add line (10 ∷ rest) 1

pub eq_there : (b : Bool) (xs ys : List ℕ) → b ≡ bytes_eq xs ys → xs ≡ ys → b ≡ true
eq_there b xs ys e same = e ∙ (bytes_eq-Decides xs ys).1 same

pub none_there : (b : Bool) (xs ys : List ℕ) → b ≡ true → b ≡ (length xs == 0) → xs ≡ ys → ys ≡ []
none_there b xs ys h e same = sym same ∙ nil_from_length xs ((Decides-eqb (length xs) 0).0 (sym e ∙ h))
