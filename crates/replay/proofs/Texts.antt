-- Texts of lines, each with its line feed.
use Rattle.std.proofs.Common.{◌≡◌, ◌≢◌, ◌==◌, ℕ, Bool, true, false, List, [], ◌∷◌, ◌++◌, refl, ap, sym, subst, ◌∙◌, append_assoc, append-nil}
use Rattle.std.proofs.lemmas.Bool.Decides.{Decides-eqb}
use Rattle.std.proofs.lemmas.Grind.{flat_map-append}
use Rattle.run_text.specs.ScheduleText.{Lacks}
use Rattle.run_text.specs.TraceText.{lines_text}

pub lines_append : (a b : List (List ℕ)) → lines_text (a ++ b) ≡ lines_text a ++ lines_text b
lines_append a b = flat_map-append (λ l. l ++ 10 ∷ []) a b

pub lines_first : (l : List ℕ) (ls : List (List ℕ)) → lines_text (l ∷ ls) ≡ l ++ 10 ∷ lines_text ls
lines_first l ls = append_assoc l (10 ∷ []) (lines_text ls)

pub lines_last : (ls : List (List ℕ)) (l : List ℕ) → lines_text (ls ++ l ∷ []) ≡ lines_text ls ++ (l ++ 10 ∷ [])
lines_last ls l = lines_append ls (l ∷ []) ∙ ap (λ x. lines_text ls ++ x) (append-nil (l ++ 10 ∷ []))

-- ---- texts that end with a line feed

abbrev pub IsEnded : List ℕ → Type 0
IsEnded [] = Unit {0}
IsEnded (x ∷ []) = x ≡ 10
IsEnded (x ∷ y ∷ xs) = IsEnded (y ∷ xs)

ended_rest : (x : ℕ) (xs : List ℕ) → IsEnded (x ∷ xs) → IsEnded xs
ended_rest x [] h = tt
ended_rest x (y ∷ ys) h = h

pub ended_behind : (l more : List ℕ) → IsEnded (l ++ 10 ∷ more) → IsEnded more
ended_behind [] more h = ended_rest 10 more h
ended_behind (x ∷ l) more h = ended_behind l more (ended_rest x (l ++ 10 ∷ more) h)

ended_line : (l more : List ℕ) → IsEnded more → IsEnded (l ++ 10 ∷ more)
ended_line [] [] h = refl
ended_line [] (x ∷ xs) h = h
ended_line (x ∷ []) more h = ended_line [] more h
ended_line (x ∷ y ∷ l) more h = ended_line (y ∷ l) more h

pub ended_lines : (ls : List (List ℕ)) → IsEnded (lines_text ls)
ended_lines [] = tt
ended_lines (l ∷ ls) = subst IsEnded (sym (lines_first l ls)) (ended_line l (lines_text ls) (ended_lines ls))

-- the first line of a text, and what is behind it
pub record Cut (text : List ℕ) : Type 0 where
  pub line : List ℕ
  pub behind : List ℕ
  pub is : text ≡ line ++ 10 ∷ behind
  pub unbroken : Lacks 10 line

same_ten : (b : Bool) (x : ℕ) → (x == 10) ≡ b → b ≡ true → x ≡ 10
same_ten b x e h = (Decides-eqb x 10).0 (e ∙ h)

other_ten : (b : Bool) (x : ℕ) → (x == 10) ≡ b → b ≡ false → x ≢ 10
other_ten b x e h same = let t = (Decides-eqb x 10).1 same in cc

cut_by : (b : Bool) (x : ℕ) (xs : List ℕ) → (x == 10) ≡ b → Cut xs → Cut (x ∷ xs)
cut_by true x xs e rest = record { line = []; behind = xs; is = ap (λ z. z ∷ xs) (same_ten true x e refl); unbroken = tt }
cut_by false x xs e rest = record { line = x ∷ rest.line; behind = rest.behind; is = ap (λ z. x ∷ z) rest.is; unbroken = (other_ten false x e refl, rest.unbroken) }

pub cut : (x : ℕ) (xs : List ℕ) → IsEnded (x ∷ xs) → Cut (x ∷ xs)
cut x [] h = record { line = []; behind = []; is = ap (λ z. z ∷ []) h; unbroken = tt }
cut x (y ∷ ys) h = cut_by (x == 10) x (y ∷ ys) refl (cut y ys h)
