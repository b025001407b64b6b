-- The first line of a text.
use Rattle.std.proofs.Common.{◌≡◌, ◌≢◌, ◌==◌, ℕ, Bool, true, false, inl, inr, List, [], ◌∷◌, ◌++◌, refl, ap, sym, subst, ◌∙◌}
use Rattle.std.proofs.lemmas.Bool.Decides.{Decides-eqb}
use Rattle.run_text.specs.ScheduleText.{IsFirstLine, Lacks}
use Rattle.run_text.proofs.LineWords.{lines_split}

pub record First (text : List ℕ) : Type 0 where
  pub line : List ℕ
  pub behind : List ℕ
  pub first : IsFirstLine text line behind
  pub whole : Lacks 10 line

longer : (x : ℕ) (xs line behind : List ℕ) → IsFirstLine xs line behind → IsFirstLine (x ∷ xs) (x ∷ line) behind
longer x xs line behind (inl split) = inl (ap (λ z. x ∷ z) split)
longer x xs line behind (inr none) = inr (ap (λ z. x ∷ z) none.0, none.1)

first_by : (b : Bool) (x : ℕ) (xs : List ℕ) → (x == 10) ≡ b → First xs → First (x ∷ xs)
first_by true x xs e f = record { line = []; behind = xs; first = inl (ap (λ z. z ∷ xs) ((Decides-eqb x 10).0 e)); whole = tt }
first_by false x xs e f =
    let other : x ≢ 10 = λ same. (let yes = (Decides-eqb x 10).1 same in cc) in
    record { line = x ∷ f.line; behind = f.behind; first = longer x xs f.line f.behind f.first; whole = (other, f.whole) }

pub first_of : (text : List ℕ) → First text
first_of [] = record { line = []; behind = []; first = inr (refl, refl); whole = tt }
first_of (x ∷ xs) = first_by (x == 10) x xs refl (first_of xs)

lacks_feed : (P : Type 0) (line after : List ℕ) → Lacks 10 (line ++ 10 ∷ after) → P
lacks_feed P [] after h = absurd (h.0 refl)
lacks_feed P (x ∷ xs) after h = lacks_feed P xs after h.1

-- a text has one first line
pub one_first : (text line after other behind : List ℕ) → IsFirstLine text line after → Lacks 10 line → IsFirstLine text other behind → Lacks 10 other → (line ≡ other) × (after ≡ behind)
one_first text line after other behind (inl e) h (inl f) k = lines_split line other after behind h k (sym e ∙ f)
one_first text line after other behind (inl e) h (inr f) k = lacks_feed _ line after (subst (Lacks 10) (sym f.0 ∙ e) k)
one_first text line after other behind (inr e) h (inl f) k = lacks_feed _ other behind (subst (Lacks 10) (sym e.0 ∙ f) h)
one_first text line after other behind (inr e) h (inr f) k = (sym e.0 ∙ f.0, e.1 ∙ sym f.1)
