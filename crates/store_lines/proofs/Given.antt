-- Which lines are given.
use Rattle.std.proofs.Common.{◌≡◌, ◌≢◌, ◌⊎◌, ◌≤◌, ◌<◌, ℕ, inl, inr, List, [], ◌∷◌, ◌++◌, length, refl, ap, sym, subst, ◌∙◌, arith, append_assoc}
use Rattle.std.proofs.lemmas.Bool.{cases_lt}
use Rattle.run_text.specs.ScheduleText.{IsFirstLine}
use Rattle.run_text.specs.TraceText.{lines_text}
use Rattle.store_lines.specs.Laws.{AreGiven, HasLine, InOrder, IsGiven, OneAnswer}
use Rattle.store_lines.specs.Lines.{BeginsTooLong, BeginsWithLine, most_bytes}
use Rattle.store_lines.proofs.FirstLines.{First, first_of, one_first}

-- ---- the first line

is_first : (bytes line after : List ℕ) → BeginsWithLine bytes line after → IsFirstLine bytes line after
is_first bytes line after (inl e) = inl e
is_first bytes line after (inr e) = inr (e.0, e.2)

begins : (bytes line after : List ℕ) → bytes ≢ [] → IsFirstLine bytes line after → BeginsWithLine bytes line after
begins bytes line after some (inl e) = inl e
begins bytes line after some (inr e) = inr (e.0, (λ none. some (e.0 ∙ none)), e.1)

by_length : (bytes : List ℕ) → bytes ≢ [] → (f : First bytes) → (most_bytes < length f.line) ⊎ (length f.line ≤ most_bytes) → BeginsTooLong bytes ⊎ HasLine bytes
by_length bytes some f (inr short) = inr (f.line, f.behind, record { begins = begins bytes f.line f.behind some f.first; whole = f.whole; short = short })
by_length bytes some f (inl long) = inl (record { line = f.line; behind = f.behind; first = f.first; whole = f.whole; long = long })

some_answer : (bytes : List ℕ) → (bytes ≡ []) ⊎ (BeginsTooLong bytes ⊎ HasLine bytes)
some_answer [] = inl refl
some_answer (x ∷ xs) = let some : x ∷ xs ≢ [] = λ e. cc in let f = first_of (x ∷ xs) in inr (by_length (x ∷ xs) some f (cases_lt most_bytes (length f.line)))

one_line : (bytes line after other behind : List ℕ) → IsGiven bytes line after → IsGiven bytes other behind → (line ≡ other) × (after ≡ behind)
one_line bytes line after other behind g h = one_first bytes line after other behind (is_first bytes line after g.begins) g.whole (is_first bytes other behind h.begins) h.whole

never_short_and_long : (bytes : List ℕ) → HasLine bytes → BeginsTooLong bytes → ⊥
never_short_and_long bytes h l =
    let g = h.2 in
    let same = one_first bytes h.0 h.1 l.line l.behind (is_first bytes h.0 h.1 g.begins) g.whole l.first l.whole in
    let length_same : length h.0 ≡ length l.line = ap length same.0 in
    omega (arith, length_same, g.short, l.long)

none_at_end : (P : Type 0) (line after : List ℕ) → BeginsWithLine [] line after → P
none_at_end P [] after (inl e) = cc
none_at_end P (x ∷ xs) after (inl e) = cc
none_at_end P line after (inr e) = absurd (e.1 (sym e.0))

first_at_end : (line after : List ℕ) → IsFirstLine [] line after → line ≡ []
first_at_end [] after (inl e) = refl
first_at_end (x ∷ xs) after (inl e) = cc
first_at_end line after (inr e) = sym e.0

not_long_at_end : BeginsTooLong [] → ⊥
not_long_at_end l = let none : length l.line ≡ 0 = ap length (first_at_end l.line l.behind l.first) in omega (arith, none, l.long)

pub one_answer : OneAnswer
one_answer = record {
  some = some_answer;
  never_short_and_long = never_short_and_long;
  no_line_at_the_end = λ h. none_at_end ⊥ h.0 h.1 h.2.begins;
  not_long_at_the_end = not_long_at_end;
  one_line = one_line;
}

-- ---- all lines

first_text : (line : List ℕ) (lines : List (List ℕ)) → lines_text (line ∷ lines) ≡ line ++ 10 ∷ lines_text lines
first_text line lines = append_assoc line (10 ∷ []) (lines_text lines)

none_behind : (lines : List (List ℕ)) (after : List ℕ) → after ≡ [] → AreGiven after lines → lines ≡ []
none_behind [] after none h = refl
none_behind (l ∷ ls) after none h = none_at_end _ l h.0 (subst (λ z. BeginsWithLine z l h.0) none h.1.begins)

text_behind : (bytes line after : List ℕ) (lines : List (List ℕ)) → bytes ≡ line ++ 10 ∷ after → (after ≡ lines_text lines) ⊎ (after ++ 10 ∷ [] ≡ lines_text lines)
    → (bytes ≡ lines_text (line ∷ lines)) ⊎ (bytes ++ 10 ∷ [] ≡ lines_text (line ∷ lines))
text_behind bytes line after lines e (inl all) = inl (e ∙ ap (λ z. line ++ 10 ∷ z) all ∙ sym (first_text line lines))
text_behind bytes line after lines e (inr all) =
    inr (ap (λ z. z ++ 10 ∷ []) e ∙ append_assoc line (10 ∷ after) (10 ∷ []) ∙ ap (λ z. line ++ 10 ∷ z) all ∙ sym (first_text line lines))

last_text : (bytes line : List ℕ) (lines : List (List ℕ)) → bytes ≡ line → lines ≡ [] → bytes ++ 10 ∷ [] ≡ lines_text (line ∷ lines)
last_text bytes line lines e none = ap (λ z. z ++ 10 ∷ []) e ∙ ap (λ z. line ++ 10 ∷ lines_text z) (sym none) ∙ sym (first_text line lines)

text_by : (bytes line after : List ℕ) (lines : List (List ℕ)) → BeginsWithLine bytes line after → AreGiven after lines → (after ≡ lines_text lines) ⊎ (after ++ 10 ∷ [] ≡ lines_text lines)
    → (bytes ≡ lines_text (line ∷ lines)) ⊎ (bytes ++ 10 ∷ [] ≡ lines_text (line ∷ lines))
text_by bytes line after lines (inl e) h rest = text_behind bytes line after lines e rest
text_by bytes line after lines (inr e) h rest = inr (last_text bytes line lines e.0 (none_behind lines after e.2 h))

whole_text : (bytes : List ℕ) (lines : List (List ℕ)) → AreGiven bytes lines → (bytes ≡ lines_text lines) ⊎ (bytes ++ 10 ∷ [] ≡ lines_text lines)
whole_text bytes [] h = inl h
whole_text bytes (l ∷ ls) h = text_by bytes l h.0 ls h.1.begins h.2 (whole_text h.0 ls h.2)

only_lines : (bytes : List ℕ) (lines others : List (List ℕ)) → AreGiven bytes lines → AreGiven bytes others → lines ≡ others
only_lines bytes [] others h k = sym (none_behind others bytes h k)
only_lines bytes (l ∷ ls) [] h k = none_behind (l ∷ ls) bytes k h
only_lines bytes (l ∷ ls) (m ∷ ms) h k =
    let same = one_line bytes l h.0 m k.0 h.1 k.1 in
    ap (λ z. z ∷ ls) same.0 ∙ ap (λ z. m ∷ z) (only_lines k.0 ls ms (subst (λ z. AreGiven z ls) same.1 h.2) k.2)

pub in_order : InOrder
in_order = record { text = whole_text; only = only_lines }
