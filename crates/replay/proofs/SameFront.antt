-- Two lists of lines that one text begins with.
use Rattle.std.proofs.Common.{◌≡◌, inl, inr, ℕ, List, [], ◌∷◌, ◌++◌, refl, ap, sym, subst, ◌∙◌, append_assoc, append-nil}
use Rattle.std.proofs.lemmas.List.{append_cancel_right}
use Rattle.tap_base.specs.Lists.{Each}
use Rattle.run_text.specs.ScheduleText.{IsFirstLine, Lacks}
use Rattle.run_text.specs.TraceText.{lines_text}
use Rattle.run_text.proofs.LineWords.{lines_split}
use Rattle.replay.specs.Traces.{HasFront, HasNext, IsUnended}
use Rattle.replay.proofs.Texts.{IsEnded, ended_lines, lines_first}

-- ---- lines, one by one

-- the lists are one, or one goes on with a line where the other ends
pub data Compared (ls ms : List (List ℕ)) (t u : List ℕ) : Type 0 where
  same : ls ≡ ms → t ≡ u → Compared ls ms t u
  shorter : (line : List ℕ) (more : List (List ℕ)) → ms ≡ ls ++ line ∷ more → t ≡ line ++ 10 ∷ (lines_text more ++ u) → Lacks 10 line → Compared ls ms t u
  longer : (line : List ℕ) (more : List (List ℕ)) → ls ≡ ms ++ line ∷ more → u ≡ line ++ 10 ∷ (lines_text more ++ t) → Lacks 10 line → Compared ls ms t u

first_text : (m : List ℕ) (ms : List (List ℕ)) (u : List ℕ) → lines_text (m ∷ ms) ++ u ≡ m ++ 10 ∷ (lines_text ms ++ u)
first_text m ms u = ap (λ z. z ++ u) (lines_first m ms) ∙ append_assoc m (10 ∷ lines_text ms) u

one_more : (l m : List ℕ) (ls ms : List (List ℕ)) (t u : List ℕ) → l ≡ m → Compared ls ms t u → Compared (l ∷ ls) (m ∷ ms) t u
one_more l m ls ms t u e (same f g) = same (ap (λ z. z ∷ ls) e ∙ ap (λ zs. m ∷ zs) f) g
one_more l m ls ms t u e (shorter line more f g h) = shorter line more (ap (λ zs. m ∷ zs) f ∙ ap (λ z. z ∷ (ls ++ line ∷ more)) (sym e)) g h
one_more l m ls ms t u e (longer line more f g h) = longer line more (ap (λ zs. l ∷ zs) f ∙ ap (λ z. z ∷ (ms ++ line ∷ more)) e) g h

pub compare : (ls ms : List (List ℕ)) (t u : List ℕ) → Each (Lacks 10) ls → Each (Lacks 10) ms → lines_text ls ++ t ≡ lines_text ms ++ u → Compared ls ms t u
compare [] [] t u h k e = same refl e
compare [] (m ∷ ms) t u h k e = shorter m ms refl (e ∙ first_text m ms u) k.0
compare (l ∷ ls) [] t u h k e = longer l ls refl (sym e ∙ first_text l ls t) h.0
compare (l ∷ ls) (m ∷ ms) t u h k e =
    let parts = lines_split l m (lines_text ls ++ t) (lines_text ms ++ u) h.0 k.0 (sym (first_text l ls t) ∙ e ∙ first_text m ms u) in
    one_more l m ls ms t u parts.0 (compare ls ms t u h.1 k.1 parts.1)

-- ---- the last byte

snoc_same : (xs ys : List ℕ) (a b : ℕ) → xs ++ a ∷ [] ≡ ys ++ b ∷ [] → (xs ≡ ys) × (a ≡ b)
snoc_same [] [] a b e = (refl, cc)
snoc_same [] (y ∷ []) a b e = cc
snoc_same [] (y ∷ z ∷ ys) a b e = cc
snoc_same (x ∷ []) [] a b e = cc
snoc_same (x ∷ z ∷ xs) [] a b e = cc
snoc_same (x ∷ xs) (y ∷ ys) a b e =
    let heads : x ≡ y = cc in
    let tails : xs ++ a ∷ [] ≡ ys ++ b ∷ [] = cc in
    let rest = snoc_same xs ys a b tails in
    (ap (λ z. z ∷ xs) heads ∙ ap (λ zs. y ∷ zs) rest.0, rest.1)

data Last (xs : List ℕ) : Type 0 where
  nothing : xs ≡ [] → Last xs
  last : (front : List ℕ) (x : ℕ) → xs ≡ front ++ x ∷ [] → Last xs

longer_last : (y : ℕ) (ys : List ℕ) → Last ys → Last (y ∷ ys)
longer_last y ys (nothing e) = last [] y (ap (λ zs. y ∷ zs) e)
longer_last y ys (last front x e) = last (y ∷ front) x (ap (λ zs. y ∷ zs) e)

last_of : (xs : List ℕ) → Last xs
last_of [] = nothing refl
last_of (y ∷ ys) = longer_last y ys (last_of ys)

ended_last : (front : List ℕ) (x : ℕ) → IsEnded (front ++ x ∷ []) → x ≡ 10
ended_last [] x h = h
ended_last (a ∷ []) x h = h
ended_last (a ∷ b ∷ front) x h = ended_last (b ∷ front) x h

not_ended : (text : List ℕ) (lines : List (List ℕ)) → IsUnended text → text ≡ lines_text lines → ⊥
not_ended text lines h e = h.other (ended_last h.front h.last (subst IsEnded (sym e ∙ h.split) (ended_lines lines)))

-- ---- what is behind the lines

-- what the text has behind the lines, where a line feed is put behind the text
pub data Tail (text : List ℕ) (lines : List (List ℕ)) (rest t : List ℕ) : Type 0 where
  whole : t ≡ rest ++ 10 ∷ [] → text ≡ lines_text lines ++ rest → Tail text lines rest t
  none : t ≡ [] → rest ≡ [] → IsUnended text → Tail text lines rest t

pub record Behind (text : List ℕ) (lines : List (List ℕ)) (rest : List ℕ) : Type 0 where
  pub tail : List ℕ
  pub split : text ++ 10 ∷ [] ≡ lines_text lines ++ tail
  pub kind : Tail text lines rest tail

pub behind_of : (text : List ℕ) (lines : List (List ℕ)) (rest : List ℕ) → HasFront text lines rest → Behind text lines rest
behind_of text lines rest (inl e) = record { tail = rest ++ 10 ∷ []; split = ap (λ z. z ++ 10 ∷ []) e ∙ append_assoc (lines_text lines) rest (10 ∷ []); kind = whole refl e }
behind_of text lines rest (inr h) = record { tail = []; split = h.2 ∙ sym (append-nil (lines_text lines)); kind = none refl h.0 h.1 }

no_snoc : (P : Type 0) (xs : List ℕ) (x : ℕ) → [] ≡ xs ++ x ∷ [] → P
no_snoc P [] x e = cc
no_snoc P (y ∷ ys) x e = cc

no_line : (P : Type 0) (line rest : List ℕ) → [] ≡ line ++ 10 ∷ rest → P
no_line P [] rest e = cc
no_line P (x ∷ xs) rest e = cc

pub same_rest : (text : List ℕ) (ls ms : List (List ℕ)) (q r t u : List ℕ) → t ≡ u → Tail text ls q t → Tail text ms r u → q ≡ r
same_rest text ls ms q r t u e (whole f a) (whole g b) = append_cancel_right q r (10 ∷ []) (sym f ∙ e ∙ g)
same_rest text ls ms q r t u e (whole f a) (none g b c) = no_snoc _ q 10 (sym g ∙ sym e ∙ f)
same_rest text ls ms q r t u e (none f a b) (whole g c) = no_snoc _ r 10 (sym f ∙ e ∙ g)
same_rest text ls ms q r t u e (none f a b) (none g c d) = a ∙ sym c

both_empty : (xs ys : List ℕ) → xs ++ ys ≡ [] → ys ≡ []
both_empty [] ys e = e
both_empty (x ∷ xs) ys e = cc

some_line : (line behind : List ℕ) → line ++ 10 ∷ behind ≡ [] → ⊥
some_line line behind e = no_line ⊥ line behind (sym e)

-- no line feed and nothing behind: the line is what is left
last_line : (text : List ℕ) (ls more : List (List ℕ)) (line q r u : List ℕ) → q ≡ line → Lacks 10 line → lines_text more ++ u ≡ [] → text ≡ lines_text ls ++ q → Tail text (ls ++ line ∷ more) r u → HasNext q line
last_line text ls more [] q r u e h none_ is (whole f g) = no_snoc _ r 10 (sym (both_empty (lines_text more) u none_) ∙ f)
last_line text ls more [] q r u e h none_ is (none f a b) = absurd (not_ended text ls b (is ∙ ap (λ z. lines_text ls ++ z) e ∙ append-nil (lines_text ls)))
last_line text ls more (x ∷ xs) q r u e h none_ is kind = record { some = λ f. let g = sym e ∙ f in cc; behind = []; first = inr (e, refl); unbroken = h }

next_by : (text : List ℕ) (ls more : List (List ℕ)) (line q r u : List ℕ) → q ++ 10 ∷ [] ≡ line ++ 10 ∷ (lines_text more ++ u) → Lacks 10 line → text ≡ lines_text ls ++ q → Tail text (ls ++ line ∷ more) r u
    → Last (lines_text more ++ u) → HasNext q line
next_by text ls more line q r u e h is kind (nothing f) = last_line text ls more line q r u (append_cancel_right q line (10 ∷ []) (e ∙ ap (λ z. line ++ 10 ∷ z) f)) h f is kind
next_by text ls more line q r u e h is kind (last front x f) =
    let both = snoc_same q (line ++ 10 ∷ front) 10 x (e ∙ ap (λ z. line ++ 10 ∷ z) f ∙ sym (append_assoc line (10 ∷ front) (x ∷ []))) in
    record { some = λ g. some_line line front (sym both.0 ∙ g); behind = front; first = inl both.0; unbroken = h }

-- where one list goes on with a line, that line comes next behind the other
pub next_of : (text : List ℕ) (ls more : List (List ℕ)) (line q r t u : List ℕ) → t ≡ line ++ 10 ∷ (lines_text more ++ u) → Lacks 10 line → Tail text ls q t → Tail text (ls ++ line ∷ more) r u → HasNext q line
next_of text ls more line q r t u e h (whole f is) kind = next_by text ls more line q r u (sym f ∙ e) h is kind (last_of (lines_text more ++ u))
next_of text ls more line q r t u e h (none f a b) kind = no_line _ line (lines_text more ++ u) (sym f ∙ e)

-- ---- the next line

feed_there : (l b : List ℕ) → Lacks 10 (l ++ 10 ∷ b) → ⊥
feed_there [] b h = h.0 refl
feed_there (x ∷ l) b h = feed_there l b h.1

next_same : (rest l m a b : List ℕ) → Lacks 10 l → Lacks 10 m → IsFirstLine rest l a → IsFirstLine rest m b → l ≡ m
next_same rest l m a b h k (inl e) (inl f) = (lines_split l m a b h k (sym e ∙ f)).0
next_same rest l m a b h k (inl e) (inr f) = absurd (feed_there l a (subst (Lacks 10) (sym f.0 ∙ e) k))
next_same rest l m a b h k (inr e) (inl f) = absurd (feed_there m b (subst (Lacks 10) (sym e.0 ∙ f) h))
next_same rest l m a b h k (inr e) (inr f) = sym e.0 ∙ f.0

-- what is left of a text has one next line
pub one_next_line : (rest l m : List ℕ) → HasNext rest l → HasNext rest m → l ≡ m
one_next_line rest l m h k = next_same rest l m h.behind k.behind h.unbroken k.unbroken h.first k.first
