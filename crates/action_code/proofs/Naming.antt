-- Names and counts, as the code tests them.
use Rattle.std.proofs.Common.{◌≡◌, ◌+◌, ◌-◌, ◌<◌, ◌&&◌, ◌||◌, ℕ, Bool, true, false, not, if◌then◌else◌, List, [], ◌∷◌, ◌++◌, length, take, drop, map, get_or, refl, ap, sym, ◌∙◌, arith}
use Rattle.std.specs.Prelude.{bytes_eq, nat_le, sum}
use Rattle.std.specs.Char.{is_ascii_alphabetic}
use Rattle.std.specs.List.{list_all}
use Rattle.std.proofs.lemmas.Bool.{lt-leb}
use Rattle.std.proofs.lemmas.List.{take_all, take_more, take-map}
use Rattle.std.proofs.lemmas.List.Sums.{sum_by-take-drop}
use Rattle.register_code.specs.declared.code.CodeVariable.{CodeVariable}
use Rattle.tap_base.proofs.ListFacts.{cut_at_item}
use Rattle.tap_names.specs.Tables.{Entry, is_among, names_in}
use Rattle.register_code.specs.Declarations.{are_new, cells_within, in_name, is_name, is_one_of}

pub is_named : (xs : List ℕ) (n : ℕ) → n ≡ length xs - 1 → 0 < length xs → (is_ascii_alphabetic (get_or xs 0 0) && list_all in_name (take n (drop 1 xs)) && nat_le (length xs) 64) ≡ is_name xs
is_named [] n e l = absurd (omega arith)
is_named (x ∷ xs) n e l = let whole : take n xs ≡ xs = take_all n xs (omega (arith, e)) in rw whole refl

pub too_many_cells : (vs : List CodeVariable) (n : ℕ) → 4096 < sum (map (λ (v : CodeVariable). v.cells) (take n vs)) → cells_within vs ≡ false
too_many_cells vs n l =
    let cells : CodeVariable → ℕ = λ v. v.cells in
    let split = sum_by-take-drop (λ x. x) (map cells vs) n in
    let front : take n (map cells vs) ≡ map cells (take n vs) = take-map cells n vs in
    let less : 4096 < sum (map cells vs) = omega (arith, split, ap sum front, l) in lt-leb (sum (map cells vs)) 4096 less

-- ---- names that differ

pub same_among : (x : List ℕ) (names : List (List ℕ)) → is_among x names ≡ is_one_of x names
same_among x [] = refl
same_among x (y ∷ ys) = by_test (bytes_eq x y) (same_among x ys) where
  by_test : (b : Bool) → is_among x ys ≡ is_one_of x ys → (if b then true else is_among x ys) ≡ (b || is_one_of x ys)
  by_test true e = refl
  by_test false e = e

-- the next name is judged by those before it
pub new_next : (names : List (List ℕ)) (i : ℕ) (x : List ℕ) → i < length names → x ≡ get_or names i x
    → are_new (take i names) (drop i names) ≡ (not (is_one_of x (take i names)) && are_new (take (i + 1) names) (drop (i + 1) names))
new_next names i x l e =
    let next : drop i names ≡ x ∷ drop (i + 1) names = cut_at_item names i x l e in
    let more : take (i + 1) names ≡ take i names ++ x ∷ [] = take_more names i x l ∙ ap (λ y. take i names ++ y ∷ []) (sym e) in
    rw (next, more) refl

pub new_here : (names : List (List ℕ)) (i : ℕ) (x : List ℕ) → i < length names → x ≡ get_or names i x → is_one_of x (take i names) ≡ false
    → are_new (take i names) (drop i names) ≡ are_new (take (i + 1) names) (drop (i + 1) names)
new_here names i x l e h = new_next names i x l e ∙ rw h refl

pub old_here : (names : List (List ℕ)) (i : ℕ) (x : List ℕ) → i < length names → x ≡ get_or names i x → is_one_of x (take i names) ≡ true → are_new (take i names) (drop i names) ≡ false
old_here names i x l e h = new_next names i x l e ∙ rw h refl

names_joined : {A : Type 0} (es : List (Entry A)) (e : Entry A) → names_in (es ++ e ∷ []) ≡ names_in es ++ e.0 ∷ []
names_joined [] e = refl
names_joined (d ∷ es) e = ap (λ names. d.0 ∷ names) (names_joined es e)

-- one more name in the table
pub names_more : {A : Type 0} (es more : List (Entry A)) (names : List (List ℕ)) (i : ℕ) (x y : List ℕ) (v : A) → more ≡ es ++ (y, v) ∷ [] → names_in es ≡ take i names → y ≡ x → i < length names → x ≡ get_or names i x
    → names_in more ≡ take (i + 1) names
names_more es more names i x y v e h same l is =
    ap names_in e ∙ names_joined es (y, v) ∙ ap (λ xs. xs ++ y ∷ []) h ∙ ap (λ z. take i names ++ z ∷ []) (same ∙ is) ∙ sym (take_more names i x l)
