-- Sets of the numbers of receives.
use Rattle.std.proofs.Common.{◌≡◌, ℕ, ◌+◌, ◌<◌, refl, sym, ◌∙◌, ap, Bool, true, false, ◌&&◌, ◌||◌, cond, List, length, take, get_or, arith}
use Rattle.std.specs.Prelude.{◌==◌, nat_lt}
use Rattle.std.specs.declared.cmp.Ordering.{Ordering}
use Rattle.std.specs.declared.cmp.Ordering.TheVariants.{Less, Equal, Greater}
use Rattle.std.specs.List.{list_any}
use Rattle.std.specs.Ordering.{is_eq, nat_cmp, ordering_then}
use Rattle.std.proofs.lemmas.List.Folds.{list_any_more}
use Rattle.tap_base.specs.declared.wire.Receive.{Receive}
use Rattle.tap_types.specs.inner.Receiving.{Numbers, compared, is_of}

both_equal : (a b : Ordering) → is_eq (ordering_then a b) ≡ (is_eq a && is_eq b)
both_equal Less b = refl
both_equal Equal b = refl
both_equal Greater b = refl

-- two numbers compare as equal where they are
equal_numbers : (a b : ℕ) → is_eq (nat_cmp a b) ≡ (b == a)
equal_numbers a b = by (nat_lt a b) refl (b == a) refl where
  by : (l : Bool) → nat_lt a b ≡ l → (e : Bool) → (b == a) ≡ e → is_eq (cond l Less (cond (a == b) Equal Greater)) ≡ e
  by l h e k = grind arith

three : (a b c : Bool) → ((a && b) && c) ≡ (a && (c && b))
three true true true = refl
three true true false = refl
three true false true = refl
three true false false = refl
three false b c = refl

-- what is at the numbers of a receive
pub at_receive : (r : Receive) (q : Numbers) → is_eq (compared (r.by, r.from, r.message) q) ≡ is_of q r
at_receive r q =
    both_equal (ordering_then (nat_cmp r.by q.0) (nat_cmp r.from q.1)) (nat_cmp r.message q.2)
    ∙ ap (λ z. z && is_eq (nat_cmp r.message q.2)) (both_equal (nat_cmp r.by q.0) (nat_cmp r.from q.1))
    ∙ ap (λ z. (z && is_eq (nat_cmp r.from q.1)) && is_eq (nat_cmp r.message q.2)) (equal_numbers r.by q.0)
    ∙ ap (λ z. (q.0 == r.by && z) && is_eq (nat_cmp r.message q.2)) (equal_numbers r.from q.1)
    ∙ ap (λ z. (q.0 == r.by && q.1 == r.from) && z) (equal_numbers r.message q.2)
    ∙ three (q.0 == r.by) (q.1 == r.from) (q.2 == r.message)

one_more : (b had : Bool) → cond b true had ≡ (had || b)
one_more true true = refl
one_more true false = refl
one_more false true = refl
one_more false false = refl

-- a set of the first receives, with one more
pub held_on : (xs : List Receive) (i : ℕ) (d : Receive) (l : i < length xs) (q : Numbers) (had now : Bool) → now ≡ cond (is_eq (compared ((get_or xs i d).by, (get_or xs i d).from, (get_or xs i d).message) q)) true had → had ≡ list_any (is_of q) (take i xs) → now ≡ list_any (is_of q) (take (i + 1) xs)
held_on xs i d l q had now n h =
    let x = get_or xs i d in
    n ∙ ap (λ z. cond z true had) (at_receive x q) ∙ one_more (is_of q x) had
    ∙ ap (λ z. z || is_of q x) h ∙ sym (list_any_more (is_of q) xs i d l)
