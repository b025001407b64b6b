-- What tables of spellings list.
use Rattle.std.proofs.Common.{◌≡◌, ℕ, Bool, true, false, ◌&&◌, if◌then◌else◌, refl, ◌∙◌, ap, List, [], ◌∷◌, ◌++◌, Option, Some, None}
use Rattle.std.specs.Str.{bytes_eq}
use Rattle.std.specs.Option.{is_some}
use Rattle.std.specs.List.{list_all}
use Rattle.std.proofs.lemmas.Slice.Eq.{bytes_eq-Decides}
use Rattle.tap_base.specs.declared.token.Sign.{Sign}
use Rattle.tap_lexer.specs.Words.{Table, sign_in, is_in}

first_found : (v : Bool) (x y : Option Sign) (s t : Sign) → (x ≡ Some s → y ≡ Some s) → (if v then Some t else x) ≡ Some s → (if v then Some t else y) ≡ Some s
first_found true x y s t h e = e
first_found false x y s t h e = h e

-- what the first of two tables lists, both list
pub found_first : (a b : Table) (w : List ℕ) (s : Sign) → sign_in a w ≡ Some s → sign_in (a ++ b) w ≡ Some s
found_first [] b w s e = cc
found_first ((p, t) ∷ a) b w s e = first_found (bytes_eq w p) (sign_in a w) (sign_in (a ++ b) w) s t (found_first a b w s) e

second_left : (v : Bool) (x y z : Option Sign) (t : Sign) → (x ≡ None → y ≡ z) → (if v then Some t else x) ≡ None → (if v then Some t else y) ≡ z
second_left true x y z t h e = cc
second_left false x y z t h e = h e

-- what the first of two tables does not list, both have as the second has it
pub left_second : (a b : Table) (w : List ℕ) → sign_in a w ≡ None → sign_in (a ++ b) w ≡ sign_in b w
left_second [] b w e = refl
left_second ((p, t) ∷ a) b w e = second_left (bytes_eq w p) (sign_in a w) (sign_in (a ++ b) w) (sign_in b w) t (left_second a b w) e

pub and_left : (a b : Bool) → (a && b) ≡ true → a ≡ true
and_left true b e = refl
and_left false b e = e

pub and_right : (a b : Bool) → (a && b) ≡ true → b ≡ true
and_right true b e = e
and_right false b e = cc

passes_step : (v : Bool) (x : Option Sign) (t : Sign) (goal : Type 0) → (v ≡ true → goal) → (is_some x ≡ true → goal) → is_some (if v then Some t else x) ≡ true → goal
passes_step true x t goal here later e = here refl
passes_step false x t goal here later e = later e

-- what a table lists passes each test that all spellings of the table pass
pub listed_passes : (test : List ℕ → Bool) (a : Table) (w : List ℕ) → list_all (λ entry. test entry.0) a ≡ true → is_in a w ≡ true → test w ≡ true
listed_passes test [] w h e = cc
listed_passes test ((p, t) ∷ a) w h e =
    passes_step (bytes_eq w p) (sign_in a w) t (test w ≡ true)
    (λ q. ap test ((bytes_eq-Decides w p).0 q) ∙ and_left (test p) _ h)
    (λ q. listed_passes test a w (and_right (test p) _ h) q)
    e
