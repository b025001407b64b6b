-- What may follow an expression.
use Rattle.std.proofs.Common.{◌≡◌, refl, List, [], ◌∷◌, Option, Some, None, Bool, true, false, ◌||◌, is_some}
use Rattle.tap_base.specs.declared.tree.Op.{Op}
use Rattle.tap_base.specs.declared.token.Sign.{Sign}
use Rattle.tap_base.specs.declared.token.Sign.TheVariants as sign
use Rattle.tap_base.specs.declared.join.Join.{Join}
use Rattle.tap_base.specs.declared.join.Join.TheVariants.{Disjunction, Conjunction, Sum, Term}
use Rattle.tap_lexer.specs.Lexeme.{Lexeme}
use Rattle.tap_expr.specs.Grammar.{joined, negation, relation, factor, atom, joining, relating, part_of, Goes, done, more}
use Rattle.tap_expr.specs.inner.ExprReading.{carries_on, Stops}

or_right : (a b : Bool) → (a || b) ≡ false → b ≡ false
or_right false b e = e
or_right true b e = cc

lift : (o : Option Op) (x : Op) (b : Bool) → o ≡ Some x → (is_some o || b) ≡ true
lift None x b e = cc
lift (Some y) x b e = refl

pub stops_part : (j : Join) (ws : List Lexeme) → Stops (joined j) ws → Stops (part_of j) ws
unfolding carries_on
stops_part Disjunction [] h = tt
stops_part Disjunction (x ∷ us) h = or_right (is_some (joining Disjunction x.sign)) _ h
stops_part Conjunction [] h = tt
stops_part Conjunction (x ∷ us) h = or_right (is_some (joining Conjunction x.sign)) _ h
stops_part Sum [] h = tt
stops_part Sum (x ∷ us) h = or_right (is_some (joining Sum x.sign)) _ h
stops_part Term [] h = tt
stops_part Term (x ∷ us) h = or_right (is_some (joining Term x.sign)) _ h

pub stops_sum : (ws : List Lexeme) → Stops relation ws → Stops (joined Sum) ws
unfolding carries_on
stops_sum [] h = tt
stops_sum (x ∷ us) h = or_right (is_some (relating x.sign)) _ h

pub stops_relation : (ws : List Lexeme) → Stops negation ws → Stops relation ws
unfolding carries_on
stops_relation [] h = tt
stops_relation (x ∷ us) h = h

pub stops_atom : (ws : List Lexeme) → Stops factor ws → Stops atom ws
unfolding carries_on
stops_atom [] h = tt
stops_atom (x ∷ us) h = h

pub joining_stops : (j : Join) (s : Sign) (o : Op) → joining j s ≡ Some o → carries_on (part_of j) s ≡ false
unfolding carries_on
joining_stops Disjunction sign.Or o e = refl
joining_stops Conjunction sign.And o e = refl
joining_stops Sum sign.Plus o e = refl
joining_stops Sum sign.Minus o e = refl
joining_stops Term sign.Star o e = refl
joining_stops Term sign.Div o e = refl
joining_stops Term sign.Mod o e = refl
joining_stops _ _ o e = cc

pub joining_carries : (j : Join) (s : Sign) (o : Op) → joining j s ≡ Some o → carries_on (joined j) s ≡ true
unfolding carries_on
joining_carries Disjunction s o e = lift (joining Disjunction s) o _ e
joining_carries Conjunction s o e = lift (joining Conjunction s) o _ e
joining_carries Sum s o e = lift (joining Sum s) o _ e
joining_carries Term s o e = lift (joining Term s) o _ e

pub relating_stops : (s : Sign) (o : Op) → relating s ≡ Some o → carries_on (joined Sum) s ≡ false
unfolding carries_on
relating_stops sign.Equal o e = refl
relating_stops sign.NotEqual o e = refl
relating_stops sign.Less o e = refl
relating_stops sign.LessEqual o e = refl
relating_stops sign.Greater o e = refl
relating_stops sign.GreaterEqual o e = refl
relating_stops _ o e = cc

pub relating_carries : (s : Sign) (o : Op) → relating s ≡ Some o → carries_on relation s ≡ true
unfolding carries_on
relating_carries s o e = lift (relating s) o _ e

-- before more parts, or before what stops them, a part stops
pub goes_stops : {j : Join} {a e : _} {ts ws : List Lexeme} → Goes j a e ts ws → Stops (joined j) ws → Stops (part_of j) ts
goes_stops {j} {ts} done h = stops_part j ts h
goes_stops {j} (more {x} {o} e r g) h = joining_stops j x.sign o e
