-- A reading that nothing carries on is the only one.
use Rattle.std.proofs.Common.{◌≡◌, refl, ◌∙◌, ap, List, [], ◌∷◌, Option, Some, None, true, false}
use Rattle.tap_base.specs.declared.ast.AstExpr.{AstExpr}
use Rattle.tap_base.specs.declared.tree.Op.{Op}
use Rattle.tap_base.specs.declared.token.Sign.{Sign}
use Rattle.tap_base.specs.declared.token.Sign.TheVariants as sign
use Rattle.tap_base.specs.declared.join.Join.{Join}
use Rattle.tap_lexer.specs.Lexeme.{Lexeme}
use Rattle.tap_lexer.specs.inner.Reading.{Lacks}
use Rattle.tap_expr.specs.Grammar.{Level, joined, negation, relation, factor, atom, expression, joining, relating, Reads, Goes, done, more, chain, plain, denied, single, related, positive, negative, leaf, number, truth, untruth, name, element, part, chosen, group}
use Rattle.tap_expr.specs.inner.ExprSigns.{Ends, NoRelation, starting}
use Rattle.tap_expr.specs.inner.ExprReading.{carries_on, follows_name, Stops, Only, OneReading}
use Rattle.tap_expr.proofs.ExprStops.{goes_stops, stops_sum, stops_relation, stops_atom, relating_stops, relating_carries, joining_carries}
use Rattle.tap_expr.proofs.ExprFronts.{not_denied, not_negative, no_front}
use Rattle.tap_expr.proofs.ExprJoins.{Whole, whole_first, whole_more, only_last}
use Rattle.tap_expr.proofs.ExprRules.{denied_only, plain_only, negative_only, positive_only, single_only, related_only, number_only, truth_only, group_only}
use Rattle.tap_expr.proofs.ExprAtoms.{choice_only, name_only, part_only, element_only}

stops_ends : (j : Join) (us : List Lexeme) → Stops (joined j) us → Ends j us
stops_ends j [] h = tt
stops_ends j (x ∷ us) h = go (joining j x.sign) refl
  where
    go : (o : Option Op) → joining j x.sign ≡ o → joining j x.sign ≡ None
    go None e = e
    go (Some o) e = let c : carries_on (joined j) x.sign ≡ true = joining_carries j x.sign o e in absurd cc

stops_unrelated : (us : List Lexeme) → Stops relation us → NoRelation us
stops_unrelated [] h = tt
stops_unrelated (x ∷ us) h = go (relating x.sign) refl
  where
    go : (o : Option Op) → relating x.sign ≡ o → relating x.sign ≡ None
    go None e = e
    go (Some o) e = let c : carries_on relation x.sign ≡ true = relating_carries x.sign o e in absurd cc

not_not : (x : Lexeme) (ts ws : List Lexeme) (d : AstExpr) → Reads relation d (x ∷ ts) ws → x.sign ≡ sign.Not → ⊥
not_not x ts ws d r e = not_denied e r

not_minus : (x : Lexeme) (ts ws : List Lexeme) (d : AstExpr) → Reads atom d (x ∷ ts) ws → x.sign ≡ sign.Minus → ⊥
not_minus x ts ws d r e = not_negative e r

plain_one : (ts us : List Lexeme) (e : AstExpr) → Reads relation e ts us → Only relation ts e us → Only negation ts e us
plain_one [] us e r h = absurd (no_front r)
plain_one (x ∷ ts) us e r h = plain_only x ts us e (not_not x ts us e r) h

positive_one : (ts us : List Lexeme) (e : AstExpr) → Reads atom e ts us → Only atom ts e us → Only factor ts e us
positive_one [] us e r h = absurd (no_front r)
positive_one (x ∷ ts) us e r h = positive_only x ts us e (not_minus x ts us e r) h

lacks_index : (us : List Lexeme) → Stops atom us → Lacks sign.OpenIndex us
unfolding carries_on
lacks_index [] h = tt
lacks_index (x ∷ us) h = λ e. let c : follows_name x.sign ≡ true = ap follows_name e in absurd cc

lacks_dot : (us : List Lexeme) → Stops atom us → Lacks sign.Dot us
unfolding carries_on
lacks_dot [] h = tt
lacks_dot (x ∷ us) h = λ e. let c : follows_name x.sign ≡ true = ap follows_name e in absurd cc

-- where the sign can't carry an expression on, the expression stops before it
pub stops_before : (s : Sign) (z : Lexeme) (us : List Lexeme) → carries_on expression s ≡ false → z.sign ≡ s → Stops expression (z ∷ us)
stops_before s z us c e = ap (carries_on expression) e ∙ c

mutual
  unfolding carries_on

  one : {l : Level} {e : AstExpr} {ts us : List Lexeme} → Reads l e ts us → Stops l us → Only l ts e us
  one (chain {j} {a} {e} {ts} {us} {ws} r g) h = on g h ts (whole_first j ts us a (one r (goes_stops g h)))
  one (plain {e} {ts} {us} r) h = plain_one ts us e r (one r (stops_relation us h))
  one (denied {e} {x} {ts} {us} i r) h = denied_only x ts us e i (one r (stops_relation us h))
  one (single {e} {ts} {us} r) h = single_only ts us e (stops_unrelated us h) (one r (stops_sum us h))
  one (related {a} {b} {x} {o} {ts} {us} {ws} r i q) h = related_only ts us ws x o a b i (one r (relating_stops x.sign o i)) (one q (stops_sum ws h))
  one (positive {e} {ts} {us} r) h = positive_one ts us e r (one r (stops_atom us h))
  one (negative {e} {x} {ts} {us} i r) h = negative_only x ts us e i (one r (stops_atom us h))
  one (leaf (number {x} {ts} i)) h = number_only x ts (ap starting i)
  one (leaf (truth {x} {ts} i)) h = truth_only x ts true (ap starting i)
  one (leaf (untruth {x} {ts} i)) h = truth_only x ts false (ap starting i)
  one (leaf (name {x} {ts} i)) h = name_only x i ts (lacks_index ts h) (lacks_dot ts h)
  one (element {x} {y} {z} {e} {ts} {us} i o r c) h = element_only x i y z ts us e o (one r (stops_before sign.CloseIndex z us refl c))
  one (leaf (part {x} {y} {z} {ts} i o c)) h = part_only x i y z ts o
  one (chosen {x} {y} {z} {w} {o} {a} {b} {ts} {us} {ws} i p r c q d) h = choice_only x o i y z w ts us ws a b (one r (stops_before sign.Comma z us refl c)) (one q (stops_before sign.Close w ws refl d))
  one (group {x} {z} {e} {ts} {us} i r c) h = group_only x z ts us e i c (one r (stops_before sign.Close z us refl c))

  on : {j : Join} {a e : AstExpr} {ms us : List Lexeme} → Goes j a e ms us → Stops (joined j) us → (ts : List Lexeme) → Whole j ts a ms → Only (joined j) ts e us
  on (done {j} {a} {ts = ms}) h ts whole = only_last j ts ms a (stops_ends j ms h) whole
  on (more {j} {x} {o} {a} {b} {e} {ts = ms} {us = ns} {ws} i r g) h ts whole = on g h ts (whole_more j o x ts ms ns a b i (one r (goes_stops g h)) whole)

pub one_reading : OneReading
one_reading l ts us e r h = one r h
