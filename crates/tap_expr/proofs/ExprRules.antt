-- Each rule of the grammar: what its parts' readings say of its own.
use Rattle.std.proofs.Common.{◌≡◌, sym, ◌∙◌, ap, subst, List, [], ◌∷◌, Some, Bool, true, false}
use Rattle.std.proofs.lemmas.Option.{same_Some}
use Rattle.tap_base.specs.declared.ast.AstExpr.{AstExpr}
use Rattle.tap_base.specs.declared.ast.AstKind.TheVariants as kind
use Rattle.tap_base.specs.declared.tree.Op.{Op}
use Rattle.tap_base.specs.declared.token.Sign.{Sign}
use Rattle.tap_base.specs.declared.token.Sign.TheVariants as sign
use Rattle.tap_base.specs.declared.join.Join.TheVariants.{Sum}
use Rattle.tap_lexer.specs.Lexeme.{Lexeme}
use Rattle.tap_lexer.specs.Leaves.{node}
use Rattle.tap_lexer.specs.inner.Reading.{Lacks}
use Rattle.tap_expr.specs.declared.start.Start.{Start}
use Rattle.tap_expr.specs.declared.start.Start.TheVariants as start
use Rattle.tap_expr.specs.Grammar.{Level, joined, negation, relation, factor, atom, expression, relating, binary, Reads, plain, denied, single, related, positive, negative}
use Rattle.tap_expr.specs.inner.ExprSigns.{starting, NoRelation}
use Rattle.tap_expr.specs.inner.ExprReading.{carries_on, Stops, Only, Never}
use Rattle.tap_expr.proofs.ExprStops.{stops_sum, stops_relation, stops_atom, relating_stops, relating_carries}
use Rattle.tap_expr.proofs.ExprFronts.{no_front, not_denied, not_negative, IsAtom, as_atom}

pub never_nothing : (l : Level) → Never l []
never_nothing l d ws r h = no_front r

-- ---- negation

pub denied_only : (x : Lexeme) (ts us : List Lexeme) (e : AstExpr) → x.sign ≡ sign.Not → Only relation ts e us → Only negation (x ∷ ts) (node (kind.Not e) x.place) us
denied_only x ts us e is only d ws (plain r) h = absurd (not_denied is r)
denied_only x ts us e is only d ws (denied {e = c} f r) h = let w = only c ws r (stops_relation ws h) in (ap (λ q. node (kind.Not q) x.place) w.0, w.1)

pub denied_never : (x : Lexeme) (ts : List Lexeme) → x.sign ≡ sign.Not → Never relation ts → Never negation (x ∷ ts)
denied_never x ts is never d ws (plain r) h = not_denied is r
denied_never x ts is never d ws (denied {e = c} f r) h = never c ws r (stops_relation ws h)

pub plain_only : (x : Lexeme) (ts us : List Lexeme) (e : AstExpr) → (x.sign ≡ sign.Not → ⊥) → Only relation (x ∷ ts) e us → Only negation (x ∷ ts) e us
plain_only x ts us e is only d ws (plain r) h = only d ws r (stops_relation ws h)
plain_only x ts us e is only d ws (denied f r) h = absurd (is f)

pub plain_never : (x : Lexeme) (ts : List Lexeme) → (x.sign ≡ sign.Not → ⊥) → Never relation (x ∷ ts) → Never negation (x ∷ ts)
plain_never x ts is never d ws (plain r) h = never d ws r (stops_relation ws h)
plain_never x ts is never d ws (denied f r) h = is f

-- ---- factor

pub negative_only : (x : Lexeme) (ts us : List Lexeme) (e : AstExpr) → x.sign ≡ sign.Minus → Only atom ts e us → Only factor (x ∷ ts) (node (kind.Neg e) x.place) us
negative_only x ts us e is only d ws (positive r) h = absurd (not_negative is r)
negative_only x ts us e is only d ws (negative {e = c} f r) h = let w = only c ws r (stops_atom ws h) in (ap (λ q. node (kind.Neg q) x.place) w.0, w.1)

pub negative_never : (x : Lexeme) (ts : List Lexeme) → x.sign ≡ sign.Minus → Never atom ts → Never factor (x ∷ ts)
negative_never x ts is never d ws (positive r) h = not_negative is r
negative_never x ts is never d ws (negative {e = c} f r) h = never c ws r (stops_atom ws h)

pub positive_only : (x : Lexeme) (ts us : List Lexeme) (e : AstExpr) → (x.sign ≡ sign.Minus → ⊥) → Only atom (x ∷ ts) e us → Only factor (x ∷ ts) e us
positive_only x ts us e is only d ws (positive r) h = only d ws r (stops_atom ws h)
positive_only x ts us e is only d ws (negative f r) h = absurd (is f)

pub positive_never : (x : Lexeme) (ts : List Lexeme) → (x.sign ≡ sign.Minus → ⊥) → Never atom (x ∷ ts) → Never factor (x ∷ ts)
positive_never x ts is never d ws (positive r) h = never d ws r (stops_atom ws h)
positive_never x ts is never d ws (negative f r) h = is f

-- ---- relation

unrelated : (ms us : List Lexeme) (x : Lexeme) (o : Op) → NoRelation ms → ms ≡ x ∷ us → relating x.sign ≡ Some o → ⊥
unrelated [] us x o n e f = cc
unrelated (y ∷ ms) us x o n e f = cc

pub single_only : (ts ms : List Lexeme) (a : AstExpr) → NoRelation ms → Only (joined Sum) ts a ms → Only relation ts a ms
single_only ts ms a n only d ws (single r) h = only d ws r (stops_sum ws h)
single_only ts ms a n only d ws (related {a = b} {x} {o} {us} r e q) h = let w = only b (x ∷ us) r (relating_stops x.sign o e) in absurd (unrelated ms us x o n (sym w.1) e)

pub single_never : (ts : List Lexeme) → Never (joined Sum) ts → Never relation ts
single_never ts never d ws (single r) h = never d ws r (stops_sum ws h)
single_never ts never d ws (related {a = b} {x} {o} {us} r e q) h = never b (x ∷ us) r (relating_stops x.sign o e)

carried : (x : Lexeme) (o : Op) (ms ws : List Lexeme) → relating x.sign ≡ Some o → ws ≡ x ∷ ms → Stops relation ws → ⊥
carried x o ms [] e f h = cc
carried x o ms (y ∷ ws) e f h = let c : carries_on relation x.sign ≡ true = relating_carries x.sign o e in let s : y ≡ x = cc in let k : carries_on relation y.sign ≡ carries_on relation x.sign = ap (λ (z : Lexeme). carries_on relation z.sign) s in absurd cc

pub related_only : (ts ms us : List Lexeme) (x : Lexeme) (o : Op) (a b : AstExpr) → relating x.sign ≡ Some o → Only (joined Sum) ts a (x ∷ ms) → Only (joined Sum) ms b us → Only relation ts (binary o a b x.place) us
related_only ts ms us x o a b e left right d ws (single r) h = let w = left d ws r (stops_sum ws h) in absurd (carried x o ms ws e w.1 h)
related_only ts ms us x o a b e left right d ws (related {a = f} {b = g} {x = y} {o = p} {us = ns} r c q) h =
    let w = left f (y ∷ ns) r (relating_stops y.sign p c) in
    let s : y ≡ x = cc in
    let m : ns ≡ ms = cc in
    let v = right g ws (subst (λ k. Reads (joined Sum) g k ws) m q) (stops_sum ws h) in
    let same : p ≡ o = same_Some p o (sym c ∙ ap (λ (z : Lexeme). relating z.sign) s ∙ e) in
    (ap (λ k. binary k f g y.place) same ∙ ap (λ k. binary o k g y.place) w.0 ∙ ap (λ k. binary o a k y.place) v.0 ∙ ap (λ (k : Lexeme). binary o a b k.place) s, v.1)

pub related_never : (ts ms : List Lexeme) (x : Lexeme) (o : Op) (a : AstExpr) → relating x.sign ≡ Some o → Only (joined Sum) ts a (x ∷ ms) → Never (joined Sum) ms → Never relation ts
related_never ts ms x o a e left right d ws (single r) h = let w = left d ws r (stops_sum ws h) in carried x o ms ws e w.1 h
related_never ts ms x o a e left right d ws (related {a = f} {b = g} {x = y} {o = p} {us = ns} r c q) h =
    let w = left f (y ∷ ns) r (relating_stops y.sign p c) in
    let m : ns ≡ ms = cc in
    right g ws (subst (λ k. Reads (joined Sum) g k ws) m q) (stops_sum ws h)

-- ---- atom

pub cases : (s : Start) (x : Lexeme) (ts : List Lexeme) (d : AstExpr) (ws : List Lexeme) → starting x.sign ≡ s → Reads atom d (x ∷ ts) ws → IsAtom s x ts d ws
cases s x ts d ws e r = subst (λ v. IsAtom v x ts d ws) e (as_atom r)

pub never_atom : (x : Lexeme) (ts : List Lexeme) → starting x.sign ≡ start.Nothing → Never atom (x ∷ ts)
never_atom x ts e d ws r h = cases start.Nothing x ts d ws e r

pub number_only : (x : Lexeme) (ts : List Lexeme) → starting x.sign ≡ start.Number → Only atom (x ∷ ts) (node (kind.Number x.value) x.place) ts
number_only x ts e d ws r h = cases start.Number x ts d ws e r

pub truth_only : (x : Lexeme) (ts : List Lexeme) (b : Bool) → starting x.sign ≡ start.Truth b → Only atom (x ∷ ts) (node (kind.Truth b) x.place) ts
truth_only x ts b e d ws r h = cases (start.Truth b) x ts d ws e r

opens_expression : (c : Sign) (x y : Lexeme) (us vs : List Lexeme) → carries_on expression c ≡ false → y.sign ≡ c → Stops expression (y ∷ us)
opens_expression c x y us vs e f = ap (carries_on expression) f ∙ e

pub group_only : (x z : Lexeme) (ts us : List Lexeme) (e : AstExpr) → x.sign ≡ sign.Open → z.sign ≡ sign.Close → Only expression ts e (z ∷ us) → Only atom (x ∷ ts) e us
unfolding carries_on
group_only x z ts us e is closes only d ws r h =
    let g = cases start.Group x ts d ws (ap starting is) r in
    let w = only d (g.z ∷ ws) g.inner (ap (carries_on expression) g.closes) in
    (w.0, cc)

pub lacks : (s : Sign) (z : Lexeme) (us ms : List Lexeme) → Lacks s ms → z ∷ us ≡ ms → z.sign ≡ s → ⊥
lacks s z us [] n e f = cc
lacks s z us (y ∷ ms) n e f = let k : y ≡ z = cc in n (ap (λ (q : Lexeme). q.sign) k ∙ f)

pub group_never : (x : Lexeme) (ts : List Lexeme) → x.sign ≡ sign.Open → Never expression ts → Never atom (x ∷ ts)
unfolding carries_on
group_never x ts is never d ws r h =
    let g = cases start.Group x ts d ws (ap starting is) r in
    never d (g.z ∷ ws) g.inner (ap (carries_on expression) g.closes)

pub group_open : (x : Lexeme) (ts us : List Lexeme) (e : AstExpr) → x.sign ≡ sign.Open → Lacks sign.Close us → Only expression ts e us → Never atom (x ∷ ts)
unfolding carries_on
group_open x ts us e is lack only d ws r h =
    let g = cases start.Group x ts d ws (ap starting is) r in
    let w = only d (g.z ∷ ws) g.inner (ap (carries_on expression) g.closes) in
    lacks sign.Close g.z ws us lack w.1 g.closes
