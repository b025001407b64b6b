-- What an expression begins with.
use Rattle.std.proofs.Common.{◌≡◌, refl, sym, ap, subst, inl, inr, ◌⊎◌, List, [], ◌∷◌, Some, Bool, true, false}
use Rattle.tap_base.specs.declared.ast.AstExpr.{AstExpr}
use Rattle.tap_base.specs.declared.ast.AstKind.TheVariants as kind
use Rattle.tap_base.specs.declared.tree.Op.{Op}
use Rattle.tap_base.specs.declared.token.Sign.{Sign}
use Rattle.tap_base.specs.declared.token.Sign.TheVariants as sign
use Rattle.tap_base.specs.declared.join.Join.{Join}
use Rattle.tap_base.specs.declared.join.Join.TheVariants.{Disjunction, Conjunction, Sum, Term}
use Rattle.tap_lexer.specs.Lexeme.{Lexeme}
use Rattle.tap_lexer.specs.Leaves.{node}
use Rattle.tap_expr.specs.declared.start.Start.{Start}
use Rattle.tap_expr.specs.declared.start.Start.TheVariants as start
use Rattle.tap_expr.specs.Grammar.{Level, joined, negation, relation, factor, atom, expression, choosing, part_of, binary, Reads, chain, plain, denied, single, related, positive, negative, leaf, number, truth, untruth, name, element, part, chosen, group}
use Rattle.tap_expr.specs.inner.ExprSigns.{starting}

-- whether no expression of the level begins with the sign
bars : Level → Sign → Bool
bars atom sign.Minus = true
bars atom sign.Not = true
bars factor sign.Not = true
bars relation sign.Not = true
bars (joined Sum) sign.Not = true
bars (joined Term) sign.Not = true
bars _ _ = false

Front : Level → List Lexeme → Type 0
Front l [] = ⊥
Front l (x ∷ ts) = bars l x.sign ≡ false

choosing_bars : (s : Sign) (o : Op) → choosing s ≡ Some o → bars atom s ≡ false
unfolding bars
choosing_bars sign.Min o e = refl
choosing_bars sign.Max o e = refl
choosing_bars _ o e = cc

bars_factor : (s : Sign) → bars atom s ≡ false → bars factor s ≡ false
unfolding bars
bars_factor sign.Not e = cc
bars_factor _ e = refl

-- looser levels bar no more
loosens : (j : Join) (s : Sign) → bars (part_of j) s ≡ false → bars (joined j) s ≡ false
unfolding bars
loosens Disjunction s e = refl
loosens Conjunction s e = refl
loosens Sum s e = e
loosens Term s e = e

front_joined : (j : Join) (ts : List Lexeme) → Front (part_of j) ts → Front (joined j) ts
unfolding Front
front_joined j [] h = h
front_joined j (x ∷ ts) h = loosens j x.sign h

front_factor : (ts : List Lexeme) → Front atom ts → Front factor ts
unfolding Front
front_factor [] h = h
front_factor (x ∷ ts) h = bars_factor x.sign h

front_negation : (ts : List Lexeme) → Front relation ts → Front negation ts
unfolding Front bars
front_negation [] h = h
front_negation (x ∷ ts) h = refl

front_relation : (ts : List Lexeme) → Front (joined Sum) ts → Front relation ts
unfolding Front bars
front_relation [] h = h
front_relation (x ∷ ts) h = h

-- an expression begins with a sign that its level does not bar
front : {l : Level} {d : AstExpr} {ts ws : List Lexeme} → Reads l d ts ws → Front l ts
unfolding Front bars
front (chain {j} {ts} r g) = front_joined j ts (front r)
front (plain {ts} r) = front_negation ts (front r)
front (denied e r) = refl
front (single {ts} r) = front_relation ts (front r)
front (related {x} {ts} r e q) = front_relation ts (front r)
front (positive {ts} r) = front_factor ts (front r)
front (negative e r) = ap (bars factor) e
front (leaf (number e)) = ap (bars atom) e
front (leaf (truth e)) = ap (bars atom) e
front (leaf (untruth e)) = ap (bars atom) e
front (leaf (name e)) = ap (bars atom) e
front (element e f r g) = ap (bars atom) e
front (leaf (part e f g)) = ap (bars atom) e
front (chosen {x} {o} e f r g q h) = choosing_bars x.sign o e
front (group e r f) = ap (bars atom) e

pub no_front : {l : Level} {d : AstExpr} {ws : List Lexeme} → Reads l d [] ws → ⊥
unfolding Front
no_front r = front r

pub not_denied : {d : AstExpr} {x : Lexeme} {ts ws : List Lexeme} → x.sign ≡ sign.Not → Reads relation d (x ∷ ts) ws → ⊥
unfolding Front bars
not_denied {x} e r = let f : bars relation x.sign ≡ false = front r in let g : bars relation x.sign ≡ true = ap (bars relation) e in absurd cc

pub not_negative : {d : AstExpr} {x : Lexeme} {ts ws : List Lexeme} → x.sign ≡ sign.Minus → Reads atom d (x ∷ ts) ws → ⊥
unfolding Front bars
not_negative {x} e r = let f : bars atom x.sign ≡ false = front r in let g : bars atom x.sign ≡ true = ap (bars atom) e in absurd cc

-- ---- an atom by what it begins with

pub record AsElement (x : Lexeme) (ts : List Lexeme) (d : AstExpr) (ws : List Lexeme) : Type 0 where
  pub y : Lexeme
  pub z : Lexeme
  pub e : AstExpr
  pub us : List Lexeme
  pub begins : ts ≡ y ∷ us
  pub opens : y.sign ≡ sign.OpenIndex
  pub index : Reads expression e us (z ∷ ws)
  pub closes : z.sign ≡ sign.CloseIndex
  pub is : d ≡ node (kind.Index x.text e) x.place

pub record AsPart (x : Lexeme) (ts : List Lexeme) (d : AstExpr) (ws : List Lexeme) : Type 0 where
  pub y : Lexeme
  pub z : Lexeme
  pub begins : ts ≡ y ∷ z ∷ ws
  pub dot : y.sign ≡ sign.Dot
  pub field : z.sign ≡ sign.Name
  pub is : d ≡ node (kind.Part x.text z.text) x.place

pub record AsChoice (o : Op) (x : Lexeme) (ts : List Lexeme) (d : AstExpr) (ws : List Lexeme) : Type 0 where
  pub y : Lexeme
  pub z : Lexeme
  pub w : Lexeme
  pub a : AstExpr
  pub b : AstExpr
  pub us : List Lexeme
  pub vs : List Lexeme
  pub begins : ts ≡ y ∷ us
  pub opens : y.sign ≡ sign.Open
  pub left : Reads expression a us (z ∷ vs)
  pub comma : z.sign ≡ sign.Comma
  pub right : Reads expression b vs (w ∷ ws)
  pub closes : w.sign ≡ sign.Close
  pub is : d ≡ binary o a b x.place

pub record AsGroup (ts : List Lexeme) (d : AstExpr) (ws : List Lexeme) : Type 0 where
  pub z : Lexeme
  pub inner : Reads expression d ts (z ∷ ws)
  pub closes : z.sign ≡ sign.Close

abbrev pub IsAtom : Start → Lexeme → List Lexeme → AstExpr → List Lexeme → Type 0
IsAtom start.Number x ts d ws = (d ≡ node (kind.Number x.value) x.place) × (ws ≡ ts)
IsAtom (start.Truth b) x ts d ws = (d ≡ node (kind.Truth b) x.place) × (ws ≡ ts)
IsAtom start.Name x ts d ws = ((d ≡ node (kind.Name x.text) x.place) × (ws ≡ ts)) ⊎ (AsElement x ts d ws ⊎ AsPart x ts d ws)
IsAtom (start.Choice o) x ts d ws = AsChoice o x ts d ws
IsAtom start.Group x ts d ws = AsGroup ts d ws
IsAtom start.Nothing x ts d ws = ⊥

pub starting_choice : (s : Sign) (o : Op) → choosing s ≡ Some o → starting s ≡ start.Choice o
starting_choice sign.Min o e = cc
starting_choice sign.Max o e = cc
starting_choice _ o e = cc

by_start : (s : Start) (x : Lexeme) (ts : List Lexeme) (d : AstExpr) (ws : List Lexeme) → starting x.sign ≡ s → IsAtom s x ts d ws → IsAtom (starting x.sign) x ts d ws
by_start s x ts d ws e h = subst (λ v. IsAtom v x ts d ws) (sym e) h

pub as_atom : {d : AstExpr} {x : Lexeme} {ts ws : List Lexeme} → Reads atom d (x ∷ ts) ws → IsAtom (starting x.sign) x ts d ws
as_atom (leaf (number {x} {ts} e)) = by_start start.Number x ts _ ts (ap starting e) (refl, refl)
as_atom (leaf (truth {x} {ts} e)) = by_start (start.Truth true) x ts _ ts (ap starting e) (refl, refl)
as_atom (leaf (untruth {x} {ts} e)) = by_start (start.Truth false) x ts _ ts (ap starting e) (refl, refl)
as_atom (leaf (name {x} {ts} e)) = by_start start.Name x ts _ ts (ap starting e) (inl (refl, refl))
as_atom (element {x} {y} {z} {e} {ts} {us} g f r h) = by_start start.Name x (y ∷ ts) _ us (ap starting g) (inr (inl (record { y = y; z = z; e = e; us = ts; begins = refl; opens = f; index = r; closes = h; is = refl })))
as_atom (leaf (part {x} {y} {z} {ts} e f g)) = by_start start.Name x (y ∷ z ∷ ts) _ ts (ap starting e) (inr (inr (record { y = y; z = z; begins = refl; dot = f; field = g; is = refl })))
as_atom (chosen {x} {y} {z} {w} {o} {a} {b} {ts} {us} {ws} e f r g q h) = by_start (start.Choice o) x (y ∷ ts) _ ws (starting_choice x.sign o e) (record { y = y; z = z; w = w; a = a; b = b; us = ts; vs = us; begins = refl; opens = f; left = r; comma = g; right = q; closes = h; is = refl })
as_atom (group {x} {z} {e} {ts} {us} f r g) = by_start start.Group x ts e us (ap starting f) (record { z = z; inner = r; closes = g })
