-- Atoms of several tokens.
use Rattle.std.proofs.Common.{◌≡◌, sym, ◌∙◌, ap, subst, inl, inr, List, [], ◌∷◌, Some, true}
use Rattle.tap_base.specs.declared.ast.AstExpr.{AstExpr}
use Rattle.tap_base.specs.declared.ast.AstKind.TheVariants as kind
use Rattle.tap_base.specs.declared.tree.Op.{Op}
use Rattle.tap_base.specs.declared.token.Sign.{Sign}
use Rattle.tap_base.specs.declared.token.Sign.TheVariants as sign
use Rattle.tap_lexer.specs.Lexeme.{Lexeme}
use Rattle.tap_lexer.specs.Leaves.{node}
use Rattle.tap_lexer.specs.inner.Reading.{Lacks}
use Rattle.tap_expr.specs.declared.start.Start.TheVariants as start
use Rattle.tap_expr.specs.Grammar.{atom, expression, choosing, binary, Reads}
use Rattle.tap_expr.specs.inner.ExprSigns.{starting}
use Rattle.tap_expr.specs.inner.ExprReading.{carries_on, follows_name, Stops, Only, Never}
use Rattle.tap_expr.proofs.ExprFronts.{IsAtom, AsElement, AsChoice, starting_choice}
use Rattle.tap_expr.proofs.ExprRules.{lacks, cases}

-- ---- min and max

module _ (x : Lexeme) (o : Op) (is : choosing x.sign ≡ Some o) where
  choice : {ts ws : List Lexeme} {d : AstExpr} → Reads atom d (x ∷ ts) ws → AsChoice o x ts d ws
  choice {ts} {ws} {d} r = cases (start.Choice o) x ts d ws (starting_choice x.sign o is) r

  pub choice_unopened : (ts : List Lexeme) → Lacks sign.Open ts → Never atom (x ∷ ts)
  choice_unopened ts lack d ws r h = let c = choice r in lacks sign.Open c.y c.us ts lack (sym c.begins) c.opens

  first_of_choice : (y : Lexeme) (us ws : List Lexeme) (d : AstExpr) → (c : AsChoice o x (y ∷ us) d ws) → Reads expression c.a us (c.z ∷ c.vs)
  first_of_choice y us ws d c = let e : c.us ≡ us = let b = c.begins in cc in subst (λ k. Reads expression c.a k (c.z ∷ c.vs)) e c.left

  pub choice_never : (y : Lexeme) (us : List Lexeme) → Never expression us → Never atom (x ∷ y ∷ us)
  unfolding carries_on
  choice_never y us never d ws r h = let c = choice r in never c.a (c.z ∷ c.vs) (first_of_choice y us ws d c) (ap (carries_on expression) c.comma)

  first_same : (y : Lexeme) (us ws vs : List Lexeme) (a d : AstExpr) → Only expression us a vs → (c : AsChoice o x (y ∷ us) d ws) → (c.a ≡ a) × (c.z ∷ c.vs ≡ vs)
  unfolding carries_on
  first_same y us ws vs a d only c = only c.a (c.z ∷ c.vs) (first_of_choice y us ws d c) (ap (carries_on expression) c.comma)

  pub choice_no_comma : (y : Lexeme) (us vs : List Lexeme) (a : AstExpr) → Only expression us a vs → Lacks sign.Comma vs → Never atom (x ∷ y ∷ us)
  choice_no_comma y us vs a only lack d ws r h = let c = choice r in lacks sign.Comma c.z c.vs vs lack (first_same y us ws vs a d only c).1 c.comma

  second_of_choice : (y z : Lexeme) (us ws vs : List Lexeme) (a d : AstExpr) → Only expression us a (z ∷ vs) → (c : AsChoice o x (y ∷ us) d ws) → Reads expression c.b vs (c.w ∷ ws)
  second_of_choice y z us ws vs a d only c = let s = first_same y us ws (z ∷ vs) a d only c in let e : c.vs ≡ vs = let b = s.1 in cc in subst (λ k. Reads expression c.b k (c.w ∷ ws)) e c.right

  pub choice_never_right : (y z : Lexeme) (us vs : List Lexeme) (a : AstExpr) → Only expression us a (z ∷ vs) → Never expression vs → Never atom (x ∷ y ∷ us)
  unfolding carries_on
  choice_never_right y z us vs a only never d ws r h = let c = choice r in never c.b (c.w ∷ ws) (second_of_choice y z us ws vs a d only c) (ap (carries_on expression) c.closes)

  second_same : (y z : Lexeme) (us ws vs ks : List Lexeme) (a b d : AstExpr) → Only expression us a (z ∷ vs) → Only expression vs b ks → (c : AsChoice o x (y ∷ us) d ws) → (c.b ≡ b) × (c.w ∷ ws ≡ ks)
  unfolding carries_on
  second_same y z us ws vs ks a b d left right c = right c.b (c.w ∷ ws) (second_of_choice y z us ws vs a d left c) (ap (carries_on expression) c.closes)

  pub choice_unclosed : (y z : Lexeme) (us vs ks : List Lexeme) (a b : AstExpr) → Only expression us a (z ∷ vs) → Only expression vs b ks → Lacks sign.Close ks → Never atom (x ∷ y ∷ us)
  choice_unclosed y z us vs ks a b left right lack d ws r h = let c = choice r in lacks sign.Close c.w ws ks lack (second_same y z us ws vs ks a b d left right c).1 c.closes

  pub choice_only : (y z w : Lexeme) (us vs ks : List Lexeme) (a b : AstExpr) → Only expression us a (z ∷ vs) → Only expression vs b (w ∷ ks) → Only atom (x ∷ y ∷ us) (binary o a b x.place) ks
  choice_only y z w us vs ks a b left right d ws r h =
      let c = choice r in
      let f = first_same y us ws (z ∷ vs) a d left c in
      let g = second_same y z us ws vs (w ∷ ks) a b d left right c in
      let e : ws ≡ ks = let q = g.1 in cc in
      (c.is ∙ ap (λ k. binary o k c.b x.place) f.0 ∙ ap (λ k. binary o a k x.place) g.0, e)

-- ---- names, elements and parts

module _ (x : Lexeme) (is : x.sign ≡ sign.Name) where
  named : {ts ws : List Lexeme} {d : AstExpr} → Reads atom d (x ∷ ts) ws → IsAtom start.Name x ts d ws
  named {ts} {ws} {d} r = cases start.Name x ts d ws (ap starting is) r

  pub name_only : (ts : List Lexeme) → Lacks sign.OpenIndex ts → Lacks sign.Dot ts → Only atom (x ∷ ts) (node (kind.Name x.text) x.place) ts
  name_only ts no_index no_dot d ws r h = go (named r)
    where
      go : IsAtom start.Name x ts d ws → (d ≡ node (kind.Name x.text) x.place) × (ws ≡ ts)
      go (inl e) = e
      go (inr (inl e)) = absurd (lacks sign.OpenIndex e.y e.us ts no_index (sym e.begins) e.opens)
      go (inr (inr e)) = absurd (lacks sign.Dot e.y (e.z ∷ ws) ts no_dot (sym e.begins) e.dot)

  -- after a sign that carries a name on, the name alone does not stop
  name_goes_on : (y : Lexeme) (us ws : List Lexeme) → follows_name y.sign ≡ true → ws ≡ y ∷ us → Stops atom ws → ⊥
  unfolding carries_on
  name_goes_on y us [] f e h = cc
  name_goes_on y us (k ∷ ws) f e h = let s : k ≡ y = cc in let q : follows_name k.sign ≡ follows_name y.sign = ap (λ (z : Lexeme). follows_name z.sign) s in absurd cc

  head_sign : (y z : Lexeme) (us vs : List Lexeme) (s : Sign) → y ∷ us ≡ z ∷ vs → z.sign ≡ s → y.sign ≡ s
  head_sign y z us vs s e f = let k : y ≡ z = cc in ap (λ (q : Lexeme). q.sign) k ∙ f

  pub part_never : (y : Lexeme) (ts : List Lexeme) → y.sign ≡ sign.Dot → Lacks sign.Name ts → Never atom (x ∷ y ∷ ts)
  part_never y ts dot lack d ws r h = go (named r)
    where
      go : IsAtom start.Name x (y ∷ ts) d ws → ⊥
      go (inl e) = name_goes_on y ts ws (ap follows_name dot) e.1 h
      go (inr (inl e)) = let o : y.sign ≡ sign.OpenIndex = head_sign y e.y ts e.us sign.OpenIndex e.begins e.opens in absurd cc
      go (inr (inr e)) = let b : e.z ∷ ws ≡ ts = let q = e.begins in cc in lacks sign.Name e.z ws ts lack b e.field

  pub part_only : (y z : Lexeme) (ts : List Lexeme) → y.sign ≡ sign.Dot → Only atom (x ∷ y ∷ z ∷ ts) (node (kind.Part x.text z.text) x.place) ts
  part_only y z ts dot d ws r h = go (named r)
    where
      go : IsAtom start.Name x (y ∷ z ∷ ts) d ws → (d ≡ node (kind.Part x.text z.text) x.place) × (ws ≡ ts)
      go (inl e) = absurd (name_goes_on y (z ∷ ts) ws (ap follows_name dot) e.1 h)
      go (inr (inl e)) = let o : y.sign ≡ sign.OpenIndex = head_sign y e.y (z ∷ ts) e.us sign.OpenIndex e.begins e.opens in absurd cc
      go (inr (inr e)) = let q = e.begins in let w : ws ≡ ts = cc in let k : e.z ≡ z = cc in (e.is ∙ ap (λ (v : Lexeme). node (kind.Part x.text v.text) x.place) k, w)

  inside : (y : Lexeme) (us ws : List Lexeme) (d : AstExpr) → (e : AsElement x (y ∷ us) d ws) → Reads expression e.e us (e.z ∷ ws)
  inside y us ws d e = let b : e.us ≡ us = let q = e.begins in cc in subst (λ k. Reads expression e.e k (e.z ∷ ws)) b e.index

  pub element_never : (y : Lexeme) (us : List Lexeme) → y.sign ≡ sign.OpenIndex → Never expression us → Never atom (x ∷ y ∷ us)
  unfolding carries_on
  element_never y us opens never d ws r h = go (named r)
    where
      go : IsAtom start.Name x (y ∷ us) d ws → ⊥
      go (inl e) = name_goes_on y us ws (ap follows_name opens) e.1 h
      go (inr (inl e)) = never e.e (e.z ∷ ws) (inside y us ws d e) (ap (carries_on expression) e.closes)
      go (inr (inr e)) = let o : y.sign ≡ sign.Dot = head_sign y e.y us (e.z ∷ ws) sign.Dot e.begins e.dot in absurd cc

  pub element_open : (y : Lexeme) (us vs : List Lexeme) (i : AstExpr) → y.sign ≡ sign.OpenIndex → Only expression us i vs → Lacks sign.CloseIndex vs → Never atom (x ∷ y ∷ us)
  unfolding carries_on
  element_open y us vs i opens only lack d ws r h = go (named r)
    where
      go : IsAtom start.Name x (y ∷ us) d ws → ⊥
      go (inl e) = name_goes_on y us ws (ap follows_name opens) e.1 h
      go (inr (inl e)) = lacks sign.CloseIndex e.z ws vs lack (only e.e (e.z ∷ ws) (inside y us ws d e) (ap (carries_on expression) e.closes)).1 e.closes
      go (inr (inr e)) = let o : y.sign ≡ sign.Dot = head_sign y e.y us (e.z ∷ ws) sign.Dot e.begins e.dot in absurd cc

  pub element_only : (y z : Lexeme) (us vs : List Lexeme) (i : AstExpr) → y.sign ≡ sign.OpenIndex → Only expression us i (z ∷ vs) → Only atom (x ∷ y ∷ us) (node (kind.Index x.text i) x.place) vs
  unfolding carries_on
  element_only y z us vs i opens only d ws r h = go (named r)
    where
      go : IsAtom start.Name x (y ∷ us) d ws → (d ≡ node (kind.Index x.text i) x.place) × (ws ≡ vs)
      go (inl e) = absurd (name_goes_on y us ws (ap follows_name opens) e.1 h)
      go (inr (inl e)) = let w = only e.e (e.z ∷ ws) (inside y us ws d e) (ap (carries_on expression) e.closes) in let q : ws ≡ vs = let p = w.1 in cc in (e.is ∙ ap (λ k. node (kind.Index x.text k) x.place) w.0, q)
      go (inr (inr e)) = let o : y.sign ≡ sign.Dot = head_sign y e.y us (e.z ∷ ws) sign.Dot e.begins e.dot in absurd cc
