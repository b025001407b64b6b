-- Parts that are joined: what a loop over them keeps.
use Rattle.std.proofs.Common.{◌≡◌, refl, sym, ◌∙◌, ap, subst, List, ◌∷◌, Some, true, ℕ, ◌≤◌, length, drop}
use Rattle.std.proofs.lemmas.Option.{same_Some}
use Rattle.tap_base.specs.declared.ast.AstExpr.{AstExpr}
use Rattle.tap_base.specs.declared.tree.Op.{Op}
use Rattle.tap_base.specs.declared.join.Join.{Join}
use Rattle.tap_lexer.specs.Lexeme.{Lexeme}
use Rattle.tap_expr.specs.Grammar.{joined, joining, part_of, binary, Reads, Goes, done, more, chain}
use Rattle.tap_expr.specs.inner.ExprSigns.{Ends}
use Rattle.tap_expr.specs.inner.ExprReading.{carries_on, Stops, Only, Never}
use Rattle.tap_expr.proofs.ExprStops.{goes_stops, joining_carries}

-- what goes on from a completes the joined parts at ts
abbrev pub Sound : Join → List Lexeme → AstExpr → List Lexeme → Type 0
Sound j ts a ms = (e : AstExpr) (us : List Lexeme) → Goes j a e ms us → Reads (joined j) e ts us

-- each reading at ts that stops goes on from a
abbrev pub Whole : Join → List Lexeme → AstExpr → List Lexeme → Type 0
Whole j ts a ms = (e : AstExpr) (us : List Lexeme) → Reads (joined j) e ts us → Stops (joined j) us → Goes j a e ms us

pub sound_first : (j : Join) (ts ms : List Lexeme) (a : AstExpr) → Reads (part_of j) a ts ms → Sound j ts a ms
sound_first j ts ms a r e us g = chain r g

along : {j : Join} {e : AstExpr} {us : List Lexeme} (a b : AstExpr) (ms ns : List Lexeme) → a ≡ b → ms ≡ ns → Goes j a e ms us → Goes j b e ns us
along {j} {e} {us} a b ms ns p q g = subst (λ m. Goes j b e m us) q (subst (λ c. Goes j c e ms us) p g)

pub whole_first : (j : Join) (ts ms : List Lexeme) (a : AstExpr) → Only (part_of j) ts a ms → Whole j ts a ms
whole_first j ts ms a only e us (chain {a = b} {us = ns} r g) h = let o = only b ns r (goes_stops g h) in along b a ns ms o.0 o.1 g

pub never_first : (j : Join) (ts : List Lexeme) → Never (part_of j) ts → Never (joined j) ts
never_first j ts never e us (chain {a = b} {us = ns} r g) h = never b ns r (goes_stops g h)

pub sound_more : (j : Join) (o : Op) (x : Lexeme) (ts ms ns : List Lexeme) (a b : AstExpr) → joining j x.sign ≡ Some o → Reads (part_of j) b ms ns → Sound j ts a (x ∷ ms) → Sound j ts (binary o a b x.place) ns
sound_more j o x ts ms ns a b e r sound d us g = sound d us (more e r g)

-- the next part of what goes on
next : (j : Join) (o : Op) (x : Lexeme) (ms ns : List Lexeme) (a b d : AstExpr) (us : List Lexeme) → joining j x.sign ≡ Some o → Only (part_of j) ms b ns → Goes j a d (x ∷ ms) us → Stops (joined j) us → Goes j (binary o a b x.place) d ns us
next j o x ms ns a b d us e only done h = let c : carries_on (joined j) x.sign ≡ true = joining_carries j x.sign o e in absurd cc
next j o x ms ns a b d us e only (more {o = p} {b = c} {us = ks} f r g) h =
    let w = only c ks r (goes_stops g h) in
    along (binary p a c x.place) (binary o a b x.place) ks ns (ap (λ q. binary q a c x.place) (same_Some p o (sym f ∙ e)) ∙ ap (λ q. binary o a q x.place) w.0) w.1 g

pub whole_more : (j : Join) (o : Op) (x : Lexeme) (ts ms ns : List Lexeme) (a b : AstExpr) → joining j x.sign ≡ Some o → Only (part_of j) ms b ns → Whole j ts a (x ∷ ms) → Whole j ts (binary o a b x.place) ns
whole_more j o x ts ms ns a b e only whole d us r h = next j o x ms ns a b d us e only (whole d us r h) h

fails : (j : Join) (o : Op) (x : Lexeme) (ms : List Lexeme) (a d : AstExpr) (us : List Lexeme) → joining j x.sign ≡ Some o → Never (part_of j) ms → Goes j a d (x ∷ ms) us → Stops (joined j) us → ⊥
fails j o x ms a d us e never done h = let c : carries_on (joined j) x.sign ≡ true = joining_carries j x.sign o e in absurd cc
fails j o x ms a d us e never (more {b = c} {us = ks} f r g) h = never c ks r (goes_stops g h)

pub never_more : (j : Join) (o : Op) (x : Lexeme) (ts ms : List Lexeme) (a : AstExpr) → joining j x.sign ≡ Some o → Never (part_of j) ms → Whole j ts a (x ∷ ms) → Never (joined j) ts
never_more j o x ts ms a e never whole d us r h = fails j o x ms a d us e never (whole d us r h) h

pub sound_last : (j : Join) (ts ms : List Lexeme) (a : AstExpr) → Sound j ts a ms → Reads (joined j) a ts ms
sound_last j ts ms a sound = sound a ms done

stays : (j : Join) (ms us : List Lexeme) (a d : AstExpr) → Ends j ms → Goes j a d ms us → (d ≡ a) × (us ≡ ms)
stays j ms us a d h done = (refl, refl)
stays j ms us a d h (more e r g) = absurd cc

pub only_last : (j : Join) (ts ms : List Lexeme) (a : AstExpr) → Ends j ms → Whole j ts a ms → Only (joined j) ts a ms
only_last j ts ms a ends whole d us r h = stays j ms us a d ends (whole d us r h)

-- what a loop over the parts keeps: it has come from a part at at to next
pub record Kept (j : Join) (xs : List Lexeme) (at next : ℕ) (a : AstExpr) : Type 0 where
  pub within : next ≤ length xs
  pub sound : Sound j (drop at xs) a (drop next xs)
  pub whole : Whole j (drop at xs) a (drop next xs)
