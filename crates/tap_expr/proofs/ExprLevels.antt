-- What is answered above atoms, from what is answered of the parts.
use Rattle.std.proofs.Common.{◌≡◌, ℕ, ◌+◌, ◌<◌, ◌≤◌, refl, sym, subst, List, [], ◌∷◌, Some, Result, Ok, Err, IsErrAnd, drop, arith}
use Rattle.tap_base.specs.declared.ast.AstExpr.{AstExpr}
use Rattle.tap_base.specs.declared.ast.AstKind.TheVariants as kind
use Rattle.tap_base.specs.declared.join.Join.{Join}
use Rattle.tap_base.specs.declared.join.Join.TheVariants.{Sum}
use Rattle.tap_base.specs.declared.token.Sign.TheVariants as sign
use Rattle.tap_base.specs.declared.tree.Op.{Op}
use Rattle.tap_lexer.specs.Lexeme.{Lexeme}
use Rattle.tap_lexer.specs.Leaves.{node}
use Rattle.tap_lexer.specs.declared.found.Found.{Found}
use Rattle.tap_lexer.specs.inner.Reading.{Stands, Lacks}
use Rattle.tap_lexer.specs.inner.Reading.{Shows}
use Rattle.tap_expr.specs.Grammar.{Level, joined, part_of, negation, relation, factor, atom, joining, relating, binary}
use Rattle.tap_expr.specs.declared.found.Built.{Built}
use Rattle.tap_expr.specs.declared.found.Stuck.{Stuck}
use Rattle.tap_expr.specs.declared.found.Stuck.TheVariants as stuck
use Rattle.tap_expr.specs.inner.ExprSigns.{Ends, NoRelation}
use Rattle.tap_expr.specs.inner.ExprReading.{Never, IsBuilt, Alike, Answers}
use Rattle.tap_expr.specs.inner.ExprNodes.{OfOne, OfTwo}
use Rattle.tap_expr.proofs.ExprAlike.{less, stands_as, shows_as, lacks_at, ends_at, unrelated_at, empty_at}
use Rattle.tap_expr.proofs.ExprJoins.{Sound, Whole, Kept, sound_first, whole_first, never_first, sound_more, whole_more, never_more, sound_last, only_last}
use Rattle.tap_expr.proofs.ExprRules.{single_never}
use Rattle.tap_expr.proofs.ExprOutcomes.{never_past, denied_found, denied_refused, plain_found, plain_refused, negative_found, negative_refused, positive_found, positive_refused, single_found, related_found, related_refused}

-- a refusal goes up
pub passes : (l m : Level) (xs : List Lexeme) (at bt : ℕ) (r : Result (Found Built) Stuck) (s : Stuck) → IsErrAnd r (λ e. e ≡ s) → Answers l xs at (Err s) → bt ≤ at → ((ys : List Lexeme) (k : ℕ) → at ≤ k → Alike (k + 1) xs ys → Never l (drop at ys) → Never m (drop bt ys)) → Answers m xs bt r
passes l m xs at bt (Ok f) s e h b up = absurd e
passes l m xs at bt (Err (stuck.At k)) (stuck.At i) e h b up = let q : k ≡ i = cc in let P : ℕ → Type 0 = λ z. (bt ≤ z) × ((ys : List Lexeme) → Alike (z + 1) xs ys → Never m (drop bt ys)) in subst P (sym q) (let a = h.0 in omega arith, λ ys same. up ys i h.0 same (h.1 ys same))
passes l m xs at bt (Err (stuck.At k)) stuck.NoMemory e h b up = absurd cc
passes l m xs at bt (Err stuck.NoMemory) s e h b up = tt

-- of equal values
pub valued : (l : Level) (xs : List Lexeme) (at next : ℕ) (a b : Built) → a ≡ b → Answers l xs at (Ok (record { value = b; next = next })) → Answers l xs at (Ok (record { value = a; next = next }))
valued l xs at next a b e h = let P : Built → Type 0 = λ k. Answers l xs at (Ok (record { value = k; next = next })) in subst P (sym e) h

-- of equal levels
pub levelled : (l m : Level) (xs : List Lexeme) (at : ℕ) (r : Result (Found Built) Stuck) → l ≡ m → Answers m xs at r → Answers l xs at r
levelled l m xs at r e h = let P : Level → Type 0 = λ k. Answers k xs at r in subst P (sym e) h

-- what is kept at the loop over the parts of a chain, of the part of it that was read
abbrev pub Carries : Join → List Lexeme → ℕ → ℕ → Built → Type 0
Carries j xs at next b = (ys : List Lexeme) → Alike (next + 1) xs ys → (a : AstExpr) × Kept j ys at next a × IsBuilt a b

sound_cut : (j : Join) (ts : List Lexeme) (a : AstExpr) (ms ns : List Lexeme) → ms ≡ ns → Sound j ts a ms → Sound j ts a ns
sound_cut j ts a ms ns e h = subst (λ k. Sound j ts a k) e h

whole_cut : (j : Join) (ts : List Lexeme) (a : AstExpr) (ms ns : List Lexeme) → ms ≡ ns → Whole j ts a ms → Whole j ts a ns
whole_cut j ts a ms ns e h = subst (λ k. Whole j ts a k) e h

module _ (xs : List Lexeme) (at : ℕ) where
  -- nothing stands there
  pub nothing_there : (l : Level) → drop at xs ≡ [] → Answers l xs at (Err (stuck.At at))
  nothing_there l e = (omega arith, λ ys same. never_past l ys at (empty_at xs ys (at + 1) same at (omega arith) e))

  -- ---- negation

  pub denied_passes : (x : Lexeme) (r : Result (Found Built) Stuck) (s : Stuck) → IsErrAnd r (λ e. e ≡ s) → Stands xs at x → Shows sign.Not xs at → Answers relation xs (at + 1) (Err s) → Answers negation xs at r
  denied_passes x r s e w n h = passes relation negation xs (at + 1) at r s e h (omega arith) (λ ys k g same never. denied_refused ys at x (stands_as xs ys (k + 1) same at (omega arith) x w) (shows_as xs ys (k + 1) same at (omega arith) sign.Not n) never)

  pub denied_answers : (x : Lexeme) (f : Found Built) (b : Built) → Stands xs at x → Shows sign.Not xs at → Answers relation xs (at + 1) (Ok f) → OfOne (λ c. node (kind.Not c) x.place) f.value b → Answers negation xs at (Ok (record { value = b; next = f.next }))
  denied_answers x f b w n h made =
      let further = (h xs refl).1.further in
      λ ys same. let g = h ys same in (node (kind.Not g.0) x.place, denied_found ys at f.next x g.0 (stands_as xs ys (f.next + 1) same at (omega arith) x w) (shows_as xs ys (f.next + 1) same at (omega arith) sign.Not n) g.1, made g.0 g.2)

  pub plain_answers : (x : Lexeme) (r : Result (Found Built) Stuck) → Stands xs at x → Lacks sign.Not (drop at xs) → Answers relation xs at r → Answers negation xs at r
  plain_answers x (Ok f) w n h = let further = (h xs refl).1.further in λ ys same. let g = h ys same in (g.0, plain_found ys at x f.next g.0 (stands_as xs ys (f.next + 1) same at (omega arith) x w) (lacks_at xs ys (f.next + 1) same at (omega arith) sign.Not n) g.1, g.2)
  plain_answers x (Err (stuck.At k)) w n h = let b = h.0 in (b, λ ys same. plain_refused ys at x (stands_as xs ys (k + 1) same at (omega arith) x w) (lacks_at xs ys (k + 1) same at (omega arith) sign.Not n) (h.1 ys same))
  plain_answers x (Err stuck.NoMemory) w n h = tt

  -- ---- factor

  pub negative_passes : (x : Lexeme) (r : Result (Found Built) Stuck) (s : Stuck) → IsErrAnd r (λ e. e ≡ s) → Stands xs at x → Shows sign.Minus xs at → Answers atom xs (at + 1) (Err s) → Answers factor xs at r
  negative_passes x r s e w n h = passes atom factor xs (at + 1) at r s e h (omega arith) (λ ys k g same never. negative_refused ys at x (stands_as xs ys (k + 1) same at (omega arith) x w) (shows_as xs ys (k + 1) same at (omega arith) sign.Minus n) never)

  pub negative_answers : (x : Lexeme) (f : Found Built) (b : Built) → Stands xs at x → Shows sign.Minus xs at → Answers atom xs (at + 1) (Ok f) → OfOne (λ c. node (kind.Neg c) x.place) f.value b → Answers factor xs at (Ok (record { value = b; next = f.next }))
  negative_answers x f b w n h made =
      let further = (h xs refl).1.further in
      λ ys same. let g = h ys same in (node (kind.Neg g.0) x.place, negative_found ys at f.next x g.0 (stands_as xs ys (f.next + 1) same at (omega arith) x w) (shows_as xs ys (f.next + 1) same at (omega arith) sign.Minus n) g.1, made g.0 g.2)

  pub positive_answers : (x : Lexeme) (r : Result (Found Built) Stuck) → Stands xs at x → Lacks sign.Minus (drop at xs) → Answers atom xs at r → Answers factor xs at r
  positive_answers x (Ok f) w n h = let further = (h xs refl).1.further in λ ys same. let g = h ys same in (g.0, positive_found ys at x f.next g.0 (stands_as xs ys (f.next + 1) same at (omega arith) x w) (lacks_at xs ys (f.next + 1) same at (omega arith) sign.Minus n) g.1, g.2)
  positive_answers x (Err (stuck.At k)) w n h = let b = h.0 in (b, λ ys same. positive_refused ys at x (stands_as xs ys (k + 1) same at (omega arith) x w) (lacks_at xs ys (k + 1) same at (omega arith) sign.Minus n) (h.1 ys same))
  positive_answers x (Err stuck.NoMemory) w n h = tt

  -- ---- relation

  pub single_passes : (r : Result (Found Built) Stuck) (s : Stuck) → IsErrAnd r (λ e. e ≡ s) → Answers (joined Sum) xs at (Err s) → Answers relation xs at r
  single_passes r s e h = passes (joined Sum) relation xs at at r s e h (omega arith) (λ ys k g same never. single_never (drop at ys) never)

  pub single_answers : (f : Found Built) → Answers (joined Sum) xs at (Ok f) → NoRelation (drop f.next xs) → Answers relation xs at (Ok f)
  single_answers f h n = λ ys same. let g = h ys same in (g.0, single_found ys at f.next g.0 g.1 (unrelated_at xs ys (f.next + 1) same f.next (omega arith) n), g.2)

  pub related_passes : (x : Lexeme) (o : Op) (f : Found Built) (r : Result (Found Built) Stuck) (s : Stuck) → IsErrAnd r (λ e. e ≡ s) → Answers (joined Sum) xs at (Ok f) → Stands xs f.next x → relating x.sign ≡ Some o → Answers (joined Sum) xs (f.next + 1) (Err s) → Answers relation xs at r
  related_passes x o f r s e left w is h =
      let further = (left xs refl).1.further in
      passes (joined Sum) relation xs (f.next + 1) at r s e h (omega arith) (λ ys k g same never.
      let c = left ys (less (f.next + 1) (k + 1) xs ys (omega arith) same) in
      related_refused ys at f.next c.0 x o c.1 (stands_as xs ys (k + 1) same f.next (omega arith) x w) is never)

  pub related_answers : (x : Lexeme) (o : Op) (f g : Found Built) (b : Built) → Answers (joined Sum) xs at (Ok f) → Stands xs f.next x → relating x.sign ≡ Some o → Answers (joined Sum) xs (f.next + 1) (Ok g) → OfTwo (λ c d. node (kind.Binary o c d) x.place) f.value g.value b → Answers relation xs at (Ok (record { value = b; next = g.next }))
  related_answers x o f g b left w is right made =
      let further = (left xs refl).1.further in
      let beyond = (right xs refl).1.further in
      λ ys same.
      let c = left ys (less (f.next + 1) (g.next + 1) xs ys (omega arith) same) in
      let d = right ys same in
      (binary o c.0 d.0 x.place, related_found ys at f.next c.0 g.next d.0 x o c.1 (stands_as xs ys (g.next + 1) same f.next (omega arith) x w) is d.1, made c.0 d.0 c.2 d.2)

  -- ---- chains

  module _ (j : Join) where
    pub first_passes : (r : Result (Found Built) Stuck) (s : Stuck) → IsErrAnd r (λ e. e ≡ s) → Answers (part_of j) xs at (Err s) → Answers (joined j) xs at r
    first_passes r s e h = passes (part_of j) (joined j) xs at at r s e h (omega arith) (λ ys k g same never. never_first j (drop at ys) never)

    pub carries_first : (f : Found Built) → Answers (part_of j) xs at (Ok f) → Carries j xs at f.next f.value
    carries_first f h = λ ys same. let g = h ys same in (
      g.0,
      record {
        within = g.1.within;
        sound = sound_first j (drop at ys) (drop f.next ys) g.0 g.1.spelled;
        whole = whole_first j (drop at ys) (drop f.next ys) g.0 g.1.only;
      },
      g.2,
    )

    pub more_passes : (x : Lexeme) (o : Op) (next : ℕ) (b : Built) (r : Result (Found Built) Stuck) (s : Stuck) → IsErrAnd r (λ e. e ≡ s) → at < next → Carries j xs at next b → Stands xs next x → joining j x.sign ≡ Some o → Answers (part_of j) xs (next + 1) (Err s) → Answers (joined j) xs at r
    more_passes x o next b r s e further kept w is h = passes (part_of j) (joined j) xs (next + 1) at r s e h (omega arith) (λ ys k g same never.
        let c = kept ys (less (next + 1) (k + 1) xs ys (omega arith) same) in
        let v = stands_as xs ys (k + 1) same next (omega arith) x w in
        never_more j o x (drop at ys) (drop (next + 1) ys) c.0 is never (whole_cut j (drop at ys) c.0 (drop next ys) (x ∷ drop (next + 1) ys) v.cut c.1.whole))

    pub carries_more : (x : Lexeme) (o : Op) (next : ℕ) (b c : Built) (f : Found Built) → Carries j xs at next b → Stands xs next x → joining j x.sign ≡ Some o → Answers (part_of j) xs (next + 1) (Ok f) → OfTwo (λ d e. node (kind.Binary o d e) x.place) b f.value c → Carries j xs at f.next c
    carries_more x o next b c f kept w is h made =
        let further = (h xs refl).1.further in
        λ ys same.
        let k = kept ys (less (next + 1) (f.next + 1) xs ys (omega arith) same) in
        let g = h ys same in
        let v = stands_as xs ys (f.next + 1) same next (omega arith) x w in (
          binary o k.0 g.0 x.place,
          record {
            within = g.1.within;
            sound = sound_more j o x (drop at ys) (drop (next + 1) ys) (drop f.next ys) k.0 g.0 is g.1.spelled (sound_cut j (drop at ys) k.0 (drop next ys) (x ∷ drop (next + 1) ys) v.cut k.1.sound);
            whole = whole_more j o x (drop at ys) (drop (next + 1) ys) (drop f.next ys) k.0 g.0 is g.1.only (whole_cut j (drop at ys) k.0 (drop next ys) (x ∷ drop (next + 1) ys) v.cut k.1.whole);
          },
          made k.0 g.0 k.2 g.2,
        )

    pub joined_answers : (next : ℕ) (b : Built) → at < next → Carries j xs at next b → Ends j (drop next xs) → Answers (joined j) xs at (Ok (record { value = b; next = next }))
    joined_answers next b further kept n = λ ys same. let k = kept ys same in (
      k.0,
      record {
        within = k.1.within;
        further = further;
        spelled = sound_last j (drop at ys) (drop next ys) k.0 k.1.sound;
        only = only_last j (drop at ys) (drop next ys) k.0 (ends_at xs ys (next + 1) same next (omega arith) j n) k.1.whole;
      },
      k.2,
    )
