-- From what is read at places to what a function answers.
use Rattle.std.proofs.Common.{◌≡◌, ℕ, ◌+◌, ◌<◌, ◌≤◌, refl, sym, ◌∙◌, ap, subst, List, [], ◌∷◌, Some, Bool, true, false, drop, length, arith}
use Rattle.tap_base.specs.declared.ast.AstExpr.{AstExpr}
use Rattle.tap_base.specs.declared.ast.AstKind.TheVariants as kind
use Rattle.tap_base.specs.declared.tree.Op.{Op}
use Rattle.tap_base.specs.declared.token.Sign.{Sign}
use Rattle.tap_base.specs.declared.token.Sign.TheVariants as sign
use Rattle.tap_base.specs.declared.join.Join.TheVariants.{Sum}
use Rattle.tap_lexer.specs.Lexeme.{Lexeme}
use Rattle.tap_lexer.specs.Leaves.{node}
use Rattle.tap_lexer.specs.inner.Reading.{Stands, Lacks}
use Rattle.tap_lexer.specs.inner.Reading.{Shows}
use Rattle.tap_lexer.proofs.InARow.{two, three}
use Rattle.tap_expr.specs.declared.start.Start.TheVariants as start
use Rattle.tap_expr.specs.Grammar.{Level, joined, negation, relation, factor, atom, expression, relating, choosing, binary, Reads, plain, denied, single, related, positive, negative, leaf, number, truth, untruth, name, element, part, chosen, group}
use Rattle.tap_expr.specs.inner.ExprSigns.{NoRelation, starting}
use Rattle.tap_expr.specs.inner.ExprReading.{Only, Never, IsFound}
use Rattle.tap_expr.proofs.ExprRules.{denied_only, denied_never, plain_only, plain_never, negative_only, negative_never, positive_only, positive_never, single_only, related_only, related_never, never_nothing, never_atom, number_only, truth_only, group_only, group_never, group_open}
use Rattle.tap_expr.proofs.ExprAtoms.{choice_unopened, choice_never, choice_no_comma, choice_never_right, choice_unclosed, choice_only, name_only, part_never, part_only, element_never, element_open, element_only}

never_at : (l : Level) (xs ts : List Lexeme) (at : ℕ) → drop at xs ≡ ts → Never l ts → Never l (drop at xs)
never_at l xs ts at e h = let P : List Lexeme → Type 0 = λ us. Never l us in subst P (sym e) h

at_never : (l : Level) (xs ts : List Lexeme) (at : ℕ) → drop at xs ≡ ts → Never l (drop at xs) → Never l ts
at_never l xs ts at e h = let P : List Lexeme → Type 0 = λ us. Never l us in subst P e h

only_at : (l : Level) (e : AstExpr) (ts us vs ws : List Lexeme) → ts ≡ us → vs ≡ ws → Only l us e ws → Only l ts e vs
only_at l e ts us vs ws p q h = let P : List Lexeme → Type 0 = λ k. Only l k e vs in subst P (sym p) (let Q : List Lexeme → Type 0 = λ k. Only l us e k in subst Q (sym q) h)

at_only : (l : Level) (e : AstExpr) (ts us vs ws : List Lexeme) → ts ≡ us → vs ≡ ws → Only l ts e vs → Only l us e ws
at_only l e ts us vs ws p q h = only_at l e us ts ws vs (sym p) (sym q) h

reads_at : (l : Level) (e : AstExpr) (ts us vs ws : List Lexeme) → ts ≡ us → vs ≡ ws → Reads l e us ws → Reads l e ts vs
reads_at l e ts us vs ws p q h = let P : List Lexeme → Type 0 = λ k. Reads l e k vs in subst P (sym p) (let Q : List Lexeme → Type 0 = λ k. Reads l e us k in subst Q (sym q) h)

at_reads : (l : Level) (e : AstExpr) (ts us vs ws : List Lexeme) → ts ≡ us → vs ≡ ws → Reads l e ts vs → Reads l e us ws
at_reads l e ts us vs ws p q h = reads_at l e us ts ws vs (sym p) (sym q) h

same_place : (xs : List Lexeme) (k : ℕ) (x y : Lexeme) → Stands xs k x → Stands xs k y → x ≡ y
same_place xs k x y v w = let p = v.cut in let q = w.cut in cc

sign_at : (s : Sign) (xs : List Lexeme) (k : ℕ) (x : Lexeme) → Stands xs k x → Shows s xs k → x.sign ≡ s
sign_at s xs k x w h = let e = same_place xs k x h.x w h.stands in ap (λ (y : Lexeme). y.sign) e ∙ h.is

sign_not_at : (s : Sign) (xs : List Lexeme) (k : ℕ) (x : Lexeme) → Stands xs k x → Lacks s (drop k xs) → x.sign ≡ s → ⊥
sign_not_at s xs k x w h = let P : List Lexeme → Type 0 = λ us. Lacks s us in let g : Lacks s (x ∷ drop (k + 1) xs) = subst P w.cut h in g

pub never_past : (l : Level) (xs : List Lexeme) (at : ℕ) → drop at xs ≡ [] → Never l (drop at xs)
never_past l xs at e = never_at l xs [] at e (never_nothing l)

build : (l : Level) (xs : List Lexeme) (at next : ℕ) (e : AstExpr) (ts us : List Lexeme) → drop at xs ≡ ts → drop next xs ≡ us → next ≤ length xs → at < next → Reads l e ts us → Only l ts e us → IsFound l xs at next e
build l xs at next e ts us p q within further r o = record {
  within = within;
  further = further;
  spelled = reads_at l e (drop at xs) ts (drop next xs) us p q r;
  only = only_at l e (drop at xs) ts (drop next xs) us p q o;
}

module _ (xs : List Lexeme) (at : ℕ) where
  -- ---- negation

  pub denied_found : (next : ℕ) (x : Lexeme) (f : AstExpr) → Stands xs at x → Shows sign.Not xs at → IsFound relation xs (at + 1) next f → IsFound negation xs at next (node (kind.Not f) x.place)
  denied_found next x f w s h =
      let is : x.sign ≡ sign.Not = sign_at sign.Not xs at x w s in
      build negation xs at next (node (kind.Not f) x.place) (x ∷ drop (at + 1) xs) (drop next xs) w.cut refl h.within (let k = h.further in omega arith) (denied is h.spelled) (denied_only x (drop (at + 1) xs) (drop next xs) f is h.only)

  pub denied_refused : (x : Lexeme) → Stands xs at x → Shows sign.Not xs at → Never relation (drop (at + 1) xs) → Never negation (drop at xs)
  denied_refused x w s h = never_at negation xs (x ∷ drop (at + 1) xs) at w.cut (denied_never x (drop (at + 1) xs) (sign_at sign.Not xs at x w s) h)

  pub plain_found : (x : Lexeme) (m : ℕ) (a : AstExpr) → Stands xs at x → Lacks sign.Not (drop at xs) → IsFound relation xs at m a → IsFound negation xs at m a
  plain_found x m a w s h = build negation xs at m a (x ∷ drop (at + 1) xs) (drop m xs) w.cut refl h.within h.further (plain (at_reads relation a (drop at xs) (x ∷ drop (at + 1) xs) (drop m xs) (drop m xs) w.cut refl h.spelled)) (plain_only x (drop (at + 1) xs) (drop m xs) a (sign_not_at sign.Not xs at x w s) (at_only relation a (drop at xs) (x ∷ drop (at + 1) xs) (drop m xs) (drop m xs) w.cut refl h.only))

  pub plain_refused : (x : Lexeme) → Stands xs at x → Lacks sign.Not (drop at xs) → Never relation (drop at xs) → Never negation (drop at xs)
  plain_refused x w s h = never_at negation xs (x ∷ drop (at + 1) xs) at w.cut (plain_never x (drop (at + 1) xs) (sign_not_at sign.Not xs at x w s) (at_never relation xs (x ∷ drop (at + 1) xs) at w.cut h))

  -- ---- factor

  pub negative_found : (next : ℕ) (x : Lexeme) (f : AstExpr) → Stands xs at x → Shows sign.Minus xs at → IsFound atom xs (at + 1) next f → IsFound factor xs at next (node (kind.Neg f) x.place)
  negative_found next x f w s h =
      let is : x.sign ≡ sign.Minus = sign_at sign.Minus xs at x w s in
      build factor xs at next (node (kind.Neg f) x.place) (x ∷ drop (at + 1) xs) (drop next xs) w.cut refl h.within (let k = h.further in omega arith) (negative is h.spelled) (negative_only x (drop (at + 1) xs) (drop next xs) f is h.only)

  pub negative_refused : (x : Lexeme) → Stands xs at x → Shows sign.Minus xs at → Never atom (drop (at + 1) xs) → Never factor (drop at xs)
  negative_refused x w s h = never_at factor xs (x ∷ drop (at + 1) xs) at w.cut (negative_never x (drop (at + 1) xs) (sign_at sign.Minus xs at x w s) h)

  pub positive_found : (x : Lexeme) (m : ℕ) (a : AstExpr) → Stands xs at x → Lacks sign.Minus (drop at xs) → IsFound atom xs at m a → IsFound factor xs at m a
  positive_found x m a w s h = build factor xs at m a (x ∷ drop (at + 1) xs) (drop m xs) w.cut refl h.within h.further (positive (at_reads atom a (drop at xs) (x ∷ drop (at + 1) xs) (drop m xs) (drop m xs) w.cut refl h.spelled)) (positive_only x (drop (at + 1) xs) (drop m xs) a (sign_not_at sign.Minus xs at x w s) (at_only atom a (drop at xs) (x ∷ drop (at + 1) xs) (drop m xs) (drop m xs) w.cut refl h.only))

  pub positive_refused : (x : Lexeme) → Stands xs at x → Lacks sign.Minus (drop at xs) → Never atom (drop at xs) → Never factor (drop at xs)
  positive_refused x w s h = never_at factor xs (x ∷ drop (at + 1) xs) at w.cut (positive_never x (drop (at + 1) xs) (sign_not_at sign.Minus xs at x w s) (at_never atom xs (x ∷ drop (at + 1) xs) at w.cut h))

  -- ---- relation

  pub single_found : (m : ℕ) (a : AstExpr) → IsFound (joined Sum) xs at m a → NoRelation (drop m xs) → IsFound relation xs at m a
  single_found m a h n = record { within = h.within; further = h.further; spelled = single h.spelled; only = single_only (drop at xs) (drop m xs) a n h.only }

  pub related_found : (m : ℕ) (a : AstExpr) (n : ℕ) (b : AstExpr) (x : Lexeme) (o : Op) → IsFound (joined Sum) xs at m a → Stands xs m x → relating x.sign ≡ Some o → IsFound (joined Sum) xs (m + 1) n b → IsFound relation xs at n (binary o a b x.place)
  related_found m a n b x o h w is k =
      build relation xs at n (binary o a b x.place) (drop at xs) (drop n xs) refl refl k.within (let p = h.further in let q = k.further in omega arith)
      (related (at_reads (joined Sum) a (drop at xs) (drop at xs) (drop m xs) (x ∷ drop (m + 1) xs) refl w.cut h.spelled) is k.spelled)
      (related_only (drop at xs) (drop (m + 1) xs) (drop n xs) x o a b is (at_only (joined Sum) a (drop at xs) (drop at xs) (drop m xs) (x ∷ drop (m + 1) xs) refl w.cut h.only) k.only)

  pub related_refused : (m : ℕ) (a : AstExpr) (x : Lexeme) (o : Op) → IsFound (joined Sum) xs at m a → Stands xs m x → relating x.sign ≡ Some o → Never (joined Sum) (drop (m + 1) xs) → Never relation (drop at xs)
  related_refused m a x o h w is never = related_never (drop at xs) (drop (m + 1) xs) x o a is (at_only (joined Sum) a (drop at xs) (drop at xs) (drop m xs) (x ∷ drop (m + 1) xs) refl w.cut h.only) never

  -- ---- atom

  pub atom_refused : (x : Lexeme) → Stands xs at x → starting x.sign ≡ start.Nothing → Never atom (drop at xs)
  atom_refused x w is = never_at atom xs (x ∷ drop (at + 1) xs) at w.cut (never_atom x (drop (at + 1) xs) is)

  starts_number : (s : Sign) → starting s ≡ start.Number → s ≡ sign.Number
  starts_number sign.Number e = refl
  starts_number _ e = cc

  pub number_found : (x : Lexeme) → Stands xs at x → starting x.sign ≡ start.Number → IsFound atom xs at (at + 1) (node (kind.Number x.value) x.place)
  number_found x w is = build atom xs at (at + 1) (node (kind.Number x.value) x.place) (x ∷ drop (at + 1) xs) (drop (at + 1) xs) w.cut refl (let q = w.below in omega arith) (omega arith) (leaf (number (starts_number x.sign is))) (number_only x (drop (at + 1) xs) is)

  starts_truth : (s : Sign) → starting s ≡ start.Truth true → s ≡ sign.True
  starts_truth sign.True e = refl
  starts_truth _ e = cc

  starts_untruth : (s : Sign) → starting s ≡ start.Truth false → s ≡ sign.False
  starts_untruth sign.False e = refl
  starts_untruth _ e = cc

  pub truth_found : (x : Lexeme) (b : Bool) → Stands xs at x → starting x.sign ≡ start.Truth b → IsFound atom xs at (at + 1) (node (kind.Truth b) x.place)
  truth_found x true w is = build atom xs at (at + 1) (node (kind.Truth true) x.place) (x ∷ drop (at + 1) xs) (drop (at + 1) xs) w.cut refl (let q = w.below in omega arith) (omega arith) (leaf (truth (starts_truth x.sign is))) (truth_only x (drop (at + 1) xs) true is)
  truth_found x false w is = build atom xs at (at + 1) (node (kind.Truth false) x.place) (x ∷ drop (at + 1) xs) (drop (at + 1) xs) w.cut refl (let q = w.below in omega arith) (omega arith) (leaf (untruth (starts_untruth x.sign is))) (truth_only x (drop (at + 1) xs) false is)

  pub group_found : (x : Lexeme) (m : ℕ) (a : AstExpr) → Stands xs at x → x.sign ≡ sign.Open → IsFound expression xs (at + 1) m a → Shows sign.Close xs m → IsFound atom xs at (m + 1) a
  group_found x m a w is h z =
      build atom xs at (m + 1) a (x ∷ drop (at + 1) xs) (drop (m + 1) xs) w.cut refl (let q = z.stands.below in omega arith) (let q = h.further in omega arith)
      (group is (at_reads expression a (drop (at + 1) xs) (drop (at + 1) xs) (drop m xs) (z.x ∷ drop (m + 1) xs) refl z.stands.cut h.spelled) z.is)
      (group_only x z.x (drop (at + 1) xs) (drop (m + 1) xs) a is z.is (at_only expression a (drop (at + 1) xs) (drop (at + 1) xs) (drop m xs) (z.x ∷ drop (m + 1) xs) refl z.stands.cut h.only))

  pub group_refused : (x : Lexeme) → Stands xs at x → x.sign ≡ sign.Open → Never expression (drop (at + 1) xs) → Never atom (drop at xs)
  group_refused x w is h = never_at atom xs (x ∷ drop (at + 1) xs) at w.cut (group_never x (drop (at + 1) xs) is h)

  pub group_unclosed : (x : Lexeme) (m : ℕ) (a : AstExpr) → Stands xs at x → x.sign ≡ sign.Open → IsFound expression xs (at + 1) m a → Lacks sign.Close (drop m xs) → Never atom (drop at xs)
  group_unclosed x m a w is h lack = never_at atom xs (x ∷ drop (at + 1) xs) at w.cut (group_open x (drop (at + 1) xs) (drop m xs) a is lack h.only)

  -- ---- min and max

  pub choice_refused_open : (x : Lexeme) (o : Op) → Stands xs at x → choosing x.sign ≡ Some o → Lacks sign.Open (drop (at + 1) xs) → Never atom (drop at xs)
  choice_refused_open x o w is lack = never_at atom xs (x ∷ drop (at + 1) xs) at w.cut (choice_unopened x o is (drop (at + 1) xs) lack)

  pub choice_refused_left : (x : Lexeme) (o : Op) → Stands xs at x → choosing x.sign ≡ Some o → Shows sign.Open xs (at + 1) → Never expression (drop (at + 2) xs) → Never atom (drop at xs)
  choice_refused_left x o w is y h = never_at atom xs (x ∷ y.x ∷ drop (at + 2) xs) at (two xs at x y.x w y.stands) (choice_never x o is y.x (drop (at + 2) xs) h)

  pub choice_refused_comma : (x : Lexeme) (o : Op) (m : ℕ) (a : AstExpr) → Stands xs at x → choosing x.sign ≡ Some o → Shows sign.Open xs (at + 1) → IsFound expression xs (at + 2) m a → Lacks sign.Comma (drop m xs) → Never atom (drop at xs)
  choice_refused_comma x o m a w is y h lack = never_at atom xs (x ∷ y.x ∷ drop (at + 2) xs) at (two xs at x y.x w y.stands) (choice_no_comma x o is y.x (drop (at + 2) xs) (drop m xs) a h.only lack)

  left_only : (m : ℕ) (a : AstExpr) (z : Lexeme) → IsFound expression xs (at + 2) m a → Stands xs m z → Only expression (drop (at + 2) xs) a (z ∷ drop (m + 1) xs)
  left_only m a z h w = at_only expression a (drop (at + 2) xs) (drop (at + 2) xs) (drop m xs) (z ∷ drop (m + 1) xs) refl w.cut h.only

  pub choice_refused_right : (x : Lexeme) (o : Op) (m : ℕ) (a : AstExpr) → Stands xs at x → choosing x.sign ≡ Some o → Shows sign.Open xs (at + 1) → IsFound expression xs (at + 2) m a → Shows sign.Comma xs m → Never expression (drop (m + 1) xs) → Never atom (drop at xs)
  choice_refused_right x o m a w is y h z never = never_at atom xs (x ∷ y.x ∷ drop (at + 2) xs) at (two xs at x y.x w y.stands) (choice_never_right x o is y.x z.x (drop (at + 2) xs) (drop (m + 1) xs) a (left_only m a z.x h z.stands) never)

  pub choice_refused_close : (x : Lexeme) (o : Op) (m : ℕ) (a : AstExpr) (n : ℕ) (b : AstExpr) → Stands xs at x → choosing x.sign ≡ Some o → Shows sign.Open xs (at + 1) → IsFound expression xs (at + 2) m a → Shows sign.Comma xs m → IsFound expression xs (m + 1) n b → Lacks sign.Close (drop n xs) → Never atom (drop at xs)
  choice_refused_close x o m a n b w is y h z k lack = never_at atom xs (x ∷ y.x ∷ drop (at + 2) xs) at (two xs at x y.x w y.stands) (choice_unclosed x o is y.x z.x (drop (at + 2) xs) (drop (m + 1) xs) (drop n xs) a b (left_only m a z.x h z.stands) k.only lack)

  pub choice_found : (x : Lexeme) (o : Op) (m : ℕ) (a : AstExpr) (n : ℕ) (b : AstExpr) → Stands xs at x → choosing x.sign ≡ Some o → Shows sign.Open xs (at + 1) → IsFound expression xs (at + 2) m a → Shows sign.Comma xs m → IsFound expression xs (m + 1) n b → Shows sign.Close xs n → IsFound atom xs at (n + 1) (binary o a b x.place)
  choice_found x o m a n b w is y h z k v =
      build atom xs at (n + 1) (binary o a b x.place) (x ∷ y.x ∷ drop (at + 2) xs) (drop (n + 1) xs) (two xs at x y.x w y.stands) refl (let q = v.stands.below in omega arith) (let q = h.further in let r = k.further in omega arith)
      (chosen is y.is (at_reads expression a (drop (at + 2) xs) (drop (at + 2) xs) (drop m xs) (z.x ∷ drop (m + 1) xs) refl z.stands.cut h.spelled) z.is (at_reads expression b (drop (m + 1) xs) (drop (m + 1) xs) (drop n xs) (v.x ∷ drop (n + 1) xs) refl v.stands.cut k.spelled) v.is)
      (choice_only x o is y.x z.x v.x (drop (at + 2) xs) (drop (m + 1) xs) (drop (n + 1) xs) a b (left_only m a z.x h z.stands) (at_only expression b (drop (m + 1) xs) (drop (m + 1) xs) (drop n xs) (v.x ∷ drop (n + 1) xs) refl v.stands.cut k.only))

  -- ---- names

  pub name_found : (x : Lexeme) → Stands xs at x → x.sign ≡ sign.Name → Lacks sign.OpenIndex (drop (at + 1) xs) → Lacks sign.Dot (drop (at + 1) xs) → IsFound atom xs at (at + 1) (node (kind.Name x.text) x.place)
  name_found x w is no_index no_dot =
      build atom xs at (at + 1) (node (kind.Name x.text) x.place) (x ∷ drop (at + 1) xs) (drop (at + 1) xs) w.cut refl (let q = w.below in omega arith) (omega arith) (leaf (name is)) (name_only x is (drop (at + 1) xs) no_index no_dot)

  pub part_refused : (x : Lexeme) → Stands xs at x → x.sign ≡ sign.Name → Shows sign.Dot xs (at + 1) → Lacks sign.Name (drop (at + 2) xs) → Never atom (drop at xs)
  part_refused x w is y lack = never_at atom xs (x ∷ y.x ∷ drop (at + 2) xs) at (two xs at x y.x w y.stands) (part_never x is y.x (drop (at + 2) xs) y.is lack)

  pub part_found : (x z : Lexeme) → Stands xs at x → x.sign ≡ sign.Name → Shows sign.Dot xs (at + 1) → Stands xs (at + 2) z → Shows sign.Name xs (at + 2) → IsFound atom xs at (at + 3) (node (kind.Part x.text z.text) x.place)
  part_found x z w is y v n =
      build atom xs at (at + 3) (node (kind.Part x.text z.text) x.place) (x ∷ y.x ∷ z ∷ drop (at + 3) xs) (drop (at + 3) xs) (three xs at x y.x z w y.stands v) refl (let q = v.below in omega arith) (omega arith)
      (leaf (part is y.is (sign_at sign.Name xs (at + 2) z v n))) (part_only x is y.x z (drop (at + 3) xs) y.is)

  pub element_refused : (x : Lexeme) → Stands xs at x → x.sign ≡ sign.Name → Shows sign.OpenIndex xs (at + 1) → Never expression (drop (at + 2) xs) → Never atom (drop at xs)
  element_refused x w is y h = never_at atom xs (x ∷ y.x ∷ drop (at + 2) xs) at (two xs at x y.x w y.stands) (element_never x is y.x (drop (at + 2) xs) y.is h)

  pub element_unclosed : (x : Lexeme) (m : ℕ) (a : AstExpr) → Stands xs at x → x.sign ≡ sign.Name → Shows sign.OpenIndex xs (at + 1) → IsFound expression xs (at + 2) m a → Lacks sign.CloseIndex (drop m xs) → Never atom (drop at xs)
  element_unclosed x m a w is y h lack = never_at atom xs (x ∷ y.x ∷ drop (at + 2) xs) at (two xs at x y.x w y.stands) (element_open x is y.x (drop (at + 2) xs) (drop m xs) a y.is h.only lack)

  pub element_found : (x : Lexeme) (m : ℕ) (a : AstExpr) → Stands xs at x → x.sign ≡ sign.Name → Shows sign.OpenIndex xs (at + 1) → IsFound expression xs (at + 2) m a → Shows sign.CloseIndex xs m → IsFound atom xs at (m + 1) (node (kind.Index x.text a) x.place)
  element_found x m a w is y h z =
      build atom xs at (m + 1) (node (kind.Index x.text a) x.place) (x ∷ y.x ∷ drop (at + 2) xs) (drop (m + 1) xs) (two xs at x y.x w y.stands) refl (let q = z.stands.below in omega arith) (let q = h.further in omega arith)
      (element is y.is (at_reads expression a (drop (at + 2) xs) (drop (at + 2) xs) (drop m xs) (z.x ∷ drop (m + 1) xs) refl z.stands.cut h.spelled) z.is)
      (element_only x is y.x z.x (drop (at + 2) xs) (drop (m + 1) xs) a y.is (left_only m a z.x h z.stands))
