-- What is answered of atoms, from what is answered of their parts.
use Rattle.std.proofs.Common.{◌≡◌, ℕ, ◌+◌, refl, sym, ◌∙◌, ap, subst, List, Some, Result, Ok, Err, IsErrAnd, Bool, drop, arith, rules}
use Rattle.std.specs.Prelude.{ℤ}
use Rattle.tap_base.specs.declared.place.Place.{Place}
use Rattle.tap_base.specs.declared.ast.AstKind.{AstKind}
use Rattle.tap_base.specs.declared.ast.AstKind.{the_lemmas}
use Rattle.tap_base.specs.declared.ast.AstKind.TheVariants as kind
use Rattle.tap_base.specs.declared.token.Sign.TheVariants as sign
use Rattle.tap_base.specs.declared.tree.Op.{Op}
use Rattle.tap_lexer.specs.Lexeme.{Lexeme}
use Rattle.tap_lexer.specs.Leaves.{node}
use Rattle.tap_lexer.specs.declared.found.Found.{Found}
use Rattle.tap_lexer.specs.inner.Reading.{Stands, Lacks}
use Rattle.tap_lexer.specs.inner.Reading.{Shows}
use Rattle.tap_expr.specs.Grammar.{atom, expression, choosing, binary}
use Rattle.tap_expr.specs.declared.found.Built.{Built}
use Rattle.tap_expr.specs.declared.found.Built.TheVariants as built
use Rattle.tap_expr.specs.declared.found.Stuck.{Stuck}
use Rattle.tap_expr.specs.declared.found.Stuck.TheVariants as stuck
use Rattle.tap_expr.specs.declared.start.Start.TheVariants as start
use Rattle.tap_expr.specs.inner.ExprSigns.{starting}
use Rattle.tap_expr.specs.inner.ExprReading.{IsBuilt, Answers}
use Rattle.tap_expr.specs.inner.ExprNodes.{OfOne, OfTwo}
use Rattle.tap_expr.proofs.ExprAlike.{less, stands_as, shows_as, lacks_at}
use Rattle.tap_expr.proofs.ExprLevels.{passes}
use Rattle.tap_expr.proofs.ExprOutcomes.{atom_refused, number_found, truth_found, group_found, group_refused, group_unclosed, choice_refused_open, choice_refused_left, choice_refused_comma, choice_refused_right, choice_refused_close, choice_found, name_found, part_refused, part_found, element_refused, element_unclosed, element_found}

-- what is kept of a node without parts
leaf_is : (k l : AstKind) (p : Place) → k ≡ l → IsBuilt (node l p) (built.Whole (node l p) 1) → IsBuilt (node l p) (built.Whole (node k p) 1)
leaf_is k l p e h = let P : AstKind → Type 0 = λ q. IsBuilt (node l p) (built.Whole (node q p) 1) in subst P (sym e) h

number_built : (v : ℤ) (p : Place) → IsBuilt (node (kind.Number v) p) (built.Whole (node (kind.Number v) p) 1)
number_built v p = (refl, search (rules, the_lemmas), omega arith)

truth_built : (b : Bool) (p : Place) → IsBuilt (node (kind.Truth b) p) (built.Whole (node (kind.Truth b) p) 1)
truth_built b p = (refl, search (rules, the_lemmas), omega arith)

name_built : (t : List ℕ) (p : Place) → IsBuilt (node (kind.Name t) p) (built.Whole (node (kind.Name t) p) 1)
name_built t p = (refl, search (rules, the_lemmas), omega arith)

part_built : (t u : List ℕ) (p : Place) → IsBuilt (node (kind.Part t u) p) (built.Whole (node (kind.Part t u) p) 1)
part_built t u p = (refl, search (rules, the_lemmas), omega arith)

module _ (xs : List Lexeme) (at : ℕ) where
  pub unstarted : (x : Lexeme) → Stands xs at x → starting x.sign ≡ start.Nothing → Answers atom xs at (Err (stuck.At at))
  unstarted x w is = (omega arith, λ ys same. atom_refused ys at x (stands_as xs ys (at + 1) same at (omega arith) x w) is)

  pub number_answers : (x : Lexeme) (k : AstKind) → Stands xs at x → starting x.sign ≡ start.Number → k ≡ kind.Number x.value → Answers atom xs at (Ok (record { value = built.Whole (node k x.place) 1; next = at + 1 }))
  number_answers x k w is e = λ ys same. (node (kind.Number x.value) x.place, number_found ys at x (stands_as xs ys ((at + 1) + 1) same at (omega arith) x w) is, leaf_is k (kind.Number x.value) x.place e (number_built x.value x.place))

  pub truth_answers : (x : Lexeme) (b : Bool) (k : AstKind) → Stands xs at x → starting x.sign ≡ start.Truth b → k ≡ kind.Truth b → Answers atom xs at (Ok (record { value = built.Whole (node k x.place) 1; next = at + 1 }))
  truth_answers x b k w is e = λ ys same. (node (kind.Truth b) x.place, truth_found ys at x b (stands_as xs ys ((at + 1) + 1) same at (omega arith) x w) is, leaf_is k (kind.Truth b) x.place e (truth_built b x.place))

  -- ---- parentheses

  module _ (x : Lexeme) (w : Stands xs at x) (is : x.sign ≡ sign.Open) where
    pub group_passes : (r : Result (Found Built) Stuck) (s : Stuck) → IsErrAnd r (λ e. e ≡ s) → Answers expression xs (at + 1) (Err s) → Answers atom xs at r
    group_passes r s e h = passes expression atom xs (at + 1) at r s e h (omega arith) (λ ys k g same never. group_refused ys at x (stands_as xs ys (k + 1) same at (omega arith) x w) is never)

    pub group_open_answers : (f : Found Built) → Answers expression xs (at + 1) (Ok f) → Lacks sign.Close (drop f.next xs) → Answers atom xs at (Err (stuck.At f.next))
    group_open_answers f h lack = let further = (h xs refl).1.further in (omega arith, λ ys same. let g = h ys same in group_unclosed ys at x f.next g.0 (stands_as xs ys (f.next + 1) same at (omega arith) x w) is g.1 (lacks_at xs ys (f.next + 1) same f.next (omega arith) sign.Close lack))

    pub group_answers : (f : Found Built) → Answers expression xs (at + 1) (Ok f) → Shows sign.Close xs f.next → Answers atom xs at (Ok (record { value = f.value; next = f.next + 1 }))
    group_answers f h z = let further = (h xs refl).1.further in λ ys same. let g = h ys (less (f.next + 1) ((f.next + 1) + 1) xs ys (omega arith) same) in
        (g.0, group_found ys at x f.next g.0 (stands_as xs ys ((f.next + 1) + 1) same at (omega arith) x w) is g.1 (shows_as xs ys ((f.next + 1) + 1) same f.next (omega arith) sign.Close z), g.2)

  -- ---- min and max

  module _ (x : Lexeme) (o : Op) (w : Stands xs at x) (is : choosing x.sign ≡ Some o) where
    pub unopened_answers : Lacks sign.Open (drop (at + 1) xs) → Answers atom xs at (Err (stuck.At (at + 1)))
    unopened_answers lack = (omega arith, λ ys same. choice_refused_open ys at x o (stands_as xs ys ((at + 1) + 1) same at (omega arith) x w) is (lacks_at xs ys ((at + 1) + 1) same (at + 1) (omega arith) sign.Open lack))

    module _ (y : Shows sign.Open xs (at + 1)) where
      pub left_passes : (r : Result (Found Built) Stuck) (s : Stuck) → IsErrAnd r (λ e. e ≡ s) → Answers expression xs (at + 2) (Err s) → Answers atom xs at r
      left_passes r s e h = passes expression atom xs (at + 2) at r s e h (omega arith) (λ ys k g same never. choice_refused_left ys at x o (stands_as xs ys (k + 1) same at (omega arith) x w) is (shows_as xs ys (k + 1) same (at + 1) (omega arith) sign.Open y) never)

      module _ (f : Found Built) (h : Answers expression xs (at + 2) (Ok f)) where
        pub no_comma_answers : Lacks sign.Comma (drop f.next xs) → Answers atom xs at (Err (stuck.At f.next))
        no_comma_answers lack = let further = (h xs refl).1.further in (omega arith, λ ys same. let g = h ys same in choice_refused_comma ys at x o f.next g.0 (stands_as xs ys (f.next + 1) same at (omega arith) x w) is (shows_as xs ys (f.next + 1) same (at + 1) (omega arith) sign.Open y) g.1 (lacks_at xs ys (f.next + 1) same f.next (omega arith) sign.Comma lack))

        module _ (z : Shows sign.Comma xs f.next) where
          pub right_passes : (r : Result (Found Built) Stuck) (s : Stuck) → IsErrAnd r (λ e. e ≡ s) → Answers expression xs (f.next + 1) (Err s) → Answers atom xs at r
          right_passes r s e i = let further = (h xs refl).1.further in passes expression atom xs (f.next + 1) at r s e i (omega arith) (λ ys k c same never.
              let g = h ys (less (f.next + 1) (k + 1) xs ys (omega arith) same) in
              choice_refused_right ys at x o f.next g.0 (stands_as xs ys (k + 1) same at (omega arith) x w) is (shows_as xs ys (k + 1) same (at + 1) (omega arith) sign.Open y) g.1 (shows_as xs ys (k + 1) same f.next (omega arith) sign.Comma z) never)

          pub unclosed_answers : (g : Found Built) → Answers expression xs (f.next + 1) (Ok g) → Lacks sign.Close (drop g.next xs) → Answers atom xs at (Err (stuck.At g.next))
          unclosed_answers g i lack =
              let further = (h xs refl).1.further in
              let beyond = (i xs refl).1.further in (
                omega arith,
                λ ys same.
                    let c = h ys (less (f.next + 1) (g.next + 1) xs ys (omega arith) same) in
                    let d = i ys same in
                    choice_refused_close ys at x o f.next c.0 g.next d.0 (stands_as xs ys (g.next + 1) same at (omega arith) x w) is (shows_as xs ys (g.next + 1) same (at + 1) (omega arith) sign.Open y) c.1 (shows_as xs ys (g.next + 1) same f.next (omega arith) sign.Comma z) d.1 (lacks_at xs ys (g.next + 1) same g.next (omega arith) sign.Close lack),
              )

          pub choice_answers : (g : Found Built) (b : Built) → Answers expression xs (f.next + 1) (Ok g) → Shows sign.Close xs g.next → OfTwo (λ c d. node (kind.Binary o c d) x.place) f.value g.value b → Answers atom xs at (Ok (record { value = b; next = g.next + 1 }))
          choice_answers g b i v made =
              let further = (h xs refl).1.further in
              let beyond = (i xs refl).1.further in
              λ ys same.
              let c = h ys (less (f.next + 1) ((g.next + 1) + 1) xs ys (omega arith) same) in
              let d = i ys (less (g.next + 1) ((g.next + 1) + 1) xs ys (omega arith) same) in
              (binary o c.0 d.0 x.place, choice_found ys at x o f.next c.0 g.next d.0 (stands_as xs ys ((g.next + 1) + 1) same at (omega arith) x w) is (shows_as xs ys ((g.next + 1) + 1) same (at + 1) (omega arith) sign.Open y) c.1 (shows_as xs ys ((g.next + 1) + 1) same f.next (omega arith) sign.Comma z) d.1 (shows_as xs ys ((g.next + 1) + 1) same g.next (omega arith) sign.Close v), made c.0 d.0 c.2 d.2)

  -- ---- names, elements and fields

  module _ (x : Lexeme) (w : Stands xs at x) (is : x.sign ≡ sign.Name) where
    pub name_answers : (t : List ℕ) → t ≡ x.text → Lacks sign.OpenIndex (drop (at + 1) xs) → Lacks sign.Dot (drop (at + 1) xs) → Answers atom xs at (Ok (record { value = built.Whole (node (kind.Name t) x.place) 1; next = at + 1 }))
    name_answers t e no_index no_dot = λ ys same.
        (node (kind.Name x.text) x.place, name_found ys at x (stands_as xs ys ((at + 1) + 1) same at (omega arith) x w) is (lacks_at xs ys ((at + 1) + 1) same (at + 1) (omega arith) sign.OpenIndex no_index) (lacks_at xs ys ((at + 1) + 1) same (at + 1) (omega arith) sign.Dot no_dot), leaf_is (kind.Name t) (kind.Name x.text) x.place (ap (λ k. kind.Name k) e) (name_built x.text x.place))

    pub part_open_answers : Shows sign.Dot xs (at + 1) → Lacks sign.Name (drop (at + 2) xs) → Answers atom xs at (Err (stuck.At (at + 2)))
    part_open_answers y lack = (omega arith, λ ys same. part_refused ys at x (stands_as xs ys ((at + 2) + 1) same at (omega arith) x w) is (shows_as xs ys ((at + 2) + 1) same (at + 1) (omega arith) sign.Dot y) (lacks_at xs ys ((at + 2) + 1) same (at + 2) (omega arith) sign.Name lack))

    pub part_answers : (z : Lexeme) (t u : List ℕ) → Shows sign.Dot xs (at + 1) → Stands xs (at + 2) z → Shows sign.Name xs (at + 2) → t ≡ x.text → u ≡ z.text → Answers atom xs at (Ok (record { value = built.Whole (node (kind.Part t u) x.place) 1; next = at + 3 }))
    part_answers z t u y v n e f = λ ys same.
        (node (kind.Part x.text z.text) x.place, part_found ys at x z (stands_as xs ys ((at + 3) + 1) same at (omega arith) x w) is (shows_as xs ys ((at + 3) + 1) same (at + 1) (omega arith) sign.Dot y) (stands_as xs ys ((at + 3) + 1) same (at + 2) (omega arith) z v) (shows_as xs ys ((at + 3) + 1) same (at + 2) (omega arith) sign.Name n), leaf_is (kind.Part t u) (kind.Part x.text z.text) x.place (ap (λ k. kind.Part k u) e ∙ ap (λ k. kind.Part x.text k) f) (part_built x.text z.text x.place))

    module _ (y : Shows sign.OpenIndex xs (at + 1)) where
      pub index_passes : (r : Result (Found Built) Stuck) (s : Stuck) → IsErrAnd r (λ e. e ≡ s) → Answers expression xs (at + 2) (Err s) → Answers atom xs at r
      index_passes r s e h = passes expression atom xs (at + 2) at r s e h (omega arith) (λ ys k g same never. element_refused ys at x (stands_as xs ys (k + 1) same at (omega arith) x w) is (shows_as xs ys (k + 1) same (at + 1) (omega arith) sign.OpenIndex y) never)

      pub element_open_answers : (f : Found Built) → Answers expression xs (at + 2) (Ok f) → Lacks sign.CloseIndex (drop f.next xs) → Answers atom xs at (Err (stuck.At f.next))
      element_open_answers f h lack = let further = (h xs refl).1.further in (omega arith, λ ys same. let g = h ys same in element_unclosed ys at x f.next g.0 (stands_as xs ys (f.next + 1) same at (omega arith) x w) is (shows_as xs ys (f.next + 1) same (at + 1) (omega arith) sign.OpenIndex y) g.1 (lacks_at xs ys (f.next + 1) same f.next (omega arith) sign.CloseIndex lack))

      pub element_answers : (f : Found Built) (t : List ℕ) (b : Built) → t ≡ x.text → Answers expression xs (at + 2) (Ok f) → Shows sign.CloseIndex xs f.next → OfOne (λ c. node (kind.Index t c) x.place) f.value b → Answers atom xs at (Ok (record { value = b; next = f.next + 1 }))
      element_answers f t b e h z made =
          let further = (h xs refl).1.further in
          λ ys same.
          let g = h ys (less (f.next + 1) ((f.next + 1) + 1) xs ys (omega arith) same) in
          let P : List ℕ → Type 0 = λ k. IsBuilt (node (kind.Index k g.0) x.place) b in
          (node (kind.Index x.text g.0) x.place, element_found ys at x f.next g.0 (stands_as xs ys ((f.next + 1) + 1) same at (omega arith) x w) is (shows_as xs ys ((f.next + 1) + 1) same (at + 1) (omega arith) sign.OpenIndex y) g.1 (shows_as xs ys ((f.next + 1) + 1) same f.next (omega arith) sign.CloseIndex z), subst P e (made g.0 g.2))
