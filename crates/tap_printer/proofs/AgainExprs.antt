-- What is printed of an expression is read as that expression, places aside.
use Rattle.std.proofs.Common.{◌≡◌, refl, sym, ◌∙◌, ap, subst, ℕ, ℤ, Bool, true, false, if◌then◌else◌, nat_lt, List, [], ◌∷◌, ◌++◌, Some}
use Rattle.tap_base.specs.declared.ast.AstExpr.{AstExpr}
use Rattle.tap_base.specs.declared.ast.AstKind.TheVariants as kind
use Rattle.tap_base.specs.declared.join.Join.{Join}
use Rattle.tap_base.specs.declared.join.Join.TheVariants.{Disjunction, Conjunction, Sum, Term}
use Rattle.tap_base.specs.declared.place.Place.{Place}
use Rattle.tap_base.specs.declared.token.Sign.TheVariants as sign
use Rattle.tap_base.specs.declared.tree.Op.{Op}
use Rattle.tap_base.specs.declared.tree.Op.TheVariants as op
use Rattle.tap_lexer.specs.Bytes.{start}
use Rattle.tap_lexer.specs.Lexeme.{Lexeme}
use Rattle.tap_lexer.specs.Leaves.{node}
use Rattle.tap_expr.specs.Grammar.{Level, joined, negation, relation, factor, atom, expression, part_of, joining, relating, choosing, binary, Reads, Goes, done, more, chain, plain, denied, single, related, positive, negative, leaf, number, truth, untruth, name, element, part, chosen, group}
use Rattle.tap_printer.specs.CanonicalExprs.{Phrase, phrase, phrase_of, parenthesized, tightness, tokens_at, expr_tokens_at, expr_tokens, operator, level_of, truth_sign, operation_tokens}
use Rattle.tap_printer.specs.CanonicalLaws.{Begins, none, next}
use Rattle.tap_printer.specs.PlacesAside.{expr_aside}
use Rattle.tap_printer.specs.Printed.{Printed, mark}
use Rattle.tap_printer.specs.Printed as printed
use Rattle.tap_printer.proofs.Asides.{aside_number, aside_truth, aside_name, aside_index, aside_part, aside_not, aside_neg, aside_binary}
use Rattle.tap_printer.proofs.Loosened.{loosened}
use Rattle.tap_printer.proofs.Phrases.{by_kind, of_number, of_truth, of_name, of_index, of_part, of_not, of_neg, of_binary}
use Rattle.tap_printer.proofs.Printing.{around, closing, Read, ReadsAgain}

-- at every level, what is printed of the expression is read as it
abbrev pub IsGood : AstExpr → Type 0
IsGood e = (l : Level) → ReadsAgain expr_aside (expr_tokens_at l e) (Reads l) e

-- ---- parentheses

in_parentheses : (l : Level) (e : AstExpr) (tokens : List Printed) → ReadsAgain expr_aside tokens (Reads expression) e → (ts us : List Lexeme) → Begins (parenthesized tokens) ts us → Read expr_aside (Reads atom) e ts us
in_parentheses l e tokens h all us (next {x} {ts} i g) =
    let c = closing tokens (mark sign.Close) g in
    let r = h ts (c.x ∷ us) c.front in
    record { again = r.again; item = group i r.item c.is; same = r.same }

atom_tightest : (l : Level) → nat_lt (tightness atom) (tightness l) ≡ false
atom_tightest (joined Disjunction) = refl
atom_tightest (joined Conjunction) = refl
atom_tightest negation = refl
atom_tightest relation = refl
atom_tightest (joined Sum) = refl
atom_tightest (joined Term) = refl
atom_tightest factor = refl
atom_tightest atom = refl

pub expression_loosest : (l : Level) → nat_lt (tightness l) (tightness expression) ≡ false
expression_loosest (joined Disjunction) = refl
expression_loosest (joined Conjunction) = refl
expression_loosest negation = refl
expression_loosest relation = refl
expression_loosest (joined Sum) = refl
expression_loosest (joined Term) = refl
expression_loosest factor = refl
expression_loosest atom = refl

looser : (l m : Level) (e : AstExpr) (ts us : List Lexeme) → nat_lt (tightness m) (tightness l) ≡ false → Read expr_aside (Reads m) e ts us → Read expr_aside (Reads l) e ts us
looser l m e ts us h r = record { again = r.again; item = loosened l m h r.item; same = r.same }

at_every_level : (e : AstExpr) (p : Phrase) → ReadsAgain expr_aside p.tokens (Reads p.level) e → (l : Level) → ReadsAgain expr_aside (tokens_at l p) (Reads l) e
at_every_level e p h l = go (nat_lt (tightness p.level) (tightness l)) refl
  where
    go : (b : Bool) → nat_lt (tightness p.level) (tightness l) ≡ b → ReadsAgain expr_aside (if b then parenthesized p.tokens else p.tokens) (Reads l) e
    go true q ts us g = looser l atom e ts us (atom_tightest l) (in_parentheses l e p.tokens (λ ks ws k. looser expression p.level e ks ws (expression_loosest p.level) (h ks ws k)) ts us g)
    go false q ts us g = looser l p.level e ts us q (h ts us g)

-- an expression with this phrase is good, where its own tokens are read as it
by_phrase : (e : AstExpr) (p : Phrase) → phrase_of e ≡ p → ReadsAgain expr_aside p.tokens (Reads p.level) e → IsGood e
by_phrase e p is h l = subst (λ q. ReadsAgain expr_aside (tokens_at l q) (Reads l) e) (sym is) (at_every_level e p h l)

-- ---- nodes without parts

pub good_number : (n : ℤ) (p : Place) → IsGood (node (kind.Number n) p)
good_number n p = by_phrase (node (kind.Number n) p) (phrase atom (printed.number n ∷ [])) (by_kind _ ∙ of_number n) go
  where
    go : ReadsAgain expr_aside (printed.number n ∷ []) (Reads atom) (node (kind.Number n) p)
    go all us (next {x} i none) = record { again = node (kind.Number x.value) x.place; item = leaf (number i.0); same = aside_number x.value x.place ∙ ap (λ v. node (kind.Number v) start) i.1 ∙ sym (aside_number n p) }

pub good_truth : (b : Bool) (p : Place) → IsGood (node (kind.Truth b) p)
good_truth b p = by_phrase (node (kind.Truth b) p) (phrase atom (mark (truth_sign b) ∷ [])) (by_kind _ ∙ of_truth b) (go b)
  where
    go : (b : Bool) → ReadsAgain expr_aside (mark (truth_sign b) ∷ []) (Reads atom) (node (kind.Truth b) p)
    go true all us (next {x} i none) = record { again = node (kind.Truth true) x.place; item = leaf (truth i); same = aside_truth true x.place ∙ sym (aside_truth true p) }
    go false all us (next {x} i none) = record { again = node (kind.Truth false) x.place; item = leaf (untruth i); same = aside_truth false x.place ∙ sym (aside_truth false p) }

pub good_name : (t : List ℕ) (p : Place) → IsGood (node (kind.Name t) p)
good_name t p = by_phrase (node (kind.Name t) p) (phrase atom (printed.name t ∷ [])) (by_kind _ ∙ of_name t) go
  where
    go : ReadsAgain expr_aside (printed.name t ∷ []) (Reads atom) (node (kind.Name t) p)
    go all us (next {x} i none) = record { again = node (kind.Name x.text) x.place; item = leaf (name i.0); same = aside_name x.text x.place ∙ ap (λ v. node (kind.Name v) start) i.1 ∙ sym (aside_name t p) }

pub good_part : (m f : List ℕ) (p : Place) → IsGood (node (kind.Part m f) p)
good_part m f p = by_phrase (node (kind.Part m f) p) (phrase atom (printed.name m ∷ mark sign.Dot ∷ printed.name f ∷ [])) (by_kind _ ∙ of_part m f) go
  where
    go : ReadsAgain expr_aside (printed.name m ∷ mark sign.Dot ∷ printed.name f ∷ []) (Reads atom) (node (kind.Part m f) p)
    go all us (next {x} i (next {x = y} j (next {x = z} k none))) = record {
      again = node (kind.Part x.text z.text) x.place;
      item = leaf (part i.0 j k.0);
      same = aside_part x.text z.text x.place ∙ ap (λ v. node (kind.Part v z.text) start) i.1 ∙ ap (λ v. node (kind.Part m v) start) k.1 ∙ sym (aside_part m f p);
    }

-- ---- nodes with parts

pub good_index : (t : List ℕ) (e : AstExpr) (p : Place) → IsGood e → IsGood (node (kind.Index t e) p)
good_index t e p h = by_phrase (node (kind.Index t e) p) (phrase atom (printed.name t ∷ mark sign.OpenIndex ∷ expr_tokens e ++ mark sign.CloseIndex ∷ [])) (by_kind _ ∙ of_index t e) go
  where
    go : ReadsAgain expr_aside (printed.name t ∷ mark sign.OpenIndex ∷ expr_tokens e ++ mark sign.CloseIndex ∷ []) (Reads atom) (node (kind.Index t e) p)
    go all us (next {x} i (next {x = y} {ts} j g)) =
        let c = closing (expr_tokens e) (mark sign.CloseIndex) g in
        let r = h expression ts (c.x ∷ us) c.front in
        record {
          again = node (kind.Index x.text r.again) x.place;
          item = element i.0 j r.item c.is;
          same = aside_index x.text r.again x.place ∙ ap (λ v. node (kind.Index v (expr_aside r.again)) start) i.1 ∙ ap (λ v. node (kind.Index t v) start) r.same ∙ sym (aside_index t e p);
        }

pub good_not : (e : AstExpr) (p : Place) → IsGood e → IsGood (node (kind.Not e) p)
good_not e p h = by_phrase (node (kind.Not e) p) (phrase negation (mark sign.Not ∷ expr_tokens_at relation e)) (by_kind _ ∙ of_not e) go
  where
    go : ReadsAgain expr_aside (mark sign.Not ∷ expr_tokens_at relation e) (Reads negation) (node (kind.Not e) p)
    go all us (next {x} {ts} i g) =
        let r = h relation ts us g in
        record { again = node (kind.Not r.again) x.place; item = denied i r.item; same = aside_not r.again x.place ∙ ap (λ v. node (kind.Not v) start) r.same ∙ sym (aside_not e p) }

pub good_neg : (e : AstExpr) (p : Place) → IsGood e → IsGood (node (kind.Neg e) p)
good_neg e p h = by_phrase (node (kind.Neg e) p) (phrase factor (mark sign.Minus ∷ expr_tokens_at atom e)) (by_kind _ ∙ of_neg e) go
  where
    go : ReadsAgain expr_aside (mark sign.Minus ∷ expr_tokens_at atom e) (Reads factor) (node (kind.Neg e) p)
    go all us (next {x} {ts} i g) =
        let r = h atom ts us g in
        record { again = node (kind.Neg r.again) x.place; item = negative i r.item; same = aside_neg r.again x.place ∙ ap (λ v. node (kind.Neg v) start) r.same ∙ sym (aside_neg e p) }

-- ---- operations

-- one more part goes on what was joined
goes_further : {j : Join} {a e b : AstExpr} {x : Lexeme} {o : Op} {ms us ws : List Lexeme} → Goes j a e ms (x ∷ us) → joining j x.sign ≡ Some o → Reads (part_of j) b us ws → Goes j a (binary o e b x.place) ms ws
goes_further done i r = more i r done
goes_further (more k q g) i r = more k q (goes_further g i r)

one_further : {j : Join} {a b : AstExpr} {x : Lexeme} {o : Op} {ts us ws : List Lexeme} → Reads (joined j) a ts (x ∷ us) → joining j x.sign ≡ Some o → Reads (part_of j) b us ws → Reads (joined j) (binary o a b x.place) ts ws
one_further (chain q g) i r = chain q (goes_further g i r)

same_operation : (o : Op) (a b c d : AstExpr) (p q : Place) → expr_aside c ≡ expr_aside a → expr_aside d ≡ expr_aside b → expr_aside (binary o c d p) ≡ expr_aside (binary o a b q)
same_operation o a b c d p q h k = aside_binary o c d p ∙ ap (λ v. node (kind.Binary o v (expr_aside d)) start) h ∙ ap (λ v. node (kind.Binary o (expr_aside a) v) start) k ∙ sym (aside_binary o a b q)

joins : (j : Join) (o : Op) (a b : AstExpr) (p : Place) → joining j (operator o) ≡ Some o → IsGood a → IsGood b → ReadsAgain expr_aside (expr_tokens_at (joined j) a ++ mark (operator o) ∷ expr_tokens_at (part_of j) b) (Reads (joined j)) (binary o a b p)
joins j o a b p is h k ts us g =
    let c = around (expr_tokens_at (joined j) a) (mark (operator o)) (expr_tokens_at (part_of j) b) g in
    let r = h (joined j) ts (c.x ∷ c.middle) c.front in
    let s = k (part_of j) c.middle us c.rest in
    record { again = binary o r.again s.again c.x.place; item = one_further r.item (ap (joining j) c.is ∙ is) s.item; same = same_operation o a b r.again s.again c.x.place p r.same s.same }

relates : (o : Op) (a b : AstExpr) (p : Place) → relating (operator o) ≡ Some o → IsGood a → IsGood b → ReadsAgain expr_aside (expr_tokens_at (joined Sum) a ++ mark (operator o) ∷ expr_tokens_at (joined Sum) b) (Reads relation) (binary o a b p)
relates o a b p is h k ts us g =
    let c = around (expr_tokens_at (joined Sum) a) (mark (operator o)) (expr_tokens_at (joined Sum) b) g in
    let r = h (joined Sum) ts (c.x ∷ c.middle) c.front in
    let s = k (joined Sum) c.middle us c.rest in
    record { again = binary o r.again s.again c.x.place; item = related r.item (ap relating c.is ∙ is) s.item; same = same_operation o a b r.again s.again c.x.place p r.same s.same }

chooses : (o : Op) (a b : AstExpr) (p : Place) → choosing (operator o) ≡ Some o → IsGood a → IsGood b
    → ReadsAgain expr_aside (mark (operator o) ∷ mark sign.Open ∷ expr_tokens a ++ mark sign.Comma ∷ expr_tokens b ++ mark sign.Close ∷ []) (Reads atom) (binary o a b p)
chooses o a b p is h k all us (next {x} i (next {x = y} {ts} v g)) =
    let d = closing (expr_tokens a ++ mark sign.Comma ∷ expr_tokens b) (mark sign.Close) g in
    let c = around (expr_tokens a) (mark sign.Comma) (expr_tokens b) d.front in
    let r = h expression ts (c.x ∷ c.middle) c.front in
    let s = k expression c.middle (d.x ∷ us) c.rest in
    record { again = binary o r.again s.again x.place; item = chosen (ap choosing i ∙ is) v r.item c.is s.item d.is; same = same_operation o a b r.again s.again x.place p r.same s.same }

pub good_binary : (o : Op) (a b : AstExpr) (p : Place) → IsGood a → IsGood b → IsGood (binary o a b p)
good_binary o a b p h k = by_phrase (binary o a b p) (phrase (level_of o) (operation_tokens o (phrase_of a) (phrase_of b))) (by_kind _ ∙ of_binary o a b) (go o)
  where
    go : (o : Op) → ReadsAgain expr_aside (operation_tokens o (phrase_of a) (phrase_of b)) (Reads (level_of o)) (binary o a b p)
    go op.Or = joins Disjunction op.Or a b p refl h k
    go op.And = joins Conjunction op.And a b p refl h k
    go op.Eq = relates op.Eq a b p refl h k
    go op.Ne = relates op.Ne a b p refl h k
    go op.Lt = relates op.Lt a b p refl h k
    go op.Le = relates op.Le a b p refl h k
    go op.Gt = relates op.Gt a b p refl h k
    go op.Ge = relates op.Ge a b p refl h k
    go op.Add = joins Sum op.Add a b p refl h k
    go op.Sub = joins Sum op.Sub a b p refl h k
    go op.Mul = joins Term op.Mul a b p refl h k
    go op.Div = joins Term op.Div a b p refl h k
    go op.Mod = joins Term op.Mod a b p refl h k
    go op.Min = chooses op.Min a b p refl h k
    go op.Max = chooses op.Max a b p refl h k

-- ---- every expression that tokens spell

mutual
  pub good : {l : Level} {e : AstExpr} {ts us : List Lexeme} → Reads l e ts us → IsGood e
  good (chain r g) = good_on g (good r)
  good (plain r) = good r
  good (denied {e} {x} i r) = good_not e x.place (good r)
  good (single r) = good r
  good (related {a} {b} {x} {o} r i q) = good_binary o a b x.place (good r) (good q)
  good (positive r) = good r
  good (negative {e} {x} i r) = good_neg e x.place (good r)
  good (leaf (number {x} i)) = good_number x.value x.place
  good (leaf (truth {x} i)) = good_truth true x.place
  good (leaf (untruth {x} i)) = good_truth false x.place
  good (leaf (name {x} i)) = good_name x.text x.place
  good (element {x} {e} i o r c) = good_index x.text e x.place (good r)
  good (leaf (part {x} {z} i o c)) = good_part x.text z.text x.place
  good (chosen {x} {o} {a} {b} i p r c q d) = good_binary o a b x.place (good r) (good q)
  good (group i r c) = good r

  good_on : {j : Join} {a e : AstExpr} {us ws : List Lexeme} → Goes j a e us ws → IsGood a → IsGood e
  good_on done h = h
  good_on (more {x} {o} {a} {b} i r g) h = good_on g (good_binary o a b x.place h (good r))
