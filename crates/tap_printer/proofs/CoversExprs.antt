-- What is printed of an expression is no longer than the tokens that it was read from, and goes no deeper.
use Rattle.std.proofs.Common.{◌≡◌, ◌≤◌, refl, sym, ◌∙◌, ap, subst, Bool, true, false, if◌then◌else◌, nat_lt, ltb-true, ltb-false, List, [], ◌∷◌, ◌++◌, Some, arith}
use Rattle.tap_base.specs.declared.ast.AstExpr.{AstExpr}
use Rattle.tap_base.specs.declared.ast.AstKind.TheVariants as kind
use Rattle.tap_base.specs.declared.join.Join.{Join}
use Rattle.tap_base.specs.declared.join.Join.TheVariants.{Disjunction, Conjunction, Sum, Term}
use Rattle.tap_base.specs.declared.place.Place.{Place}
use Rattle.tap_base.specs.declared.token.Sign.{Sign}
use Rattle.tap_base.specs.declared.token.Sign.TheVariants as sign
use Rattle.tap_base.specs.declared.tree.Op.{Op}
use Rattle.tap_base.specs.declared.tree.Op.TheVariants as op
use Rattle.tap_lexer.specs.Lexeme.{Lexeme}
use Rattle.tap_lexer.specs.Leaves.{node}
use Rattle.tap_expr.specs.Grammar.{Level, joined, negation, relation, factor, atom, expression, part_of, joining, relating, choosing, binary, Reads, Goes, done, more, chain, plain, denied, single, related, positive, negative, leaf, number, truth, untruth, name, element, part, chosen, group}
use Rattle.tap_printer.specs.CanonicalExprs.{Phrase, phrase, phrase_of, parenthesized, tightness, tokens_at, expr_tokens_at, expr_tokens, operator, level_of, left_of, right_of, is_choice, operation_tokens}
use Rattle.tap_printer.specs.Printed.{mark}
use Rattle.tap_printer.specs.Printed as printed
use Rattle.tap_printer.proofs.AgainExprs.{good}
use Rattle.tap_printer.proofs.Fitting.{is_spelled, may_follow}
use Rattle.tap_printer.proofs.Fronts.{expr_begins}
use Rattle.tap_printer.proofs.Phrases.{by_kind, of_number, of_truth, of_name, of_index, of_part, of_not, of_neg, of_binary, infix_is, choice_is}
use Rattle.tap_printer.proofs.Walks.{Covers, IsPlain, IsOrdinary, joined_covers, one_mark, one_name, one_number, put_mark, put_name, wrapped, indexed, round, stripped, bare, dotted, chosen_covers, covers_as}

-- ---- levels

own_level : (p : Phrase) → tokens_at p.level p ≡ p.tokens
own_level p = go p.level
  where
    go : (l : Level) → (if nat_lt (tightness l) (tightness l) then parenthesized p.tokens else p.tokens) ≡ p.tokens
    go (joined Disjunction) = refl
    go (joined Conjunction) = refl
    go negation = refl
    go relation = refl
    go (joined Sum) = refl
    go (joined Term) = refl
    go factor = refl
    go atom = refl

-- where a looser level is due, no more is written
looser : (l m : Level) (p : Phrase) {ts us : List Lexeme} → tightness l ≤ tightness m → Covers (tokens_at m p) ts us → Covers (tokens_at l p) ts us
looser l m p {ts} {us} h = go (nat_lt (tightness p.level) (tightness l)) (nat_lt (tightness p.level) (tightness m)) refl refl
  where
    go : (b c : Bool) → nat_lt (tightness p.level) (tightness l) ≡ b → nat_lt (tightness p.level) (tightness m) ≡ c → Covers (if c then parenthesized p.tokens else p.tokens) ts us → Covers (if b then parenthesized p.tokens else p.tokens) ts us
    go true true e f k = k
    go true false e f k = let i = ltb-true (tightness p.level) (tightness l) e in let j = ltb-false (tightness p.level) (tightness m) f in absurd (omega (arith, h, i, j))
    go false true e f k = bare k
    go false false e f k = k

part_tighter : (j : Join) → tightness (joined j) ≤ tightness (part_of j)
part_tighter Disjunction = omega arith
part_tighter Conjunction = omega arith
part_tighter Sum = omega arith
part_tighter Term = omega arith

-- parentheses that were read may be written, and need not be
grouped : (p : Phrase) {x z : Lexeme} {ts us : List Lexeme} → x.sign ≡ sign.Open → Covers (tokens_at expression p) ts (z ∷ us) → z.sign ≡ sign.Close → Covers (tokens_at atom p) (x ∷ ts) us
grouped p {x} {z} {ts} {us} i h j = go (nat_lt (tightness p.level) 7)
  where
    whole : (l : Level) → (if nat_lt (tightness l) 0 then parenthesized p.tokens else p.tokens) ≡ p.tokens
    whole (joined Disjunction) = refl
    whole (joined Conjunction) = refl
    whole negation = refl
    whole relation = refl
    whole (joined Sum) = refl
    whole (joined Term) = refl
    whole factor = refl
    whole atom = refl

    inner : Covers p.tokens ts (z ∷ us)
    inner = covers_as (sym (whole p.level)) h

    go : (b : Bool) → Covers (if b then parenthesized p.tokens else p.tokens) (x ∷ ts) us
    go true = wrapped sign.Open sign.Close round refl i inner j
    go false = stripped i inner j

-- an expression with this phrase, at its own level
own : (e : AstExpr) (p : Phrase) {ts us : List Lexeme} → phrase_of e ≡ p → Covers p.tokens ts us → Covers (expr_tokens_at p.level e) ts us
own e p is h = covers_as (ap (tokens_at p.level) is ∙ own_level p) h

-- ---- signs of operations

-- an operation of a level between its operands, with its sign
pub record IsInfix (l : Level) (s : Sign) (o : Op) : Type 0 where
  pub level : level_of o ≡ l
  pub choice_is : is_choice o ≡ false
  pub sign_is : s ≡ operator o
  pub ordinary : IsOrdinary (operator o)

-- the choice of the lesser or the greater, with its word
pub record IsChosen (s : Sign) (o : Op) : Type 0 where
  pub level : level_of o ≡ atom
  pub choice_is : is_choice o ≡ true
  pub sign_is : s ≡ operator o
  pub plain : IsPlain (operator o)
  pub spelled : is_spelled (operator o) ≡ true
  pub follows : may_follow (operator o) sign.Open ≡ true

by_op : (P : Op → Type 0) (o p : Op) → Some p ≡ Some o → P p → P o
by_op P o p e h = let q : p ≡ o = cc in subst P q h

infix_sign : (l : Level) (s : Sign) (o p : Op) → Some p ≡ Some o → IsInfix l s p → IsInfix l s o
infix_sign l s o p e h = by_op (IsInfix l s) o p e h

choice_sign : (s : Sign) (o p : Op) → Some p ≡ Some o → IsChosen s p → IsChosen s o
choice_sign s o p e h = by_op (IsChosen s) o p e h

joining_is : (j : Join) (s : Sign) (o : Op) → joining j s ≡ Some o → IsInfix (joined j) s o
joining_is Disjunction sign.Or o e = infix_sign _ _ o op.Or e (record { level = refl; choice_is = refl; sign_is = refl; ordinary = (refl, refl, refl, refl) })
joining_is Conjunction sign.And o e = infix_sign _ _ o op.And e (record { level = refl; choice_is = refl; sign_is = refl; ordinary = (refl, refl, refl, refl) })
joining_is Sum sign.Plus o e = infix_sign _ _ o op.Add e (record { level = refl; choice_is = refl; sign_is = refl; ordinary = (refl, refl, refl, refl) })
joining_is Sum sign.Minus o e = infix_sign _ _ o op.Sub e (record { level = refl; choice_is = refl; sign_is = refl; ordinary = (refl, refl, refl, refl) })
joining_is Term sign.Star o e = infix_sign _ _ o op.Mul e (record { level = refl; choice_is = refl; sign_is = refl; ordinary = (refl, refl, refl, refl) })
joining_is Term sign.Div o e = infix_sign _ _ o op.Div e (record { level = refl; choice_is = refl; sign_is = refl; ordinary = (refl, refl, refl, refl) })
joining_is Term sign.Mod o e = infix_sign _ _ o op.Mod e (record { level = refl; choice_is = refl; sign_is = refl; ordinary = (refl, refl, refl, refl) })
joining_is _ _ o e = absurd cc

relating_is : (s : Sign) (o : Op) → relating s ≡ Some o → IsInfix relation s o
relating_is sign.Equal o e = infix_sign _ _ o op.Eq e (record { level = refl; choice_is = refl; sign_is = refl; ordinary = (refl, refl, refl, refl) })
relating_is sign.NotEqual o e = infix_sign _ _ o op.Ne e (record { level = refl; choice_is = refl; sign_is = refl; ordinary = (refl, refl, refl, refl) })
relating_is sign.Less o e = infix_sign _ _ o op.Lt e (record { level = refl; choice_is = refl; sign_is = refl; ordinary = (refl, refl, refl, refl) })
relating_is sign.LessEqual o e = infix_sign _ _ o op.Le e (record { level = refl; choice_is = refl; sign_is = refl; ordinary = (refl, refl, refl, refl) })
relating_is sign.Greater o e = infix_sign _ _ o op.Gt e (record { level = refl; choice_is = refl; sign_is = refl; ordinary = (refl, refl, refl, refl) })
relating_is sign.GreaterEqual o e = infix_sign _ _ o op.Ge e (record { level = refl; choice_is = refl; sign_is = refl; ordinary = (refl, refl, refl, refl) })
relating_is _ o e = absurd cc

choosing_is : (s : Sign) (o : Op) → choosing s ≡ Some o → IsChosen s o
choosing_is sign.Min o e = choice_sign _ o op.Min e (record { level = refl; choice_is = refl; sign_is = refl; plain = (refl, refl); spelled = refl; follows = refl })
choosing_is sign.Max o e = choice_sign _ o op.Max e (record { level = refl; choice_is = refl; sign_is = refl; plain = (refl, refl); spelled = refl; follows = refl })
choosing_is _ o e = absurd cc

-- ---- operations

at_own_level : (o : Op) (a b : AstExpr) (p : Place) (l : Level) → level_of o ≡ l → expr_tokens_at l (binary o a b p) ≡ operation_tokens o (phrase_of a) (phrase_of b)
at_own_level o a b p l e = ap (λ v. tokens_at v (phrase_of (binary o a b p))) (sym e) ∙ ap (tokens_at (level_of o)) (by_kind (binary o a b p) ∙ of_binary o a b) ∙ own_level (phrase (level_of o) (operation_tokens o (phrase_of a) (phrase_of b)))

infix_covers : (o : Op) (a b : AstExpr) (l : Level) {x : Lexeme} {ts us ws : List Lexeme} → IsInfix l x.sign o → Covers (expr_tokens_at (left_of l) a) ts (x ∷ us) → Covers (expr_tokens_at (right_of l) b) us ws → Covers (expr_tokens_at l (binary o a b x.place)) ts ws
infix_covers o a b l {x} i h k =
    covers_as
    (at_own_level o a b x.place l i.level ∙ infix_is o (phrase_of a) (phrase_of b) i.choice_is ∙ ap (λ v. tokens_at (left_of v) (phrase_of a) ++ mark (operator o) ∷ tokens_at (right_of v) (phrase_of b)) i.level)
    (joined_covers h (put_mark (operator o) i.sign_is i.ordinary k))

choice_covers : (o : Op) (a b : AstExpr) {x y z w : Lexeme} {ts us ws : List Lexeme} → IsChosen x.sign o → y.sign ≡ sign.Open → Covers (expr_tokens a) ts (z ∷ us) → z.sign ≡ sign.Comma → Covers (expr_tokens b) us (w ∷ ws) → w.sign ≡ sign.Close → Covers (expr_tokens_at atom (binary o a b x.place)) (x ∷ y ∷ ts) ws
choice_covers o a b {x} i j h k m n =
    covers_as
    (at_own_level o a b x.place atom i.level ∙ choice_is o (phrase_of a) (phrase_of b) i.choice_is)
    (chosen_covers (operator o) i.sign_is i.plain i.spelled i.follows (wrapped sign.Open sign.Close round refl j (joined_covers h (put_mark sign.Comma k (refl, refl, refl, refl) m)) n))

-- ---- every expression

mutual
  pub covers : {l : Level} {e : AstExpr} {ts us : List Lexeme} → Reads l e ts us → Covers (expr_tokens_at l e) ts us
  covers (chain {j} {a} {ts} r g) = covers_on g ts (looser (joined j) (part_of j) (phrase_of a) (part_tighter j) (covers r))
  covers (plain {e} r) = looser negation relation (phrase_of e) (omega arith) (covers r)
  covers (denied {e} {x} i r) = own (node (kind.Not e) x.place) (phrase negation (mark sign.Not ∷ expr_tokens_at relation e)) (by_kind _ ∙ of_not e) (put_mark sign.Not i (refl, refl, refl, refl) (covers r))
  covers (single {e} r) = looser relation (joined Sum) (phrase_of e) (omega arith) (covers r)
  covers (related {a} {b} {x} {o} r i q) = infix_covers o a b relation (relating_is x.sign o i) (covers r) (covers q)
  covers (positive {e} r) = looser factor atom (phrase_of e) (omega arith) (covers r)
  covers (negative {e} {x} i r) = own (node (kind.Neg e) x.place) (phrase factor (mark sign.Minus ∷ expr_tokens_at atom e)) (by_kind _ ∙ of_neg e) (put_mark sign.Minus i (refl, refl, refl, refl) (covers r))
  covers (leaf (number {x} i)) = own (node (kind.Number x.value) x.place) (phrase atom (printed.number x.value ∷ [])) (by_kind _ ∙ of_number x.value) (one_number x i)
  covers (leaf (truth {x} i)) = own (node (kind.Truth true) x.place) (phrase atom (mark sign.True ∷ [])) (by_kind _ ∙ of_truth true) (one_mark sign.True i (refl, refl, refl, refl))
  covers (leaf (untruth {x} i)) = own (node (kind.Truth false) x.place) (phrase atom (mark sign.False ∷ [])) (by_kind _ ∙ of_truth false) (one_mark sign.False i (refl, refl, refl, refl))
  covers (leaf (name {x} i)) = own (node (kind.Name x.text) x.place) (phrase atom (printed.name x.text ∷ [])) (by_kind _ ∙ of_name x.text) (one_name x i)
  covers (element {x} {e} i o r c) =
      own (node (kind.Index x.text e) x.place) (phrase atom (printed.name x.text ∷ mark sign.OpenIndex ∷ expr_tokens e ++ mark sign.CloseIndex ∷ [])) (by_kind _ ∙ of_index x.text e)
      (put_name x i (indexed o (expr_begins (good r)) (covers r) c))
  covers (leaf (part {x} {z} i o c)) =
      own (node (kind.Part x.text z.text) x.place) (phrase atom (printed.name x.text ∷ mark sign.Dot ∷ printed.name z.text ∷ [])) (by_kind _ ∙ of_part x.text z.text)
      (dotted x z i o c)
  covers (chosen {x} {o} {a} {b} i p r c q d) = choice_covers o a b (choosing_is x.sign o i) p (covers r) c (covers q) d
  covers (group {e} i r c) = grouped (phrase_of e) i (covers r) c

  covers_on : {j : Join} {a e : AstExpr} {us ws : List Lexeme} → Goes j a e us ws → (ts : List Lexeme) → Covers (expr_tokens_at (joined j) a) ts us → Covers (expr_tokens_at (joined j) e) ts ws
  covers_on done ts h = h
  covers_on (more {j} {x} {o} {a} {b} i r g) ts h = covers_on g ts (infix_covers o a b (joined j) (joining_is j x.sign o i) h (covers r))
