-- What is printed of declarations, statements and trees is no longer than the tokens that they were read from, and goes no deeper.
use Rattle.std.proofs.Common.{◌≡◌, ℕ, zero, suc, ◌<◌, ◌^◌, refl, sym, ◌∙◌, ap, subst, ℤ, pos, ◌≤ℤ◌, negsuc, neg_ℤ, int_lt, unsigned_abs, Bool, true, false, if◌then◌else◌, List, [], ◌∷◌, ◌++◌, map, flat_map, Option, append-nil, append_assoc, ltb-true, arith}
use Rattle.tap_base.specs.declared.ast.Ast.{Ast}
use Rattle.tap_base.specs.declared.ast.AstAction.{AstAction}
use Rattle.tap_base.specs.declared.ast.AstBranch.{AstBranch}
use Rattle.tap_base.specs.declared.ast.AstConst.{AstConst}
use Rattle.tap_base.specs.declared.ast.AstExpr.{AstExpr}
use Rattle.tap_base.specs.declared.ast.AstField.{AstField}
use Rattle.tap_base.specs.declared.ast.AstGuard.{AstGuard}
use Rattle.tap_base.specs.declared.ast.AstMessage.{AstMessage}
use Rattle.tap_base.specs.declared.ast.AstProcess.{AstProcess}
use Rattle.tap_base.specs.declared.ast.AstScalar.{AstScalar}
use Rattle.tap_base.specs.declared.ast.AstStmt.{AstStmt}
use Rattle.tap_base.specs.declared.ast.AstTarget.{AstTarget}
use Rattle.tap_base.specs.declared.ast.AstType.{AstType}
use Rattle.tap_base.specs.declared.ast.AstVar.{AstVar}
use Rattle.tap_base.specs.declared.ast.Bound.{Bound}
use Rattle.tap_base.specs.declared.ast.Ident.{Ident}
use Rattle.tap_base.specs.declared.token.Sign.{Sign}
use Rattle.tap_base.specs.declared.token.Sign.TheVariants as sign
use Rattle.tap_lexer.specs.Depth.{opens, closes}
use Rattle.tap_lexer.specs.Lexeme.{Lexeme}
use Rattle.tap_lexer.specs.Leaves.{ident}
use Rattle.tap_lexer.specs.Rows.{Separated, last, more, SomeSeparated, Rows, Row}
use Rattle.tap_lexer.specs.Rows as rows
use Rattle.tap_parser.specs.Declarations.{Optional, Block, IsName, IsNumber, IsSigned, IsBound, IsScalar, IsType, IsConst, IsInput, IsVar, IsField, IsMessage}
use Rattle.tap_parser.specs.Declarations as form
use Rattle.tap_parser.specs.Statements.{IsTarget, IsStmt, AreStmts, IsBranch, AreBranches, IsGuard, IsAction}
use Rattle.tap_parser.specs.Statements as body
use Rattle.tap_parser.specs.Systems.{IsProcess, declared, SpellsOver, system}
use Rattle.tap_printer.specs.Canonical.{separated, block, optional, ident_tokens, number_tokens, signed_tokens, bound_tokens, scalar_tokens, type_tokens, const_tokens, initial_tokens, var_tokens, fixed_tokens, field_tokens, message_tokens, target_tokens, stmt_tokens, branch_tokens, guard_tokens, action_tokens, process_tokens, tree_tokens}
use Rattle.tap_printer.specs.CanonicalExprs.{expr_tokens}
use Rattle.tap_printer.specs.Printed.{Printed, mark, name, number}
use Rattle.tap_printer.proofs.Bodies.{of_skip, of_assign, of_choose, of_send, of_start, of_stop, of_select, of_loop, of_branch}
use Rattle.tap_printer.proofs.Fitting.{IsRead, BeginsExpr}
use Rattle.tap_printer.proofs.Walks.{Covers, ArePrintedPair, IsOrdinary, nothing, joined_covers, one_mark, one_name, one_number, put_mark, put_name, put_number, wrapped, indexed, round, added, signed, dropped, covers_as}
use Rattle.tap_printer.proofs.Separators.{further_is, block_is, stmts_further, branches_further}

selection : ArePrintedPair sign.If sign.Fi
selection = record { pair = record { opening = refl; not_closing = refl; closing = refl; not_opening = refl }; spelled = refl; close_spelled = refl; closed = refl }

repetition : ArePrintedPair sign.Do sign.Od
repetition = record { pair = record { opening = refl; not_closing = refl; closing = refl; not_opening = refl }; spelled = refl; close_spelled = refl; closed = refl }

-- nothing more behind
unended : {p : List Printed} {ts us : List Lexeme} → Covers p ts us → Covers (p ++ []) ts us
unended {p} h = covers_as (append-nil p) h

-- ---- lists

module _ {A : Type 0} (f : A → List Printed) (Item : A → List Lexeme → List Lexeme → Type 0) (h : (a : A) (ts us : List Lexeme) → Item a ts us → Covers (f a) ts us) where
  separated_covers : {s : Sign} {items : List A} {ts us : List Lexeme} → IsOrdinary s → Separated Item s items ts us → Covers (separated s (map f items)) ts us
  separated_covers plain (last {a} {ts} {us} i) = unended (h a ts us i)
  separated_covers {s} plain (more {a} {x} {ts} {us} i e r) = covers_as (ap (λ v. f a ++ v) (further_is f Item r)) (joined_covers (h a ts (x ∷ us) i) (put_mark s e plain (separated_covers plain r)))

  some_covers : {s : Sign} {items : List A} {ts us : List Lexeme} → IsOrdinary s → SomeSeparated Item s items ts us → Covers (separated s (map f items)) ts us
  some_covers plain rows.SomeSeparated.none = nothing
  some_covers plain (rows.SomeSeparated.some r) = separated_covers plain r

  block_covers : {word s : Sign} {items : List A} {ts us : List Lexeme} → IsOrdinary word → IsOrdinary s → Block Item word s items ts us → Covers (block word s (map f items)) ts us
  block_covers first plain form.Block.absent = nothing
  block_covers {word} first plain (form.Block.present e r) = covers_as (block_is f Item word r) (put_mark word e first (separated_covers plain r))

  rows_cover : {items : List A} {ts us : List Lexeme} → Rows Item items ts us → Covers (flat_map f items) ts us
  rows_cover rows.Rows.none = nothing
  rows_cover (rows.Rows.more {a} {ts} {us} i r) = joined_covers (h a ts us i) (rows_cover r)

  row_covers : {items : List A} {ts us : List Lexeme} → Row Item items ts us → Covers (flat_map f items) ts us
  row_covers (rows.Row.last {a} {ts} {us} i) = unended (h a ts us i)
  row_covers (rows.Row.more {a} {ts} {us} i r) = joined_covers (h a ts us i) (row_covers r)

-- ---- declarations

name_covers : (x : Ident) (ts us : List Lexeme) → IsName x ts us → Covers (ident_tokens x) ts us
name_covers x ts us (form.IsName.name {x = y} i) = one_name y i

number_covers : (n : ℤ) (ts us : List Lexeme) → IsNumber n ts us → Covers (number_tokens n) ts us
number_covers n ts us (form.IsNumber.number {x} i) = one_number x i

not_negative : (n : ℤ) → int_lt n (pos 0) ≡ true → pos 0 ≤ℤ n → ⊥
not_negative (pos n) h k = let l : n < 0 = ltb-true n 0 h in omega (arith, l)
not_negative (negsuc n) h k = omega (arith, k)

not_below : (k : ℕ) → int_lt (pos k) (pos 0) ≡ true → ⊥
not_below k h = let l : k < 0 = ltb-true k 0 h in omega (arith, l)

no_read : (n : ℤ) → int_lt n (pos 0) ≡ true → IsRead n → ⊥
no_read n h r = not_below r.digits (subst (λ v. int_lt v (pos 0) ≡ true) r.is h)

-- the number without its sign, and the number where that changes nothing
magnitude : (m : ℤ) → IsRead m → IsRead (pos (unsigned_abs (neg_ℤ m)))
magnitude m r = record { digits = r.digits; is = ap (λ v. pos (unsigned_abs (neg_ℤ v))) r.is ∙ ap pos (back r.digits); within = r.within }
  where
    back : (k : ℕ) → unsigned_abs (neg_ℤ (pos k)) ≡ k
    back zero = refl
    back (suc k) = refl

zero_only : (m : ℤ) → int_lt (neg_ℤ m) (pos 0) ≡ false → IsRead m → IsRead (neg_ℤ m)
zero_only m h r = go r.digits r.within r.is (subst (λ v. int_lt (neg_ℤ v) (pos 0) ≡ false) r.is h)
  where
    go : (k : ℕ) → k < 2 ^ 63 → m ≡ pos k → int_lt (neg_ℤ (pos k)) (pos 0) ≡ false → IsRead (neg_ℤ m)
    go zero w q e = record { digits = 0; is = ap neg_ℤ q; within = w }
    go (suc k) w q e = absurd (clash e)
      where
        clash : true ≡ false → ⊥
        clash c = absurd cc

plain_covers : (x : Lexeme) (ts : List Lexeme) → x.sign ≡ sign.Number → Covers (signed_tokens x.value) (x ∷ ts) ts
plain_covers x ts i = go (int_lt x.value (pos 0)) refl
  where
    go : (b : Bool) → int_lt x.value (pos 0) ≡ b → Covers (if b then mark sign.Minus ∷ number (pos (unsigned_abs x.value)) ∷ [] else number x.value ∷ []) (x ∷ ts) ts
    go true e = added sign.Minus (pos (unsigned_abs x.value)) (refl, refl, refl, refl) i (λ n. not_negative x.value e (n i)) (λ n. no_read x.value e (n.a_number i))
    go false e = one_number x i

minus_covers : (x y : Lexeme) (ts : List Lexeme) → x.sign ≡ sign.Minus → y.sign ≡ sign.Number → Covers (signed_tokens (neg_ℤ y.value)) (x ∷ y ∷ ts) ts
minus_covers x y ts i j = go (int_lt (neg_ℤ y.value) (pos 0)) refl
  where
    go : (b : Bool) → int_lt (neg_ℤ y.value) (pos 0) ≡ b → Covers (if b then mark sign.Minus ∷ number (pos (unsigned_abs (neg_ℤ y.value))) ∷ [] else number (neg_ℤ y.value) ∷ []) (x ∷ y ∷ ts) ts
    go true e = signed sign.Minus (pos (unsigned_abs (neg_ℤ y.value))) (refl, refl, refl, refl) i j (λ n. magnitude y.value (n.a_number j))
    go false e = dropped (neg_ℤ y.value) (ap opens i, ap closes i) j (λ n. zero_only y.value e (n.a_number j))

signed_covers : {n : ℤ} {ts us : List Lexeme} → IsSigned n ts us → Covers (signed_tokens n) ts us
signed_covers (form.IsSigned.plain {x} {ts} i) = plain_covers x ts i
signed_covers (form.IsSigned.negative {x} {y} {ts} i j) = minus_covers x y ts i j

bound_covers : (b : Bound) (ts us : List Lexeme) → IsBound b ts us → Covers (bound_tokens b) ts us
bound_covers b ts us (form.IsBound.number i) = signed_covers i
bound_covers b ts us (form.IsBound.name {x} i) = one_name x i

scalar_covers : {s : AstScalar} {ts us : List Lexeme} → IsScalar s ts us → Covers (scalar_tokens s) ts us
scalar_covers (form.IsScalar.boolean i) = one_mark sign.Boolean i (refl, refl, refl, refl)
scalar_covers (form.IsScalar.between {lo} {hi} {x} {ts} {us} {ws} l i h) = joined_covers (bound_covers lo ts (x ∷ us) l) (put_mark sign.Span i (refl, refl, refl, refl) (bound_covers hi us ws h))

type_covers : {k : AstType} {ts us : List Lexeme} → IsType k ts us → Covers (type_tokens k) ts us
type_covers (form.IsType.single s) = scalar_covers s
type_covers (form.IsType.array {y} i j k s) = put_mark sign.Array i (refl, refl, refl, refl) (put_number y j (put_mark sign.Of k (refl, refl, refl, refl) (scalar_covers s)))

const_covers : (c : AstConst) (ts us : List Lexeme) → IsConst c ts us → Covers (const_tokens c) ts us
const_covers c ts us (form.IsConst.declared {x} i j n) = put_name x i (put_mark sign.Equal j (refl, refl, refl, refl) (signed_covers n))

input_covers : (v : AstVar) (ts us : List Lexeme) → IsInput v ts us → Covers (var_tokens v) ts us
input_covers v ts us (form.IsInput.declared {x} {s} i j k) = unended {p = name x.text ∷ mark sign.Colon ∷ scalar_tokens s} (put_name x i (put_mark sign.Colon j (refl, refl, refl, refl) (scalar_covers k)))

initial_covers : {b : Option Bound} {ts us : List Lexeme} → Optional IsBound sign.Equal b ts us → Covers (optional sign.Equal (initial_tokens b)) ts us
initial_covers form.Optional.absent = nothing
initial_covers (form.Optional.present {a = b} {ts} {us} i r) = put_mark sign.Equal i (refl, refl, refl, refl) (bound_covers b ts us r)

var_covers : (v : AstVar) (ts us : List Lexeme) → IsVar v ts us → Covers (var_tokens v) ts us
var_covers v ts us (form.IsVar.declared {x} {k} i j t b) = joined_covers {p = name x.text ∷ mark sign.Colon ∷ type_tokens k} (put_name x i (put_mark sign.Colon j (refl, refl, refl, refl) (type_covers t))) (initial_covers b)

fixed_covers : {n : Option ℤ} {ts us : List Lexeme} → Optional IsNumber sign.Equal n ts us → Covers (optional sign.Equal (fixed_tokens n)) ts us
fixed_covers form.Optional.absent = nothing
fixed_covers (form.Optional.present {a = n} {ts} {us} i r) = put_mark sign.Equal i (refl, refl, refl, refl) (number_covers n ts us r)

field_covers : (f : AstField) (ts us : List Lexeme) → IsField f ts us → Covers (field_tokens f) ts us
field_covers f ts us (form.IsField.declared {x} {z} i j k l n) = put_name x i (put_mark sign.Colon j (refl, refl, refl, refl) (put_number z k (put_mark sign.Bits l (refl, refl, refl, refl) (fixed_covers n))))

message_covers : (m : AstMessage) (ts us : List Lexeme) → IsMessage m ts us → Covers (message_tokens m) ts us
message_covers m ts us (form.IsMessage.declared {y} {fields} i j k f e) =
    put_mark sign.Message i (refl, refl, refl, refl) (put_name y j (put_mark sign.Begin k (refl, refl, refl, refl)
    (joined_covers (separated_covers field_tokens IsField field_covers (refl, refl, refl, refl) f) (one_mark sign.End e (refl, refl, refl, refl)))))

-- ---- statements, over the relation of the expressions in them

module _ (E : AstExpr → List Lexeme → List Lexeme → Type 0) (h : (e : AstExpr) (ts us : List Lexeme) → E e ts us → Covers (expr_tokens e) ts us) (b : (e : AstExpr) (ts us : List Lexeme) → E e ts us → BeginsExpr (expr_tokens e)) where
  target_covers : (t : AstTarget) (ts us : List Lexeme) → IsTarget E t ts us → Covers (target_tokens t) ts us
  target_covers t ts us (body.IsTarget.whole {x} i) = one_name x i
  target_covers t ts us (body.IsTarget.element {e} {x} {z} {ts = ks} {us = ws} i o r c) = put_name x i (indexed o (b e ks (z ∷ ws) r) (h e ks (z ∷ ws) r) c)

  send_covers : (y u : Lexeme) (values : List AstExpr) {x z w v : Lexeme} {ts us : List Lexeme} → x.sign ≡ sign.Send → y.sign ≡ sign.Name → z.sign ≡ sign.Open → Covers (separated sign.Comma (map expr_tokens values)) ts (w ∷ v ∷ u ∷ us) → w.sign ≡ sign.Close → v.sign ≡ sign.To → u.sign ≡ sign.Name
      → Covers (mark sign.Send ∷ name y.text ∷ mark sign.Open ∷ separated sign.Comma (map expr_tokens values) ++ mark sign.Close ∷ mark sign.To ∷ name u.text ∷ []) (x ∷ y ∷ z ∷ ts) us
  send_covers y u values i j k r l m n =
      let inner : List Printed = separated sign.Comma (map expr_tokens values) in
      let values_cover = wrapped sign.Open sign.Close round refl k r l in
      let end_covers = put_mark sign.To m (refl, refl, refl, refl) (one_name u n) in
      put_mark sign.Send i (refl, refl, refl, refl) (put_name y j
      (covers_as (ap (λ v. mark sign.Open ∷ v) (sym (append_assoc inner (mark sign.Close ∷ []) (mark sign.To ∷ name u.text ∷ [])))) (joined_covers values_cover end_covers)))

  mutual
    stmt_covers : {s : AstStmt} {ts us : List Lexeme} → IsStmt E s ts us → Covers (stmt_tokens s) ts us
    stmt_covers (body.IsStmt.skip i) = covers_as of_skip (one_mark sign.Skip i (refl, refl, refl, refl))
    stmt_covers (body.IsStmt.assign {targets} {values} t e v) =
        covers_as (of_assign targets values) (joined_covers (separated_covers target_tokens (IsTarget E) target_covers (refl, refl, refl, refl) t) (put_mark sign.Becomes e (refl, refl, refl, refl) (separated_covers expr_tokens E h (refl, refl, refl, refl) v)))
    stmt_covers (body.IsStmt.choose {target} {ts} {us} i t) = covers_as (of_choose target) (put_mark sign.Choose i (refl, refl, refl, refl) (target_covers target ts us t))
    stmt_covers (body.IsStmt.send {values} {y} {u} i j k v l m n) = covers_as (of_send (ident y) values (ident u)) (send_covers y u values i j k (some_covers expr_tokens E h (refl, refl, refl, refl) v) l m n)
    stmt_covers (body.IsStmt.start {delay} {y} {ts} {us} i j k d) = covers_as (of_start (ident y) delay) (put_mark sign.Start i (refl, refl, refl, refl) (put_name y j (put_mark sign.After k (refl, refl, refl, refl) (h delay ts us d))))
    stmt_covers (body.IsStmt.stop {y} i j) = covers_as (of_stop (ident y)) (put_mark sign.Stop i (refl, refl, refl, refl) (one_name y j))
    stmt_covers (body.IsStmt.select {branches} i b k) = covers_as (of_select branches) (wrapped sign.If sign.Fi selection refl i (branches_cover b) k)
    stmt_covers (body.IsStmt.repeat {branches} {y} i j k b l) =
        covers_as (of_loop y.value y.place branches) (wrapped {p = number y.value ∷ mark sign.Times ∷ separated sign.Box (map branch_tokens branches)} sign.Do sign.Od repetition refl i (put_number y j (put_mark sign.Times k (refl, refl, refl, refl) (branches_cover b))) l)

    stmts_cover : {ss : List AstStmt} {ts us : List Lexeme} → AreStmts E ss ts us → Covers (separated sign.Semicolon (map stmt_tokens ss)) ts us
    stmts_cover (body.AreStmts.last i) = unended (stmt_covers i)
    stmts_cover (body.AreStmts.more {s} i e r) = covers_as (ap (λ v. stmt_tokens s ++ v) (stmts_further E r)) (joined_covers (stmt_covers i) (put_mark sign.Semicolon e (refl, refl, refl, refl) (stmts_cover r)))

    branch_covers : {b : AstBranch} {ts us : List Lexeme} → IsBranch E b ts us → Covers (branch_tokens b) ts us
    branch_covers (body.IsBranch.guarded {e} {body = ss} {x} {ts} {us} r i s) = covers_as (of_branch (record { guard = e; body = ss })) (joined_covers (h e ts (x ∷ us) r) (put_mark sign.Arrow i (refl, refl, refl, refl) (stmts_cover s)))

    branches_cover : {bs : List AstBranch} {ts us : List Lexeme} → AreBranches E bs ts us → Covers (separated sign.Box (map branch_tokens bs)) ts us
    branches_cover (body.AreBranches.final i) = unended (branch_covers i)
    branches_cover (body.AreBranches.further {b} i e r) = covers_as (ap (λ v. branch_tokens b ++ v) (branches_further E r)) (joined_covers (branch_covers i) (put_mark sign.Box e (refl, refl, refl, refl) (branches_cover r)))

  guard_covers : {g : AstGuard} {ts us : List Lexeme} → IsGuard E g ts us → Covers (guard_tokens g) ts us
  guard_covers (body.IsGuard.local {e} {ts} {us} r) = h e ts us r
  guard_covers (body.IsGuard.receive {y} {w} i j k l) = put_mark sign.Rcv i (refl, refl, refl, refl) (put_name y j (put_mark sign.From k (refl, refl, refl, refl) (one_name w l)))
  guard_covers (body.IsGuard.timeout {y} i j) = put_mark sign.Timeout i (refl, refl, refl, refl) (one_name y j)

  action_covers : (a : AstAction) (ts us : List Lexeme) → IsAction E a ts us → Covers (action_tokens a) ts us
  action_covers a ts us (body.IsAction.guarded g i s) = joined_covers (guard_covers g) (put_mark sign.Arrow i (refl, refl, refl, refl) (stmts_cover s))

  process_covers : (p : AstProcess) (ts us : List Lexeme) → IsProcess E p ts us → Covers (process_tokens p) ts us
  process_covers p ts us (declared {y} i j c n v t b a e) =
      put_mark sign.Process i (refl, refl, refl, refl) (put_name y j
      (joined_covers (joined_covers (joined_covers (joined_covers (joined_covers
      (block_covers const_tokens IsConst const_covers (refl, refl, refl, refl) (refl, refl, refl, refl) c)
      (block_covers var_tokens IsInput input_covers (refl, refl, refl, refl) (refl, refl, refl, refl) n))
      (block_covers var_tokens IsVar var_covers (refl, refl, refl, refl) (refl, refl, refl, refl) v))
      (block_covers ident_tokens IsName name_covers (refl, refl, refl, refl) (refl, refl, refl, refl) t))
      (put_mark sign.Begin b (refl, refl, refl, refl) (some_covers action_tokens (IsAction E) action_covers (refl, refl, refl, refl) a)))
      (one_mark sign.End e (refl, refl, refl, refl))))

  pub tree_covers : (ts : List Lexeme) (tree : Ast) → SpellsOver E ts tree → Covers (tree_tokens tree) ts []
  tree_covers ts tree (system m p) = joined_covers (rows_cover message_tokens IsMessage message_covers m) (row_covers process_tokens (IsProcess E) process_covers p)
