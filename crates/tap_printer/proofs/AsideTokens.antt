-- Places change neither what is printed nor the count of nodes.
use Rattle.std.proofs.Common.{◌≡◌, refl, sym, ◌∙◌, ap, ℕ, zero, suc, ◌+◌, ◌<◌, ◌≤◌, ℤ, List, [], ◌∷◌, ◌++◌, map, flat_map, Option, Some, None, arith, rules}
use Rattle.std.specs.Option.{option_map}
use Rattle.tap_base.specs.declared.ast.Ast.{Ast}
use Rattle.tap_base.specs.declared.ast.AstAction.{AstAction}
use Rattle.tap_base.specs.declared.ast.AstBranch.{AstBranch}
use Rattle.tap_base.specs.declared.ast.AstExpr.{AstExpr}
use Rattle.tap_base.specs.declared.ast.AstGuard.{AstGuard}
use Rattle.tap_base.specs.declared.ast.AstGuard.TheVariants as guard
use Rattle.tap_base.specs.declared.ast.AstKind.{AstKind, the_lemmas}
use Rattle.tap_base.specs.declared.ast.AstKind.TheVariants as kind
use Rattle.tap_base.specs.declared.ast.AstMessage.{AstMessage}
use Rattle.tap_base.specs.declared.ast.AstProcess.{AstProcess}
use Rattle.tap_base.specs.declared.ast.AstScalar.{AstScalar}
use Rattle.tap_base.specs.declared.ast.AstScalar.TheVariants as scalar
use Rattle.tap_base.specs.declared.ast.AstStmt.{AstStmt, the_lemmas as of_stmts}
use Rattle.tap_base.specs.declared.ast.AstStmt.TheFolds.{fold-AstStmt, fold-AstBranch}
use Rattle.tap_base.specs.declared.ast.AstStmt.TheOpen.{AstStmt-F, AstBranch-F}
use Rattle.tap_base.specs.declared.ast.AstStmt.TheVariants as stmt
use Rattle.tap_base.specs.declared.ast.AstTarget.{AstTarget}
use Rattle.tap_base.specs.declared.ast.AstType.{AstType}
use Rattle.tap_base.specs.declared.ast.AstType.TheVariants as type_of
use Rattle.tap_base.specs.declared.ast.AstVar.{AstVar}
use Rattle.tap_base.specs.declared.ast.Bound.{Bound}
use Rattle.tap_base.specs.declared.ast.Bound.TheVariants as bound
use Rattle.tap_base.specs.declared.place.Place.{Place}
use Rattle.tap_base.specs.declared.token.Sign.TheVariants as sign
use Rattle.tap_base.specs.declared.tree.Op.{Op}
use Rattle.tap_base.proofs.ListFacts.{map_same, flat_same}
use Rattle.tap_lexer.specs.Bytes.{start}
use Rattle.tap_lexer.specs.Leaves.{node}
use Rattle.tap_expr.specs.Grammar.{negation, relation, factor, atom, expression}
use Rattle.tap_expr.specs.Nodes.{nodes}
use Rattle.tap_printer.specs.Canonical.{separated, block, optional, ident_tokens, bound_tokens, scalar_tokens, type_tokens, const_tokens, initial_tokens, var_tokens, message_tokens, index_tokens, target_tokens, stmt_tokens, branch_tokens, guard_tokens, action_tokens, process_tokens, tree_tokens, canonical}
use Rattle.tap_printer.specs.CanonicalExprs.{phrase, phrase_of, tokens_at, expr_tokens, level_of, operation_tokens}
use Rattle.tap_printer.specs.PlacesAside.{ident_aside, expr_aside, target_aside, stmt_aside, branch_aside, guard_aside, action_aside, bound_aside, scalar_aside, type_aside, const_aside, var_aside, field_aside, message_aside, process_aside, places_aside, SameTree}
use Rattle.tap_printer.specs.Printed.{Printed, mark, text_of}
use Rattle.tap_printer.specs.Printed as printed
use Rattle.tap_printer.proofs.Asides.{aside_number, aside_truth, aside_name, aside_index, aside_part, aside_not, aside_neg, aside_binary, aside_skip, aside_assign, aside_choose, aside_send, aside_start, aside_stop, aside_select, aside_loop, aside_branch}
use Rattle.tap_printer.proofs.Bodies.{of_assign, of_choose, of_send, of_start, of_stop, of_select, of_loop, of_branch}
use Rattle.tap_printer.proofs.Views.{KindView, kind_view, a_number, a_truth, a_name, an_element, a_part, a_denial, a_negation, an_operation, StmtView, stmt_view, a_skip, an_assignment, a_choice, a_send, a_start, a_stop, a_selection, a_loop}
use Rattle.tap_printer.proofs.Phrases.{by_kind, of_index, of_not, of_neg, of_binary}

-- ---- nodes

nodes_number : (n : ℤ) (p : Place) → nodes (node (kind.Number n) p) ≡ 1
nodes_number n p = search (rules, the_lemmas)

nodes_index : (t : List ℕ) (i : AstExpr) (p : Place) → nodes (node (kind.Index t i) p) ≡ 1 + nodes i
nodes_index t i p = search (rules, the_lemmas)

nodes_not : (e : AstExpr) (p : Place) → nodes (node (kind.Not e) p) ≡ 1 + nodes e
nodes_not e p = search (rules, the_lemmas)

nodes_neg : (e : AstExpr) (p : Place) → nodes (node (kind.Neg e) p) ≡ 1 + nodes e
nodes_neg e p = search (rules, the_lemmas)

nodes_binary : (o : Op) (a b : AstExpr) (p : Place) → nodes (node (kind.Binary o a b) p) ≡ 1 + (nodes a + nodes b)
nodes_binary o a b p = search (rules, the_lemmas)

nodes_truth : (b : _) (p : Place) → nodes (node (kind.Truth b) p) ≡ 1
nodes_truth b p = search (rules, the_lemmas)

nodes_name : (t : List ℕ) (p : Place) → nodes (node (kind.Name t) p) ≡ 1
nodes_name t p = search (rules, the_lemmas)

nodes_part : (m f : List ℕ) (p : Place) → nodes (node (kind.Part m f) p) ≡ 1
nodes_part m f p = search (rules, the_lemmas)

-- ---- expressions

-- the same phrase, and as many nodes
pub record Alike (d e : AstExpr) : Type 0 where
  pub phrases : phrase_of d ≡ phrase_of e
  pub counts : nodes d ≡ nodes e

leaf : (k : AstKind) (p : Place) → expr_aside (node k p) ≡ node k start → phrase_of (node k start) ≡ phrase_of (node k p) → nodes (node k start) ≡ 1 → nodes (node k p) ≡ 1 → Alike (expr_aside (node k p)) (node k p)
leaf k p e q m n = record { phrases = ap phrase_of e ∙ q; counts = ap nodes e ∙ m ∙ sym n }

-- what is alike below a count of nodes
abbrev Below : ℕ → Type 0
Below n = (e : AstExpr) → nodes e < n → Alike (expr_aside e) e

index_alike : (n : ℕ) → Below n → (t : List ℕ) (i : AstExpr) (p : Place) → nodes (node (kind.Index t i) p) ≤ n → Alike (expr_aside (node (kind.Index t i) p)) (node (kind.Index t i) p)
index_alike n f t i p h =
    let c = nodes_index t i p in
    let r = f i (omega (arith, h, c)) in
    let d = nodes_index t (expr_aside i) start in let e = r.counts in
    let at_start = aside_index t i p in
    record {
      phrases = ap phrase_of at_start ∙ by_kind _ ∙ of_index t (expr_aside i) ∙ ap (λ q. phrase atom (printed.name t ∷ mark sign.OpenIndex ∷ tokens_at expression q ++ mark sign.CloseIndex ∷ [])) r.phrases ∙ sym (by_kind _ ∙ of_index t i);
      counts = ap nodes at_start ∙ omega (arith, c, d, e);
    }

not_alike : (n : ℕ) → Below n → (i : AstExpr) (p : Place) → nodes (node (kind.Not i) p) ≤ n → Alike (expr_aside (node (kind.Not i) p)) (node (kind.Not i) p)
not_alike n f i p h =
    let c = nodes_not i p in
    let r = f i (omega (arith, h, c)) in
    let d = nodes_not (expr_aside i) start in let e = r.counts in
    let at_start = aside_not i p in
    record {
      phrases = ap phrase_of at_start ∙ by_kind _ ∙ of_not (expr_aside i) ∙ ap (λ q. phrase negation (mark sign.Not ∷ tokens_at relation q)) r.phrases ∙ sym (by_kind _ ∙ of_not i);
      counts = ap nodes at_start ∙ omega (arith, c, d, e);
    }

neg_alike : (n : ℕ) → Below n → (i : AstExpr) (p : Place) → nodes (node (kind.Neg i) p) ≤ n → Alike (expr_aside (node (kind.Neg i) p)) (node (kind.Neg i) p)
neg_alike n f i p h =
    let c = nodes_neg i p in
    let r = f i (omega (arith, h, c)) in
    let d = nodes_neg (expr_aside i) start in let e = r.counts in
    let at_start = aside_neg i p in
    record {
      phrases = ap phrase_of at_start ∙ by_kind _ ∙ of_neg (expr_aside i) ∙ ap (λ q. phrase factor (mark sign.Minus ∷ tokens_at atom q)) r.phrases ∙ sym (by_kind _ ∙ of_neg i);
      counts = ap nodes at_start ∙ omega (arith, c, d, e);
    }

binary_alike : (n : ℕ) → Below n → (o : Op) (a b : AstExpr) (p : Place) → nodes (node (kind.Binary o a b) p) ≤ n → Alike (expr_aside (node (kind.Binary o a b) p)) (node (kind.Binary o a b) p)
binary_alike n g o a b p h =
    let c = nodes_binary o a b p in
    let r = g a (omega (arith, h, c)) in
    let s = g b (omega (arith, h, c)) in
    let d = nodes_binary o (expr_aside a) (expr_aside b) start in let e = r.counts in let f = s.counts in
    let at_start = aside_binary o a b p in
    record {
      phrases = ap phrase_of at_start ∙ by_kind _ ∙ of_binary o (expr_aside a) (expr_aside b) ∙ ap (λ q. phrase (level_of o) (operation_tokens o q (phrase_of (expr_aside b)))) r.phrases ∙ ap (λ q. phrase (level_of o) (operation_tokens o (phrase_of a) q)) s.phrases ∙ sym (by_kind _ ∙ of_binary o a b);
      counts = ap nodes at_start ∙ omega (arith, c, d, e, f);
    }

by_view : (n : ℕ) → Below n → (k : AstKind) (p : Place) → KindView k → nodes (node k p) ≤ n → Alike (expr_aside (node k p)) (node k p)
by_view n f k p (a_number v) h = leaf (kind.Number v) p (aside_number v p) (by_kind _ ∙ sym (by_kind _)) (nodes_number v start) (nodes_number v p)
by_view n f k p (a_truth b) h = leaf (kind.Truth b) p (aside_truth b p) (by_kind _ ∙ sym (by_kind _)) (nodes_truth b start) (nodes_truth b p)
by_view n f k p (a_name t) h = leaf (kind.Name t) p (aside_name t p) (by_kind _ ∙ sym (by_kind _)) (nodes_name t start) (nodes_name t p)
by_view n f k p (a_part m v) h = leaf (kind.Part m v) p (aside_part m v p) (by_kind _ ∙ sym (by_kind _)) (nodes_part m v start) (nodes_part m v p)
by_view n f k p (an_element t i) h = index_alike n f t i p h
by_view n f k p (a_denial i) h = not_alike n f i p h
by_view n f k p (a_negation i) h = neg_alike n f i p h
by_view n f k p (an_operation o a b) h = binary_alike n f o a b p h

below : (n : ℕ) → Below n
below zero e h = absurd (omega (arith, h))
below (suc n) e h = by_view n (below n) e.kind e.place (kind_view e.kind) (omega (arith, h))

pub expr_alike : (e : AstExpr) → Alike (expr_aside e) e
expr_alike e = below (suc (nodes e)) e (omega arith)

pub expr_same : (e : AstExpr) → expr_tokens (expr_aside e) ≡ expr_tokens e
expr_same e = ap (tokens_at expression) (expr_alike e).phrases

-- ---- lists

-- ---- statements

target_same : (t : AstTarget) → target_tokens (target_aside t) ≡ target_tokens t
target_same t = ap (λ x. printed.name t.name.text ∷ x) (index t.index)
  where
    index : (i : Option AstExpr) → index_tokens (option_map expr_aside i) ≡ index_tokens i
    index None = refl
    index (Some e) = ap (λ x. mark sign.OpenIndex ∷ x ++ mark sign.CloseIndex ∷ []) (expr_same e)

abbrev total : List ℕ → ℕ
total [] = 0
total (n ∷ ns) = n + total ns

-- how many statements and branches there are
abbrev weight_step : AstStmt-F ℕ ℕ → ℕ
weight_step AstStmt-F.Skip = 1
weight_step (AstStmt-F.Assign targets values) = 1
weight_step (AstStmt-F.Choose target) = 1
weight_step (AstStmt-F.Send message values to) = 1
weight_step (AstStmt-F.Start timer delay) = 1
weight_step (AstStmt-F.Stop timer) = 1
weight_step (AstStmt-F.If branches) = 1 + total branches
weight_step (AstStmt-F.Loop count place branches) = 1 + total branches

abbrev branch_weight_step : AstBranch-F ℕ ℕ → ℕ
branch_weight_step b = 1 + total b.body

abbrev weight : AstStmt → ℕ
weight = fold-AstStmt ℕ ℕ weight_step branch_weight_step

abbrev branch_weight : AstBranch → ℕ
branch_weight = fold-AstBranch ℕ ℕ weight_step branch_weight_step

weight_select : (branches : List AstBranch) → weight (stmt.If branches) ≡ 1 + total (map branch_weight branches)
weight_select branches = search (rules, of_stmts)

weight_loop : (count : ℤ) (place : Place) (branches : List AstBranch) → weight (stmt.Loop count place branches) ≡ 1 + total (map branch_weight branches)
weight_loop count place branches = search (rules, of_stmts)

weight_branch : (b : AstBranch) → branch_weight b ≡ 1 + total (map weight b.body)
weight_branch b = search (rules, of_stmts)

-- where each of a list is light enough
all_same : {A : Type 0} (n : ℕ) (size : A → ℕ) (aside : A → A) (f : A → List Printed) → ((a : A) → size a ≤ n → f (aside a) ≡ f a) → (l : List A) → total (map size l) ≤ n → map f (map aside l) ≡ map f l
all_same n size aside f h [] w = refl
all_same n size aside f h (a ∷ l) w = ap (λ x. x ∷ map f (map aside l)) (h a (omega (arith, w))) ∙ ap (λ x. f a ∷ x) (all_same n size aside f h l (omega (arith, w)))

pub record AllSame (n : ℕ) : Type 0 where
  pub stmts : (s : AstStmt) → weight s ≤ n → stmt_tokens (stmt_aside s) ≡ stmt_tokens s
  pub branches : (b : AstBranch) → branch_weight b ≤ n → branch_tokens (branch_aside b) ≡ branch_tokens b

select_same : (n : ℕ) (branches : List AstBranch) → ((b : AstBranch) → branch_weight b ≤ n → branch_tokens (branch_aside b) ≡ branch_tokens b) → weight (stmt.If branches) ≤ suc n → stmt_tokens (stmt_aside (stmt.If branches)) ≡ stmt_tokens (stmt.If branches)
select_same n branches h w =
    let c = weight_select branches in
    ap stmt_tokens (aside_select branches) ∙ of_select (map branch_aside branches) ∙ ap (λ x. mark sign.If ∷ separated sign.Box x ++ mark sign.Fi ∷ []) (all_same n branch_weight branch_aside branch_tokens h branches (omega (arith, c, w))) ∙ sym (of_select branches)

loop_same : (n : ℕ) (count : ℤ) (place : Place) (branches : List AstBranch) → ((b : AstBranch) → branch_weight b ≤ n → branch_tokens (branch_aside b) ≡ branch_tokens b) → weight (stmt.Loop count place branches) ≤ suc n
    → stmt_tokens (stmt_aside (stmt.Loop count place branches)) ≡ stmt_tokens (stmt.Loop count place branches)
loop_same n count place branches h w =
    let c = weight_loop count place branches in
    ap stmt_tokens (aside_loop count place branches) ∙ of_loop count start (map branch_aside branches)
    ∙ ap (λ x. mark sign.Do ∷ printed.number count ∷ mark sign.Times ∷ separated sign.Box x ++ mark sign.Od ∷ []) (all_same n branch_weight branch_aside branch_tokens h branches (omega (arith, c, w))) ∙ sym (of_loop count place branches)

plain_same : (n : ℕ) → ((b : AstBranch) → branch_weight b ≤ n → branch_tokens (branch_aside b) ≡ branch_tokens b) → (s : AstStmt) → StmtView s → weight s ≤ suc n → stmt_tokens (stmt_aside s) ≡ stmt_tokens s
plain_same n h s a_skip w = ap stmt_tokens aside_skip
plain_same n h s (an_assignment targets values) w =
    ap stmt_tokens (aside_assign targets values) ∙ of_assign (map target_aside targets) (map expr_aside values)
    ∙ ap (λ x. separated sign.Comma x ++ mark sign.Becomes ∷ separated sign.Comma (map expr_tokens (map expr_aside values))) (map_same target_aside target_tokens target_same targets)
    ∙ ap (λ x. separated sign.Comma (map target_tokens targets) ++ mark sign.Becomes ∷ separated sign.Comma x) (map_same expr_aside expr_tokens expr_same values)
    ∙ sym (of_assign targets values)
plain_same n h s (a_choice target) w = ap stmt_tokens (aside_choose target) ∙ of_choose (target_aside target) ∙ ap (λ x. mark sign.Choose ∷ x) (target_same target) ∙ sym (of_choose target)
plain_same n h s (a_send message values to) w =
    ap stmt_tokens (aside_send message values to) ∙ of_send (ident_aside message) (map expr_aside values) (ident_aside to)
    ∙ ap (λ x. mark sign.Send ∷ printed.name message.text ∷ mark sign.Open ∷ separated sign.Comma x ++ mark sign.Close ∷ mark sign.To ∷ printed.name to.text ∷ []) (map_same expr_aside expr_tokens expr_same values)
    ∙ sym (of_send message values to)
plain_same n h s (a_start timer delay) w = ap stmt_tokens (aside_start timer delay) ∙ of_start (ident_aside timer) (expr_aside delay) ∙ ap (λ x. mark sign.Start ∷ printed.name timer.text ∷ mark sign.After ∷ x) (expr_same delay) ∙ sym (of_start timer delay)
plain_same n h s (a_stop timer) w = ap stmt_tokens (aside_stop timer) ∙ of_stop (ident_aside timer) ∙ sym (of_stop timer)
plain_same n h s (a_selection branches) w = select_same n branches h w
plain_same n h s (a_loop count place branches) w = loop_same n count place branches h w

body_same : (n : ℕ) → ((s : AstStmt) → weight s ≤ n → stmt_tokens (stmt_aside s) ≡ stmt_tokens s) → (b : AstBranch) → branch_weight b ≤ suc n → branch_tokens (branch_aside b) ≡ branch_tokens b
body_same n h b w =
    let c = weight_branch b in
    ap branch_tokens (aside_branch b) ∙ of_branch (record { guard = expr_aside b.guard; body = map stmt_aside b.body })
    ∙ ap (λ x. x ++ mark sign.Arrow ∷ separated sign.Semicolon (map stmt_tokens (map stmt_aside b.body))) (expr_same b.guard)
    ∙ ap (λ x. expr_tokens b.guard ++ mark sign.Arrow ∷ separated sign.Semicolon x) (all_same n weight stmt_aside stmt_tokens h b.body (omega (arith, c, w)))
    ∙ sym (of_branch b)

by_weight : (n : ℕ) → AllSame n
by_weight zero = record { stmts = λ s w. plain_same 0 (λ b v. let c = weight_branch b in absurd (omega (arith, c, v))) s (stmt_view s) (omega (arith, w)); branches = λ b w. let c = weight_branch b in absurd (omega (arith, c, w)) }
by_weight (suc n) =
    let r = by_weight n in
    record { stmts = λ s w. plain_same n r.branches s (stmt_view s) w; branches = λ b w. body_same n r.stmts b w }

stmt_same : (s : AstStmt) → stmt_tokens (stmt_aside s) ≡ stmt_tokens s
stmt_same s = (by_weight (weight s)).stmts s (omega arith)

-- ---- actions and declarations

guard_same : (g : AstGuard) → guard_tokens (guard_aside g) ≡ guard_tokens g
guard_same (guard.Local e) = expr_same e
guard_same (guard.Receive message from) = refl
guard_same (guard.Timeout timer) = refl

action_same : (a : AstAction) → action_tokens (action_aside a) ≡ action_tokens a
action_same a =
    ap (λ x. x ++ mark sign.Arrow ∷ separated sign.Semicolon (map stmt_tokens (map stmt_aside a.body))) (guard_same a.guard)
    ∙ ap (λ x. guard_tokens a.guard ++ mark sign.Arrow ∷ separated sign.Semicolon x) (map_same stmt_aside stmt_tokens stmt_same a.body)

bound_same : (b : Bound) → bound_tokens (bound_aside b) ≡ bound_tokens b
bound_same (bound.Number n) = refl
bound_same (bound.Name x) = refl

scalar_same : (s : AstScalar) → scalar_tokens (scalar_aside s) ≡ scalar_tokens s
scalar_same scalar.Boolean = refl
scalar_same (scalar.Between lo hi) = ap (λ x. x ++ mark sign.Span ∷ bound_tokens (bound_aside hi)) (bound_same lo) ∙ ap (λ x. bound_tokens lo ++ mark sign.Span ∷ x) (bound_same hi)

type_same : (k : AstType) → type_tokens (type_aside k) ≡ type_tokens k
type_same (type_of.Scalar s) = scalar_same s
type_same (type_of.Array n s) = ap (λ x. mark sign.Array ∷ printed.number n ∷ mark sign.Of ∷ x) (scalar_same s)

var_same : (v : AstVar) → var_tokens (var_aside v) ≡ var_tokens v
var_same v =
    ap (λ x. printed.name v.name.text ∷ mark sign.Colon ∷ x ++ optional sign.Equal (initial_tokens (option_map bound_aside v.initial))) (type_same v.kind)
    ∙ ap (λ x. printed.name v.name.text ∷ mark sign.Colon ∷ type_tokens v.kind ++ optional sign.Equal x) (initial v.initial)
  where
    initial : (b : Option Bound) → initial_tokens (option_map bound_aside b) ≡ initial_tokens b
    initial None = refl
    initial (Some b) = ap Some (bound_same b)

message_same : (m : AstMessage) → message_tokens (message_aside m) ≡ message_tokens m
message_same m = ap (λ x. mark sign.Message ∷ printed.name m.name.text ∷ mark sign.Begin ∷ separated sign.Semicolon x ++ mark sign.End ∷ []) (map_same field_aside _ (λ f. refl) m.fields)

process_same : (p : AstProcess) → process_tokens (process_aside p) ≡ process_tokens p
process_same p =
    let c = map_same const_aside const_tokens (λ x. refl) p.consts in
    let i = map_same var_aside var_tokens var_same p.inputs in
    let v = map_same var_aside var_tokens var_same p.vars in
    let t = map_same ident_aside ident_tokens (λ x. refl) p.timers in
    let a = map_same action_aside action_tokens action_same p.actions in
    ap (λ x. made x (map var_tokens (map var_aside p.inputs)) (map var_tokens (map var_aside p.vars)) (map ident_tokens (map ident_aside p.timers)) (map action_tokens (map action_aside p.actions))) c
    ∙ ap (λ x. made (map const_tokens p.consts) x (map var_tokens (map var_aside p.vars)) (map ident_tokens (map ident_aside p.timers)) (map action_tokens (map action_aside p.actions))) i
    ∙ ap (λ x. made (map const_tokens p.consts) (map var_tokens p.inputs) x (map ident_tokens (map ident_aside p.timers)) (map action_tokens (map action_aside p.actions))) v
    ∙ ap (λ x. made (map const_tokens p.consts) (map var_tokens p.inputs) (map var_tokens p.vars) x (map action_tokens (map action_aside p.actions))) t
    ∙ ap (λ x. made (map const_tokens p.consts) (map var_tokens p.inputs) (map var_tokens p.vars) (map ident_tokens p.timers) x) a
  where
    made : List (List Printed) → List (List Printed) → List (List Printed) → List (List Printed) → List (List Printed) → List Printed
    made c i v t a =
        mark sign.Process ∷ printed.name p.name.text ∷ block sign.Const sign.Semicolon c ++ block sign.Inp sign.Semicolon i ++ block sign.Var sign.Semicolon v ++ block sign.Timer sign.Comma t ++ mark sign.Begin ∷ separated sign.Box a ++ mark sign.End ∷ []

-- ---- trees

pub tree_same : (tree : Ast) → tree_tokens (places_aside tree) ≡ tree_tokens tree
tree_same tree =
    ap (λ x. x ++ flat_map process_tokens (map process_aside tree.processes)) (flat_same message_aside message_tokens message_same tree.messages)
    ∙ ap (λ x. flat_map message_tokens tree.messages ++ x) (flat_same process_aside process_tokens process_same tree.processes)

-- trees that are the same but for their places are printed alike
pub printed_alike : (c d : Ast) → SameTree c d → tree_tokens c ≡ tree_tokens d
printed_alike c d h = sym (tree_same c) ∙ ap tree_tokens h ∙ tree_same d

pub canonical_alike : (c d : Ast) → SameTree c d → canonical c ≡ canonical d
canonical_alike c d h = ap text_of (printed_alike c d h)
