-- Tokens spell at most one tree: declarations, statements, processes and whole texts.
use Rattle.std.proofs.Common.{◌≡◌, ℕ, refl, sym, ◌∙◌, ap, subst, List, [], ◌∷◌, Option, Some, None}
use Rattle.tap_base.specs.declared.ast.Ast.{Ast}
use Rattle.tap_base.specs.declared.ast.AstAction.{AstAction}
use Rattle.tap_base.specs.declared.ast.AstBranch.{AstBranch}
use Rattle.tap_base.specs.declared.ast.AstConst.{AstConst}
use Rattle.tap_base.specs.declared.ast.AstExpr.{AstExpr}
use Rattle.tap_base.specs.declared.ast.AstField.{AstField}
use Rattle.tap_base.specs.declared.ast.AstGuard.{AstGuard}
use Rattle.tap_base.specs.declared.ast.AstGuard.TheVariants as guard
use Rattle.tap_base.specs.declared.ast.AstMessage.{AstMessage}
use Rattle.tap_base.specs.declared.ast.AstProcess.{AstProcess}
use Rattle.tap_base.specs.declared.ast.AstStmt.{AstStmt}
use Rattle.tap_base.specs.declared.ast.AstStmt.TheVariants as stmt
use Rattle.tap_base.specs.declared.ast.AstTarget.{AstTarget}
use Rattle.tap_base.specs.declared.ast.AstVar.{AstVar}
use Rattle.tap_base.specs.declared.ast.Ident.{Ident}
use Rattle.tap_base.specs.declared.token.Sign.TheVariants as sign
use Rattle.tap_lexer.specs.Lexeme.{Lexeme}
use Rattle.tap_lexer.specs.Leaves.{ident}
use Rattle.tap_lexer.specs.Rows.{Separated, last as last_item, more as more_items, Row, last as last_row, more as more_row, Rows, none, more as more_rows}
use Rattle.tap_lexer.specs.inner.Reading.{Lacks, Free, closed, Only}
use Rattle.tap_expr.specs.Grammar.{expression}
use Rattle.tap_expr.specs.inner.ExprReading.{Stops}
use Rattle.tap_expr.proofs.ExprOne.{one_reading}
use Rattle.tap_parser.specs.Declarations.{IsName, name, IsConst, IsInput, IsVar, IsField, IsMessage, IsSigned, IsScalar, declared, declared as input_declared, declared as var_declared, declared as field_declared, declared as message_declared}
use Rattle.tap_parser.specs.Statements.{IsTarget, whole, element, IsStmt, skip, assign, choose, send, start, stop, select, repeat, AreStmts, last, more, IsBranch, guarded, AreBranches, final, further, IsGuard, local, receive, timeout, IsAction, guarded as action_guarded}
use Rattle.tap_parser.specs.Systems.{IsProcess, declared as process_declared, SpellsOver, system, Sized, OneText}
use Rattle.tap_parser.specs.inner.Forms.{Begins, StmtStops, BodyStops, BranchesStop, Declared, AreDeclared, parts}
use Rattle.tap_parser.proofs.TextParts.{begun, Both, after}
use Rattle.tap_parser.proofs.TextBounds.{Name, Number, Types}
use Rattle.tap_parser.proofs.TextDeclared.{ToSigned, const_of, ToScalar, input_of, Initial, ToType, var_of, Fixed, ToFixed, ToWidth, field_of, FieldList, ToFields, NamedFields, message_of, message_begins, end_after_field, unroll_const, unroll_input, unroll_var, unroll_field, unroll_message}
use Rattle.tap_parser.proofs.TextExprs.{no_index, Index, Bracketed, bare, indexed, unroll_target, targets_begin, Opens, sized_opens, unopened}
use Rattle.tap_parser.proofs.TextStatements.{TargetList, ValueList, ToValues, TargetsStop, becomes_stops, ChooseForm, SentValues, ToName, InParens, SendForm, send_of, ToDelay, StartForm, start_of, StopForm, ToFi, SelectForm, ToOd, ToTimes, LoopForm, loop_of, skip_only, unroll_assign, unroll_choose, unroll_send, unroll_start, unroll_stop, unroll_select, unroll_loop}
use Rattle.tap_parser.proofs.TextBodies.{fi_stops, od_stops, end_stops, arrow_stops, bracket_stops, comma_stops, paren_stops, semicolon_stops, box_stops, no_expr_at_close, ToBody, branch_of, unroll_branch, Guards, ToSender, ReceiveForm, TimeoutForm, receive_of, NoWord, unroll_receive, unroll_timeout, unroll_local, action_of, unroll_action, no_action_at_end, arrow_follows}
use Rattle.tap_parser.proofs.TextProcesses.{ConstBlock, InputBlock, VarBlock, TimerBlock, ActionList, FromBegin, FromTimers, FromVars, FromInputs, FromConsts, ConstStops, InputStops, VarStops, TimerStops, timers_lead, vars_lead, inputs_lead, consts_lead, Parts, unroll_parts, NamedParts, process_of, unroll_process, process_begins}
use Rattle.tap_parser.proofs.TextWeaker.{asked_none}
use Rattle.tap_parser.proofs.TextOne.{as_renamed, as_both, as_after, as_closed, last_as, more_as, one_list, one_block, one_until, one_row, one_name, numeral_of, one_numeral, one_signed, one_scalar, one_type, one_initial, one_fixed}

-- ---- declarations

one_const : (c : AstConst) (ts us : List Lexeme) → IsConst c ts us → Free us → Only IsConst Free ts c us
one_const c ts us (declared {x} {y} {n} {ts = ks} e g i) s = as_renamed (Both Name ToSigned None) IsConst Free Free const_of (ident x, n) ts us (as_both Name ToSigned Free Free None (λ b vs ws r k. tt) (ident x) n ts (y ∷ ks) us (one_name x (y ∷ ks)) (as_after sign.Equal IsSigned Free y ks us n (one_signed i))) (λ b ws r k. unroll_const None b ts ws r) (λ ws k. k)

one_input : (c : AstVar) (ts us : List Lexeme) → IsInput c ts us → Free us → Only IsInput Free ts c us
one_input c ts us (input_declared {x} {y} {s = d} {ts = ks} e g i) s = as_renamed (Both Name ToScalar None) IsInput Free Free input_of (ident x, d) ts us (as_both Name ToScalar Free Free None (λ b vs ws r k. tt) (ident x) d ts (y ∷ ks) us (one_name x (y ∷ ks)) (as_after sign.Colon IsScalar Free y ks us d (one_scalar i))) (λ b ws r k. unroll_input None b ts ws r) (λ ws k. k)

one_var : (c : AstVar) (ts us : List Lexeme) → IsVar c ts us → Lacks sign.Equal us → Only IsVar (Lacks sign.Equal) ts c us
one_var c ts us (var_declared {x} {y} {k = d} {b = o} {ts = ks} {us = ms} e g i j) s = as_renamed (Both Name ToType None) IsVar (Lacks sign.Equal) (Lacks sign.Equal) var_of (ident x, (d, o)) ts us (as_both Name ToType Free (Lacks sign.Equal) None (λ b vs ws r k. tt) (ident x) (d, o) ts (y ∷ ks) us (one_name x (y ∷ ks)) (as_after sign.Colon (Both Types Initial None) (Lacks sign.Equal) y ks us (d, o) (as_both Types Initial Free (Lacks sign.Equal) None (λ b vs ws r k. tt) d o ks ms us (one_type i) (one_initial j s)))) (λ b ws r k. unroll_var None b ts ws r) (λ ws k. k)

one_field : (c : AstField) (ts us : List Lexeme) → IsField c ts us → Lacks sign.Equal us → Only IsField (Lacks sign.Equal) ts c us
one_field c ts us (field_declared {x} {y} {z} {w} {n = o} {ts = ks} e g f h j) s = as_renamed (Both Name ToWidth None) IsField (Lacks sign.Equal) (Lacks sign.Equal) field_of (ident x, (numeral_of z, o)) ts us (as_both Name ToWidth Free (Lacks sign.Equal) None (λ b vs ws r k. tt) (ident x) (numeral_of z, o) ts (y ∷ z ∷ w ∷ ks) us (one_name x (y ∷ z ∷ w ∷ ks)) (as_after sign.Colon (Both Number ToFixed None) (Lacks sign.Equal) y (z ∷ w ∷ ks) us (numeral_of z, o) (as_both Number ToFixed Free (Lacks sign.Equal) None (λ b vs ws r k. tt) (numeral_of z) o (z ∷ w ∷ ks) (w ∷ ks) us (one_numeral z (w ∷ ks)) (as_after sign.Bits (Fixed None) (Lacks sign.Equal) w ks us o (one_fixed j s))))) (λ b ws r k. unroll_field None b ts ws r) (λ ws k. k)

field_parted : (x : Lexeme) (us : List Lexeme) → x.sign ≡ sign.Semicolon → Lacks sign.Equal (x ∷ us)
field_parted x us e = λ f. absurd cc

one_message : (c : AstMessage) (ts us : List Lexeme) → IsMessage c ts us → Only IsMessage Free ts c us
one_message c ts us (message_declared {x} {y} {z} {w} {fields} {ts = ks} e g f i h) = as_renamed (NamedFields None) IsMessage Free Free message_of (ident y, fields) ts us (as_after sign.Message (Both Name ToFields None) Free x (y ∷ z ∷ ks) us (ident y, fields) (as_both Name ToFields Free Free None (λ b vs ws r k. tt) (ident y) fields (y ∷ z ∷ ks) (z ∷ ks) us (one_name y (z ∷ ks)) (as_after sign.Begin (FieldList None) Free z ks us fields (as_closed (Separated IsField sign.Semicolon) (λ vs. Lacks sign.Equal vs × Lacks sign.Semicolon vs) sign.End end_after_field fields w ks us (one_list IsField (Lacks sign.Equal) sign.Semicolon field_parted one_field i (end_after_field w us h)))))) (λ b ws r k. unroll_message None b ts ws r) (λ ws k. k)

-- ---- expressions and targets

module _ (n : Option ℕ) where
  one_expr : (e : AstExpr) (ts us : List Lexeme) → Sized n e ts us → Stops expression us → Only (Sized n) (Stops expression) ts e us
  one_expr e ts us r s = go n r
    where
      go : (m : Option ℕ) → Sized m e ts us → Only (Sized m) (Stops expression) ts e us
      go None r = one_reading expression ts us e r s
      go (Some m) r = λ d ws q k. one_reading expression ts us e r.0 s d ws q.0 k

  one_index : {o : Option AstExpr} {ts us : List Lexeme} → Bracketed (Sized n) o ts us → Lacks sign.OpenIndex us → Only (Bracketed (Sized n)) (Lacks sign.OpenIndex) ts o us
  one_index {ts} bare l = λ b ws r k. go ts l b ws r
    where
      go : (ks : List Lexeme) → Lacks sign.OpenIndex ks → (b : Option AstExpr) (ws : List Lexeme) → Bracketed (Sized n) b ks ws → (b ≡ None) × (ws ≡ ks)
      go ks h b ws bare = (refl, refl)
      go ks h b ws (indexed i r k) = absurd (h i)
  one_index (indexed {e} {y} {z} {ts} {us} i r k) l = λ b ws q m. go b ws q m
    where
      go : (b : Option AstExpr) (ws : List Lexeme) → Bracketed (Sized n) b (y ∷ ts) ws → Lacks sign.OpenIndex ws → (b ≡ Some e) × (ws ≡ us)
      go b ws bare m = absurd (m i)
      go b ws (indexed {e = d} {z = w} j q h) m = let t = one_expr e ts (z ∷ us) r (bracket_stops z us k) d (w ∷ ws) q (bracket_stops w ws h) in (ap (λ v. Some v) t.0, let f = t.1 in cc)

  one_target : (c : AstTarget) (ts us : List Lexeme) → IsTarget (Sized n) c ts us → Lacks sign.OpenIndex us → Only (IsTarget (Sized n)) (Lacks sign.OpenIndex) ts c us
  one_target c ts us (whole {x} {ts = ks} e) s = as_renamed (Both Name Index n) (IsTarget (Sized n)) (Lacks sign.OpenIndex) (Lacks sign.OpenIndex) (λ v. record { name = v.0; index = v.1 }) (ident x, None) ts us (as_both Name Index Free (Lacks sign.OpenIndex) n (λ b vs ws r k. tt) (ident x) None ts ks us (one_name x ks) (one_index bare s)) (λ b ws r k. unroll_target n b ts ws r) (λ ws k. k)
  one_target c ts us (element {e = d} {x} {y} {ts = ks} e i r k) s = as_renamed (Both Name Index n) (IsTarget (Sized n)) (Lacks sign.OpenIndex) (Lacks sign.OpenIndex) (λ v. record { name = v.0; index = v.1 }) (ident x, Some d) ts us (as_both Name Index Free (Lacks sign.OpenIndex) n (λ b vs ws q m. tt) (ident x) (Some d) ts (y ∷ ks) us (one_name x (y ∷ ks)) (one_index (indexed i r k) s)) (λ b ws q m. unroll_target n b ts ws q) (λ ws q. q)

  target_parted : (x : Lexeme) (us : List Lexeme) → x.sign ≡ sign.Comma → Lacks sign.OpenIndex (x ∷ us)
  target_parted x us e = λ f. absurd cc

  becomes_ends : (x : Lexeme) (us : List Lexeme) → x.sign ≡ sign.Becomes → TargetsStop (x ∷ us)
  becomes_ends x us e = (λ f. absurd cc, λ f. absurd cc)

  close_ends : (x : Lexeme) (us : List Lexeme) → x.sign ≡ sign.Close → StmtStops (x ∷ us)
  close_ends x us e = (paren_stops x us e, λ f. absurd cc)

  -- ---- statements

  semicolon_ends : (x : Lexeme) (us : List Lexeme) → x.sign ≡ sign.Semicolon → StmtStops (x ∷ us)
  semicolon_ends x us e = semicolon_stops (x ∷ us) e

  box_ends : (x : Lexeme) (us : List Lexeme) → x.sign ≡ sign.Box → BodyStops (x ∷ us)
  box_ends x us e = box_stops (x ∷ us) e

  stmts_list : {l : List AstStmt} {ts us : List Lexeme} → AreStmts (Sized n) l ts us → Separated (IsStmt (Sized n)) sign.Semicolon l ts us
  stmts_list (last i) = last_item i
  stmts_list (more i e r) = more_items i e (stmts_list r)

  list_stmts : {l : List AstStmt} {ts us : List Lexeme} → Separated (IsStmt (Sized n)) sign.Semicolon l ts us → AreStmts (Sized n) l ts us
  list_stmts (last_item i) = last i
  list_stmts (more_items i e r) = more i e (list_stmts r)

  branches_list : {l : List AstBranch} {ts us : List Lexeme} → AreBranches (Sized n) l ts us → Separated (IsBranch (Sized n)) sign.Box l ts us
  branches_list (final i) = last_item i
  branches_list (further i e r) = more_items i e (branches_list r)

  list_branches : {l : List AstBranch} {ts us : List Lexeme} → Separated (IsBranch (Sized n)) sign.Box l ts us → AreBranches (Sized n) l ts us
  list_branches (last_item i) = final i
  list_branches (more_items i e r) = further i e (list_branches r)

  mutual
    one_stmt : {c : AstStmt} {ts us : List Lexeme} → IsStmt (Sized n) c ts us → StmtStops us → Only (IsStmt (Sized n)) StmtStops ts c us
    one_stmt {ts} (skip {x} {ts = ks} e) s = λ b ws r k. skip_only [] 0 n b x ks ws e r
    one_stmt {ts} {us} (assign {targets} {values} {x} {us = ks} t e v) s = as_renamed (Both TargetList ToValues n) (IsStmt (Sized n)) StmtStops StmtStops (λ p. stmt.Assign p.0 p.1) (targets, values) ts us (as_both TargetList ToValues TargetsStop StmtStops n (λ b vs ws r k. becomes_stops n b vs ws r k) targets values ts (x ∷ ks) us (one_list (IsTarget (Sized n)) (Lacks sign.OpenIndex) sign.Comma target_parted one_target t (becomes_ends x ks e)) (as_after sign.Becomes (ValueList n) StmtStops x ks us values (one_list (Sized n) (Stops expression) sign.Comma comma_stops one_expr v s))) (λ b ws r k. unroll_assign n b ts ws (targets_begin n targets ts (x ∷ ks) t) r) (λ ws k. k)
    one_stmt {ts} {us} (choose {target} {x} {ts = ks} e t) s = as_renamed (ChooseForm n) (IsStmt (Sized n)) (Lacks sign.OpenIndex) StmtStops (λ v. stmt.Choose v) target ts us (as_after sign.Choose (IsTarget (Sized n)) (Lacks sign.OpenIndex) x ks us target (one_target target ks us t (no_index us s.0))) (λ b ws r k. unroll_choose n b ts ws e r) (λ ws k. no_index ws k.0)
    one_stmt {ts} {us} (send {values} {x} {y} {z} {w} {v} {u} {ts = ks} e f g h i j k) s = as_renamed (SendForm n) (IsStmt (Sized n)) Free StmtStops send_of (ident y, (values, ident u)) ts us (as_after sign.Send (Both Name InParens n) Free x (y ∷ z ∷ ks) us (ident y, (values, ident u)) (as_both Name InParens Free Free n (λ b vs ws r m. tt) (ident y) (values, ident u) (y ∷ z ∷ ks) (z ∷ ks) us (one_name y (z ∷ ks)) (as_after sign.Open (Both SentValues ToName n) Free z ks us (values, ident u) (as_both SentValues ToName Free Free n (λ b vs ws r m. tt) values (ident u) ks (v ∷ u ∷ us) us (one_until (Sized n) (Stops expression) sign.Comma comma_stops one_expr sign.Close (λ a q ms ws o r. no_expr_at_close n a q ms ws o r) close_ends (closed h i)) (as_after sign.To IsName Free v (u ∷ us) us (ident u) (one_name u us)))))) (λ b ws r m. unroll_send n b ts ws e r) (λ ws m. tt)
    one_stmt {ts} {us} (start {delay} {x} {y} {z} {ts = ks} e f g d) s = as_renamed (StartForm n) (IsStmt (Sized n)) (Stops expression) StmtStops start_of (ident y, delay) ts us (as_after sign.Start (Both Name ToDelay n) (Stops expression) x (y ∷ z ∷ ks) us (ident y, delay) (as_both Name ToDelay Free (Stops expression) n (λ b vs ws r m. tt) (ident y) delay (y ∷ z ∷ ks) (z ∷ ks) us (one_name y (z ∷ ks)) (as_after sign.After (Sized n) (Stops expression) z ks us delay (one_expr delay ks us d s.0)))) (λ b ws r m. unroll_start n b ts ws e r) (λ ws m. m.0)
    one_stmt {ts} {us} (stop {x} {y} e f) s = as_renamed (StopForm n) (IsStmt (Sized n)) Free StmtStops (λ v. stmt.Stop v) (ident y) ts us (as_after sign.Stop IsName Free x (y ∷ us) us (ident y) (one_name y us)) (λ b ws r m. unroll_stop n b ts ws e r) (λ ws m. tt)
    one_stmt {ts} {us} (select {branches} {x} {y} {ts = ks} e i f) s = as_renamed (SelectForm n) (IsStmt (Sized n)) Free StmtStops (λ v. stmt.If v) branches ts us (as_after sign.If (ToFi n) Free x ks us branches (as_closed (AreBranches (Sized n)) BranchesStop sign.Fi fi_stops branches y ks us (one_branches i (fi_stops y us f)))) (λ b ws r m. unroll_select n b ts ws e r) (λ ws m. tt)
    one_stmt {ts} {us} (repeat {branches} {x} {y} {z} {w} {ts = ks} e f g i h) s = as_renamed (LoopForm n) (IsStmt (Sized n)) Free StmtStops loop_of (numeral_of y, branches) ts us (as_after sign.Do (Both Number ToTimes n) Free x (y ∷ z ∷ ks) us (numeral_of y, branches) (as_both Number ToTimes Free Free n (λ b vs ws r m. tt) (numeral_of y) branches (y ∷ z ∷ ks) (z ∷ ks) us (one_numeral y (z ∷ ks)) (as_after sign.Times (ToOd n) Free z ks us branches (as_closed (AreBranches (Sized n)) BranchesStop sign.Od od_stops branches w ks us (one_branches i (od_stops w us h)))))) (λ b ws r m. unroll_loop n b ts ws e r) (λ ws m. tt)

    one_stmts : {l : List AstStmt} {ts us : List Lexeme} → AreStmts (Sized n) l ts us → BodyStops us → Only (AreStmts (Sized n)) BodyStops ts l us
    one_stmts (last {s = a} {ts} {us} i) h = λ b ws r k. last_as (IsStmt (Sized n)) StmtStops sign.Semicolon semicolon_ends a ts us (one_stmt i h.0) h b ws (stmts_list r) k
    one_stmts (more {s = a} {ss} {x} {ts} {us} {ws} i e r) h = λ b vs q k. more_as (IsStmt (Sized n)) StmtStops sign.Semicolon semicolon_ends a ss x ts us ws e (one_stmt i (semicolon_ends x us e)) (λ c ms p m. one_stmts r h c ms (list_stmts p) m) b vs (stmts_list q) k

    one_branch : {c : AstBranch} {ts us : List Lexeme} → IsBranch (Sized n) c ts us → BodyStops us → Only (IsBranch (Sized n)) BodyStops ts c us
    one_branch {ts} {us} (guarded {e = g} {body} {x} {us = ks} r e b) s = as_renamed (Both Sized ToBody n) (IsBranch (Sized n)) BodyStops BodyStops branch_of (g, body) ts us (as_both Sized ToBody (Stops expression) BodyStops n (λ c vs ws q k. arrow_follows n c vs ws q k) g body ts (x ∷ ks) us (one_expr g ts (x ∷ ks) r (arrow_stops x ks e)) (as_after sign.Arrow (AreStmts (Sized n)) BodyStops x ks us body (one_stmts b s))) (λ c ws q k. unroll_branch n c ts ws q) (λ ws k. k)

    one_branches : {l : List AstBranch} {ts us : List Lexeme} → AreBranches (Sized n) l ts us → BranchesStop us → Only (AreBranches (Sized n)) BranchesStop ts l us
    one_branches (final {b = a} {ts} {us} i) h = λ b ws r k. last_as (IsBranch (Sized n)) BodyStops sign.Box box_ends a ts us (one_branch i h.0) h b ws (branches_list r) k
    one_branches (further {b = a} {bs} {x} {ts} {us} {ws} i e r) h = λ b vs q k. more_as (IsBranch (Sized n)) BodyStops sign.Box box_ends a bs x ts us ws e (one_branch i (box_ends x us e)) (λ c ms p m. one_branches r h c ms (list_branches p) m) b vs (branches_list q) k

  -- ---- guards and actions

  no_word : (ts : List Lexeme) → Opens ts → NoWord ts
  no_word [] o = absurd o
  no_word (x ∷ us) o = (λ e. unopened sign.Rcv (x ∷ us) refl o e, λ e. unopened sign.Timeout (x ∷ us) refl o e)

  one_guard : {g : AstGuard} {ts us : List Lexeme} → IsGuard (Sized n) g ts us → Stops expression us → Only (IsGuard (Sized n)) (Stops expression) ts g us
  one_guard {ts} {us} (local {e} r) s = as_renamed (Sized n) (IsGuard (Sized n)) (Stops expression) (Stops expression) (λ v. guard.Local v) e ts us (one_expr e ts us r s) (λ b ws q k. unroll_local n b ts ws (no_word ts (sized_opens n e ts us r)) q) (λ ws k. k)
  one_guard {ts} {us} (receive {x} {y} {z} {w} e f g h) s = as_renamed (ReceiveForm n) (IsGuard (Sized n)) Free (Stops expression) receive_of (ident y, ident w) ts us (as_after sign.Rcv (Both Name ToSender n) Free x (y ∷ z ∷ w ∷ us) us (ident y, ident w) (as_both Name ToSender Free Free n (λ b vs ws r k. tt) (ident y) (ident w) (y ∷ z ∷ w ∷ us) (z ∷ w ∷ us) us (one_name y (z ∷ w ∷ us)) (as_after sign.From IsName Free z (w ∷ us) us (ident w) (one_name w us)))) (λ b ws r k. unroll_receive n b ts ws e r) (λ ws k. tt)
  one_guard {ts} {us} (timeout {x} {y} e f) s = as_renamed (TimeoutForm n) (IsGuard (Sized n)) Free (Stops expression) (λ v. guard.Timeout v) (ident y) ts us (as_after sign.Timeout IsName Free x (y ∷ us) us (ident y) (one_name y us)) (λ b ws r k. unroll_timeout n b ts ws e r) (λ ws k. tt)

  one_action : (c : AstAction) (ts us : List Lexeme) → IsAction (Sized n) c ts us → BodyStops us → Only (IsAction (Sized n)) BodyStops ts c us
  one_action c ts us (action_guarded {g} {body} {x} {y} {ts = ks} {us = ms} r e b) s = as_renamed (Both Guards ToBody n) (IsAction (Sized n)) BodyStops BodyStops (action_of x.place) (g, body) ts us (as_both Guards ToBody (Stops expression) BodyStops n (λ d vs ws q k. arrow_follows n d vs ws q k) g body ts (y ∷ ms) us (one_guard r (arrow_stops y ms e)) (as_after sign.Arrow (AreStmts (Sized n)) BodyStops y ms us body (one_stmts b s))) (λ d ws q k. unroll_action n x d ts ws (ks, refl) q) (λ ws k. k)

  action_ends : (x : Lexeme) (us : List Lexeme) → x.sign ≡ sign.End → BodyStops (x ∷ us) × Lacks sign.Box (x ∷ us)
  action_ends x us e = (end_stops x us e, λ f. absurd cc)

  -- ---- processes

  name_alone : (c : Ident) (ts us : List Lexeme) → IsName c ts us → Free us → Only IsName Free ts c us
  name_alone c ts us i s = λ b ws r k. go i b ws r
    where
      go : {a : Ident} {ks vs : List Lexeme} → IsName a ks vs → (b : Ident) (ws : List Lexeme) → IsName b ks ws → (b ≡ a) × (ws ≡ vs)
      go (name {x} {ts = ms} e) b ws r = one_name x ms b ws r tt

  one_parts : {d : Declared} {ts us : List Lexeme} → AreDeclared (Sized n) d ts us → Only (AreDeclared (Sized n)) Free ts d us
  one_parts {d} {ts} {us} (parts {z} {consts} {inputs} {vars} {timers} {actions} {t1} {t2} {t3} {us = ks} c i v t h a) =
      let from_begin : FromBegin n actions (z ∷ ks) us = after h a in
      let from_timers : FromTimers n (timers, actions) t3 us = (z ∷ ks, t, from_begin) in
      let from_vars : FromVars n (vars, (timers, actions)) t2 us = (t3, v, from_timers) in
      let from_inputs : FromInputs n (inputs, (vars, (timers, actions))) t1 us = (t2, i, from_vars) in
      let one_begin = as_after sign.Begin (ActionList n) Free z ks us actions (one_until (IsAction (Sized n)) BodyStops sign.Box box_ends one_action sign.End (λ b x ms ws e r. no_action_at_end n b x ms ws e r) action_ends a) in
      let one_timers = as_both TimerBlock FromBegin TimerStops Free n (λ b vs ws r k. timers_lead n b vs ws r k) timers actions t3 (z ∷ ks) us (one_block IsName Free sign.Comma (λ x ms e. tt) name_alone sign.Timer t (timers_lead n actions (z ∷ ks) us from_begin tt)) one_begin in
      let one_vars = as_both VarBlock FromTimers VarStops Free n (λ b vs ws r k. vars_lead n b vs ws r k) vars (timers, actions) t2 t3 us (one_block IsVar (Lacks sign.Equal) sign.Semicolon field_parted one_var sign.Var v (vars_lead n (timers, actions) t3 us from_timers tt)) one_timers in
      let one_inputs = as_both InputBlock FromVars InputStops Free n (λ b vs ws r k. inputs_lead n b vs ws r k) inputs (vars, (timers, actions)) t1 t2 us (one_block IsInput Free sign.Semicolon (λ x ms e. tt) one_input sign.Inp i (inputs_lead n (vars, (timers, actions)) t2 us from_vars tt)) one_vars in
      as_renamed (FromConsts n) (AreDeclared (Sized n)) Free Free (λ w. w) (consts, (inputs, (vars, (timers, actions)))) ts us (as_both ConstBlock FromInputs ConstStops Free n (λ b vs ws r k. consts_lead n b vs ws r k) consts (inputs, (vars, (timers, actions))) ts t1 us (one_block IsConst Free sign.Semicolon (λ x ms e. tt) one_const sign.Const c (consts_lead n (inputs, (vars, (timers, actions))) t1 us from_inputs tt)) one_inputs) (λ b ws r k. unroll_parts n b ts ws r) (λ ws k. k)

  one_process : (c : AstProcess) (ts us : List Lexeme) → IsProcess (Sized n) c ts us → Only (IsProcess (Sized n)) Free ts c us
  one_process c ts us (process_declared {x} {y} {consts} {inputs} {vars} {timers} {actions} {ts = ks} e f p i v t h a k) = as_renamed (NamedParts n) (IsProcess (Sized n)) Free Free process_of (ident y, (consts, (inputs, (vars, (timers, actions))))) ts us (as_after sign.Process (Both Name Parts n) Free x (y ∷ ks) us (ident y, (consts, (inputs, (vars, (timers, actions))))) (as_both Name Parts Free Free n (λ b vs ws r m. tt) (ident y) (consts, (inputs, (vars, (timers, actions)))) (y ∷ ks) ks us (one_name y ks) (one_parts (parts p i v t h (closed a k))))) (λ b ws r m. unroll_process n b ts ws r) (λ ws m. m)

-- ---- whole texts

one_rows : {l : List AstMessage} {ts us : List Lexeme} → Rows IsMessage l ts us → Lacks sign.Message us → Only (Rows IsMessage) (Lacks sign.Message) ts l us
one_rows {ts} none h = λ b ws r k. go ts h b ws r
  where
    go : (ks : List Lexeme) → Lacks sign.Message ks → (b : List AstMessage) (ws : List Lexeme) → Rows IsMessage b ks ws → (b ≡ []) × (ws ≡ ks)
    go ks l b ws none = (refl, refl)
    go ks l b ws (more_rows {a} {us = vs} i r) = absurd (begun sign.Message ks (message_begins a ks vs i) l)
one_rows (more_rows {a} {as_ = m} {ts} {us} {ws} i r) h = λ b vs q k. go ts i (one_rows r h) b vs q k
  where
    go : (hs : List Lexeme) → IsMessage a hs us → Only (Rows IsMessage) (Lacks sign.Message) us m ws → (b : List AstMessage) (vs : List Lexeme) → Rows IsMessage b hs vs → Lacks sign.Message vs → (b ≡ a ∷ m) × (vs ≡ ws)
    go hs f one b vs none k = absurd (begun sign.Message hs (message_begins a hs us f) k)
    go hs f one b vs (more_rows {a = c} {as_ = n} {us = ks} j p) k =
        let q = one_message a hs us f c ks j tt in
        let G : List Lexeme → Type 0 = λ v. Rows IsMessage n v vs in
        let t = one n vs (subst G q.1 p) k in
        (ap (λ v. v ∷ n) q.0 ∙ ap (λ v. a ∷ v) t.0, t.1)

no_message : (l : List AstProcess) (ts us : List Lexeme) → Row (IsProcess (Sized None)) l ts us → Lacks sign.Message ts
no_message l ts us r = go ts (begins r)
  where
    begins : {k : List AstProcess} {vs ws : List Lexeme} → Row (IsProcess (Sized None)) k vs ws → Begins sign.Process vs
    begins (last_row {a} {ts = vs} {us = ws} i) = process_begins None a vs ws i
    begins (more_row {a} {ts = vs} {us = ws} i r) = process_begins None a vs ws i

    go : (vs : List Lexeme) → Begins sign.Process vs → Lacks sign.Message vs
    go [] b = tt
    go (x ∷ ws) b = λ e. absurd cc

one_over : (ts : List Lexeme) (c d : Ast) → SpellsOver (Sized None) ts c → SpellsOver (Sized None) ts d → c ≡ d
one_over ts c d (system {messages = m} {processes = p} {us} a b) (system {messages = n} {processes = q} {us = vs} e f) =
    let h = one_rows a (no_message p us [] b) n vs e (no_message q vs [] f) in
    let G : List Lexeme → Type 0 = λ k. Row (IsProcess (Sized None)) q k [] in
    let g = one_row (IsProcess (Sized None)) sign.Process (process_begins None) (one_process None) b tt q [] (subst G h.1 f) tt in
    ap (λ k. record { messages = k; processes = p }) (sym h.0) ∙ ap (λ k. record { messages = n; processes = k }) (sym g.0)

pub one_text : OneText
one_text ts c d r s = one_over ts c d (asked_none ts c r) (asked_none ts d s)
