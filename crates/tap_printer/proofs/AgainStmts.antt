-- What is printed of statements and actions is read as they are, places aside.
use Rattle.std.proofs.Common.{◌≡◌, refl, sym, ◌∙◌, ap, subst, ℕ, ℤ, List, [], ◌∷◌, ◌++◌, map, Option, Some, None}
use Rattle.tap_base.specs.declared.ast.AstAction.{AstAction}
use Rattle.tap_base.specs.declared.ast.AstBranch.{AstBranch}
use Rattle.tap_base.specs.declared.ast.AstExpr.{AstExpr}
use Rattle.tap_base.specs.declared.ast.AstGuard.{AstGuard}
use Rattle.tap_base.specs.declared.ast.AstGuard.TheVariants as guard
use Rattle.tap_base.specs.declared.ast.AstStmt.{AstStmt}
use Rattle.tap_base.specs.declared.ast.AstStmt.TheVariants as stmt
use Rattle.tap_base.specs.declared.ast.AstTarget.{AstTarget}
use Rattle.tap_base.specs.declared.ast.Ident.{Ident}
use Rattle.tap_base.specs.declared.place.Place.{Place}
use Rattle.tap_base.specs.declared.token.Sign.TheVariants as sign
use Rattle.tap_lexer.specs.Bytes.{start}
use Rattle.tap_lexer.specs.Lexeme.{Lexeme}
use Rattle.tap_lexer.specs.Leaves.{ident}
use Rattle.tap_lexer.specs.Rows.{Separated, SomeSeparated}
use Rattle.tap_parser.specs.Statements.{IsTarget, IsStmt, AreStmts, IsBranch, AreBranches, IsGuard, IsAction}
use Rattle.tap_parser.specs.Statements as form
use Rattle.tap_printer.specs.Canonical.{separated, target_tokens, stmt_tokens, branch_tokens, guard_tokens, action_tokens}
use Rattle.tap_printer.specs.CanonicalExprs.{expr_tokens}
use Rattle.tap_printer.specs.CanonicalLaws.{Begins, none, next}
use Rattle.tap_printer.specs.PlacesAside.{expr_aside, target_aside, stmt_aside, branch_aside, guard_aside, action_aside}
use Rattle.tap_printer.specs.Printed.{Printed, mark}
use Rattle.tap_printer.specs.Printed as printed
use Rattle.tap_printer.proofs.AgainForms.{named}
use Rattle.tap_printer.proofs.AgainLists.{without_end, both, separated_again, some_again}
use Rattle.tap_printer.proofs.Asides.{aside_assign, aside_choose, aside_send, aside_start, aside_stop, aside_select, aside_loop, aside_branch}
use Rattle.tap_printer.proofs.Bodies.{of_skip, of_assign, of_choose, of_send, of_start, of_stop, of_select, of_loop, of_branch}
use Rattle.tap_printer.proofs.Printing.{around, closing, Read, ReadsAgain}
use Rattle.tap_printer.proofs.Separators.{stmts_further, branches_further}

-- read as something that is printed so
pub printed_as : {A : Type 0} (aside : A → A) (Item : A → List Lexeme → List Lexeme → Type 0) (a : A) (p q : List Printed) → p ≡ q → ReadsAgain aside q Item a → ReadsAgain aside p Item a
printed_as aside Item a p q e h = subst (λ v. ReadsAgain aside v Item a) (sym e) h

abbrev pub target_of : List ℕ → Option AstExpr → AstTarget
target_of t e = record { name = named t; index = e }

abbrev pub branch_of : AstExpr → List AstStmt → AstBranch
branch_of e body = record { guard = e; body = body }

abbrev pub action_of : AstGuard → List AstStmt → AstAction
action_of g body = record { guard = g; body = body; place = start }

module _ (E : AstExpr → List Lexeme → List Lexeme → Type 0) (h : (e : AstExpr) (ts us : List Lexeme) → E e ts us → ReadsAgain expr_aside (expr_tokens e) E e) (some : (e : AstExpr) (us : List Lexeme) → E e [] us → ⊥) where
  target_again : (t : AstTarget) (ts us : List Lexeme) → IsTarget E t ts us → ReadsAgain target_aside (target_tokens t) (IsTarget E) t
  target_again t ts us (form.IsTarget.whole i) all end (next {x} j none) = record { again = record { name = ident x; index = None }; item = form.IsTarget.whole j.0; same = ap (λ v. target_of v None) j.1 }
  target_again t ts us (form.IsTarget.element {e} {z} {ts = ks} i o r c) all end (next {x} j (next {ts = rest} k g)) =
      let d = closing (expr_tokens e) (mark sign.CloseIndex) g in
      let q = h e ks (z ∷ us) r rest (d.x ∷ end) d.front in
      record { again = record { name = ident x; index = Some q.again }; item = form.IsTarget.element j.0 k q.item d.is; same = both (λ v w. target_of v (Some w)) j.1 q.same }

  -- ---- statements without branches

  skip_again : ReadsAgain stmt_aside (mark sign.Skip ∷ []) (IsStmt E) stmt.Skip
  skip_again all end (next i none) = record { again = stmt.Skip; item = form.IsStmt.skip i; same = refl }

  assign_again : (targets : List AstTarget) (values : List AstExpr) → ReadsAgain (map target_aside) (separated sign.Comma (map target_tokens targets)) (Separated (IsTarget E) sign.Comma) targets
      → ReadsAgain (map expr_aside) (separated sign.Comma (map expr_tokens values)) (Separated E sign.Comma) values
      → ReadsAgain stmt_aside (separated sign.Comma (map target_tokens targets) ++ mark sign.Becomes ∷ separated sign.Comma (map expr_tokens values)) (IsStmt E) (stmt.Assign targets values)
  assign_again targets values p q all end g =
      let c = around (separated sign.Comma (map target_tokens targets)) (mark sign.Becomes) (separated sign.Comma (map expr_tokens values)) g in
      let l = p all (c.x ∷ c.middle) c.front in
      let r = q c.middle end c.rest in
      record { again = stmt.Assign l.again r.again; item = form.IsStmt.assign l.item c.is r.item; same = aside_assign l.again r.again ∙ both stmt.Assign l.same r.same ∙ sym (aside_assign targets values) }

  choose_again : (target : AstTarget) → ReadsAgain target_aside (target_tokens target) (IsTarget E) target → ReadsAgain stmt_aside (mark sign.Choose ∷ target_tokens target) (IsStmt E) (stmt.Choose target)
  choose_again target p all end (next {ts = rest} i g) =
      let r = p rest end g in
      record { again = stmt.Choose r.again; item = form.IsStmt.choose i r.item; same = aside_choose r.again ∙ ap stmt.Choose r.same ∙ sym (aside_choose target) }

  send_end : (values : List AstExpr) (all end : List Lexeme) → ReadsAgain (map expr_aside) (separated sign.Comma (map expr_tokens values)) (SomeSeparated E sign.Comma) values
      → (message to : Ident) (x y z : Lexeme) → x.sign ≡ sign.Send → (y.sign ≡ sign.Name) × (y.text ≡ message.text) → z.sign ≡ sign.Open
      → (w : Lexeme) (ms : List Lexeme) → Begins (separated sign.Comma (map expr_tokens values)) all (w ∷ ms) → w.sign ≡ sign.Close → Begins (mark sign.To ∷ printed.name to.text ∷ []) ms end
      → Read stmt_aside (IsStmt E) (stmt.Send message values to) (x ∷ y ∷ z ∷ all) end
  send_end values all end p message to x y z i j k w ms front is (next {x = v} l (next {x = u} m none)) =
      let r = p all (w ∷ v ∷ u ∷ end) front in
      record {
        again = stmt.Send (ident y) r.again (ident u);
        item = form.IsStmt.send i j.0 k r.item is l m.0;
        same = aside_send (ident y) r.again (ident u) ∙ both (λ a b. stmt.Send (named a) b (named u.text)) j.1 r.same ∙ ap (λ t. stmt.Send (named message.text) (map expr_aside values) (named t)) m.1 ∙ sym (aside_send message values to);
      }

  send_again : (message : Ident) (values : List AstExpr) (to : Ident) → ReadsAgain (map expr_aside) (separated sign.Comma (map expr_tokens values)) (SomeSeparated E sign.Comma) values
      → ReadsAgain stmt_aside (mark sign.Send ∷ printed.name message.text ∷ mark sign.Open ∷ separated sign.Comma (map expr_tokens values) ++ mark sign.Close ∷ mark sign.To ∷ printed.name to.text ∷ []) (IsStmt E) (stmt.Send message values to)
  send_again message values to p all end (next {x} i (next {x = y} j (next {x = z} {ts = rest} k g))) =
      let c = around (separated sign.Comma (map expr_tokens values)) (mark sign.Close) (mark sign.To ∷ printed.name to.text ∷ []) g in
      send_end values rest end p message to x y z i j k c.x c.middle c.front c.is c.rest

  start_again : (timer : Ident) (delay : AstExpr) → ReadsAgain expr_aside (expr_tokens delay) E delay → ReadsAgain stmt_aside (mark sign.Start ∷ printed.name timer.text ∷ mark sign.After ∷ expr_tokens delay) (IsStmt E) (stmt.Start timer delay)
  start_again timer delay p all end (next i (next {x = y} j (next {ts = rest} k g))) =
      let r = p rest end g in
      record { again = stmt.Start (ident y) r.again; item = form.IsStmt.start i j.0 k r.item; same = aside_start (ident y) r.again ∙ both (λ t e. stmt.Start (named t) e) j.1 r.same ∙ sym (aside_start timer delay) }

  stop_again : (timer : Ident) → ReadsAgain stmt_aside (mark sign.Stop ∷ printed.name timer.text ∷ []) (IsStmt E) (stmt.Stop timer)
  stop_again timer all end (next i (next {x = y} j none)) = record { again = stmt.Stop (ident y); item = form.IsStmt.stop i j.0; same = aside_stop (ident y) ∙ ap (λ t. stmt.Stop (named t)) j.1 ∙ sym (aside_stop timer) }

  -- ---- statements with branches

  select_again : (branches : List AstBranch) → ReadsAgain (map branch_aside) (separated sign.Box (map branch_tokens branches)) (AreBranches E) branches
      → ReadsAgain stmt_aside (mark sign.If ∷ separated sign.Box (map branch_tokens branches) ++ mark sign.Fi ∷ []) (IsStmt E) (stmt.If branches)
  select_again branches p all end (next {ts = rest} i g) =
      let d = closing (separated sign.Box (map branch_tokens branches)) (mark sign.Fi) g in
      let r = p rest (d.x ∷ end) d.front in
      record { again = stmt.If r.again; item = form.IsStmt.select i r.item d.is; same = aside_select r.again ∙ ap stmt.If r.same ∙ sym (aside_select branches) }

  loop_again : (count : ℤ) (place : Place) (branches : List AstBranch) → ReadsAgain (map branch_aside) (separated sign.Box (map branch_tokens branches)) (AreBranches E) branches
      → ReadsAgain stmt_aside (mark sign.Do ∷ printed.number count ∷ mark sign.Times ∷ separated sign.Box (map branch_tokens branches) ++ mark sign.Od ∷ []) (IsStmt E) (stmt.Loop count place branches)
  loop_again count place branches p all end (next i (next {x = y} j (next {ts = rest} k g))) =
      let d = closing (separated sign.Box (map branch_tokens branches)) (mark sign.Od) g in
      let r = p rest (d.x ∷ end) d.front in
      record {
        again = stmt.Loop y.value y.place r.again;
        item = form.IsStmt.repeat i j.0 k r.item d.is;
        same = aside_loop y.value y.place r.again ∙ both (λ n bs. stmt.Loop n start bs) j.1 r.same ∙ sym (aside_loop count place branches);
      }

  branch_again : (b : AstBranch) → ReadsAgain expr_aside (expr_tokens b.guard) E b.guard → ReadsAgain (map stmt_aside) (separated sign.Semicolon (map stmt_tokens b.body)) (AreStmts E) b.body
      → ReadsAgain branch_aside (expr_tokens b.guard ++ mark sign.Arrow ∷ separated sign.Semicolon (map stmt_tokens b.body)) (IsBranch E) b
  branch_again b p q all end g =
      let c = around (expr_tokens b.guard) (mark sign.Arrow) (separated sign.Semicolon (map stmt_tokens b.body)) g in
      let l = p all (c.x ∷ c.middle) c.front in
      let r = q c.middle end c.rest in
      record { again = branch_of l.again r.again; item = form.IsBranch.guarded l.item c.is r.item; same = aside_branch (branch_of l.again r.again) ∙ both branch_of l.same r.same ∙ sym (aside_branch b) }

  -- ---- all statements

  mutual
    stmt_again : {s : AstStmt} {ts us : List Lexeme} → IsStmt E s ts us → ReadsAgain stmt_aside (stmt_tokens s) (IsStmt E) s
    stmt_again (form.IsStmt.skip i) = printed_as stmt_aside (IsStmt E) stmt.Skip _ _ of_skip skip_again
    stmt_again (form.IsStmt.assign {targets} {values} t e v) =
        printed_as stmt_aside (IsStmt E) (stmt.Assign targets values) _ _ (of_assign targets values) (assign_again targets values (separated_again target_aside target_tokens (IsTarget E) target_again t) (separated_again expr_aside expr_tokens E h v))
    stmt_again (form.IsStmt.choose {target} {ts} {us} i t) = printed_as stmt_aside (IsStmt E) (stmt.Choose target) _ _ (of_choose target) (choose_again target (target_again target ts us t))
    stmt_again (form.IsStmt.send {values} {y} {u} i j k v l m n) = printed_as stmt_aside (IsStmt E) (stmt.Send (ident y) values (ident u)) _ _ (of_send (ident y) values (ident u)) (send_again (ident y) values (ident u) (some_again expr_aside expr_tokens E h v))
    stmt_again (form.IsStmt.start {delay} {y} {ts} {us} i j k d) = printed_as stmt_aside (IsStmt E) (stmt.Start (ident y) delay) _ _ (of_start (ident y) delay) (start_again (ident y) delay (h delay ts us d))
    stmt_again (form.IsStmt.stop {y} i j) = printed_as stmt_aside (IsStmt E) (stmt.Stop (ident y)) _ _ (of_stop (ident y)) (stop_again (ident y))
    stmt_again (form.IsStmt.select {branches} i b k) = printed_as stmt_aside (IsStmt E) (stmt.If branches) _ _ (of_select branches) (select_again branches (branches_again b))
    stmt_again (form.IsStmt.repeat {branches} {y} i j k b l) = printed_as stmt_aside (IsStmt E) (stmt.Loop y.value y.place branches) _ _ (of_loop y.value y.place branches) (loop_again y.value y.place branches (branches_again b))

    pub stmts_again : {ss : List AstStmt} {ts us : List Lexeme} → AreStmts E ss ts us → ReadsAgain (map stmt_aside) (separated sign.Semicolon (map stmt_tokens ss)) (AreStmts E) ss
    stmts_again (form.AreStmts.last {s} i) all end g =
        let r = stmt_again i all end (without_end (stmt_tokens s) g) in
        record { again = r.again ∷ []; item = form.AreStmts.last r.item; same = ap (λ v. v ∷ []) r.same }
    stmts_again (form.AreStmts.more {s} {ss} i e r) all end g =
        let c = around (stmt_tokens s) (mark sign.Semicolon) (separated sign.Semicolon (map stmt_tokens ss)) (subst (λ p. Begins (stmt_tokens s ++ p) all end) (stmts_further E r) g) in
        let q = stmt_again i all (c.x ∷ c.middle) c.front in
        let n = stmts_again r c.middle end c.rest in
        record { again = q.again ∷ n.again; item = form.AreStmts.more q.item c.is n.item; same = both (λ v w. v ∷ w) q.same n.same }

    branch_reads : {b : AstBranch} {ts us : List Lexeme} → IsBranch E b ts us → ReadsAgain branch_aside (branch_tokens b) (IsBranch E) b
    branch_reads (form.IsBranch.guarded {e} {body} {x} {ts} {us} r i b) = printed_as branch_aside (IsBranch E) (branch_of e body) _ _ (of_branch (branch_of e body)) (branch_again (branch_of e body) (h e ts (x ∷ us) r) (stmts_again b))

    branches_again : {bs : List AstBranch} {ts us : List Lexeme} → AreBranches E bs ts us → ReadsAgain (map branch_aside) (separated sign.Box (map branch_tokens bs)) (AreBranches E) bs
    branches_again (form.AreBranches.final {b} i) all end g =
        let r = branch_reads i all end (without_end (branch_tokens b) g) in
        record { again = r.again ∷ []; item = form.AreBranches.final r.item; same = ap (λ v. v ∷ []) r.same }
    branches_again (form.AreBranches.further {b} {bs} i e r) all end g =
        let c = around (branch_tokens b) (mark sign.Box) (separated sign.Box (map branch_tokens bs)) (subst (λ p. Begins (branch_tokens b ++ p) all end) (branches_further E r) g) in
        let q = branch_reads i all (c.x ∷ c.middle) c.front in
        let n = branches_again r c.middle end c.rest in
        record { again = q.again ∷ n.again; item = form.AreBranches.further q.item c.is n.item; same = both (λ v w. v ∷ w) q.same n.same }

  -- ---- guards and actions

  guard_again : (g : AstGuard) (ts us : List Lexeme) → IsGuard E g ts us → ReadsAgain guard_aside (guard_tokens g) (IsGuard E) g
  guard_again g ts us (form.IsGuard.local {e} r) all end k =
      let q = h e ts us r all end k in
      record { again = guard.Local q.again; item = form.IsGuard.local q.item; same = ap guard.Local q.same }
  guard_again g ts us (form.IsGuard.receive a b c d) all end (next i (next {x = y} j (next k (next {x = w} l none)))) =
      record { again = guard.Receive (ident y) (ident w); item = form.IsGuard.receive i j.0 k l.0; same = both (λ m n. guard.Receive (named m) (named n)) j.1 l.1 }
  guard_again g ts us (form.IsGuard.timeout a b) all end (next i (next {x = y} j none)) =
      record { again = guard.Timeout (ident y); item = form.IsGuard.timeout i j.0; same = ap (λ m. guard.Timeout (named m)) j.1 }

  no_guard : {g : AstGuard} {us : List Lexeme} → IsGuard E g [] us → ⊥
  no_guard (form.IsGuard.local {e} {us} r) = some e us r

  action_begins : (a : AstAction) (all end : List Lexeme) (x : Lexeme) (us : List Lexeme) → x.sign ≡ sign.Arrow → Read guard_aside (IsGuard E) a.guard all (x ∷ us) → Read (map stmt_aside) (AreStmts E) a.body us end → Read action_aside (IsAction E) a all end
  action_begins a [] end x us is l r = absurd (no_guard l.item)
  action_begins a (y ∷ all) end x us is l r = record { again = record { guard = l.again; body = r.again; place = y.place }; item = form.IsAction.guarded l.item is r.item; same = both action_of l.same r.same }

  pub action_again : (a : AstAction) (ts us : List Lexeme) → IsAction E a ts us → ReadsAgain action_aside (action_tokens a) (IsAction E) a
  action_again a ts us (form.IsAction.guarded {g} {body} {x} {y} {ts = ks} {us = ms} l i r) all end k =
      let c = around (guard_tokens g) (mark sign.Arrow) (separated sign.Semicolon (map stmt_tokens body)) k in
      action_begins a all end c.x c.middle c.is (guard_again g (x ∷ ks) (y ∷ ms) l all (c.x ∷ c.middle) c.front) (stmts_again r c.middle end c.rest)
