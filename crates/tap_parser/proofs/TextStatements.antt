-- Statements, branches, guards and actions.
use Rattle.std.proofs.Common.{◌≡◌, ℕ, ◌+◌, refl, sym, ◌∙◌, ap, subst, List, [], ◌∷◌, Option, Bool, false, true, Result, Ok, Err, drop}
use Rattle.tap_base.specs.declared.ast.AstBranch.{AstBranch}
use Rattle.tap_base.specs.declared.ast.AstExpr.{AstExpr}
use Rattle.tap_base.specs.declared.ast.AstStmt.{AstStmt}
use Rattle.tap_base.specs.declared.ast.AstStmt.TheVariants as stmt
use Rattle.tap_base.specs.declared.ast.AstTarget.{AstTarget}
use Rattle.tap_base.specs.declared.ast.Ident.{Ident}
use Rattle.tap_base.specs.declared.token.Sign.{Sign}
use Rattle.tap_base.specs.declared.token.Sign.TheVariants as sign
use Rattle.tap_lexer.specs.Lexeme.{Lexeme}
use Rattle.tap_lexer.specs.Leaves.{ident}
use Rattle.tap_lexer.specs.Rows.{Separated, SomeSeparated}
use Rattle.tap_lexer.specs.declared.found.Found.{Found}
use Rattle.tap_lexer.specs.inner.Reading.{Shows}
use Rattle.tap_lexer.specs.inner.Reading.{Lacks, Free, Closed, closed, Stands}
use Rattle.tap_expr.specs.Grammar.{expression}
use Rattle.tap_expr.specs.declared.found.Stuck.{Stuck}
use Rattle.tap_expr.specs.declared.found.Stuck.TheVariants as stuck
use Rattle.tap_expr.specs.inner.ExprReading.{Stops}
use Rattle.tap_expr.proofs.ExprAlike.{stands_as, empty_at}
use Rattle.tap_parser.specs.Declarations.{IsName, name}
use Rattle.tap_parser.specs.Statements.{IsTarget, IsStmt, skip, assign, choose, send, start, stop, select, repeat, AreBranches}
use Rattle.tap_parser.specs.Systems.{Sized}
use Rattle.tap_parser.specs.declared.kept.Kept.{Kept}
use Rattle.tap_parser.specs.declared.kept.Kept.TheVariants.{Whole, Large}
use Rattle.tap_parser.specs.declared.leaves.Numeral.{Numeral}
use Rattle.tap_parser.specs.inner.Keeping.{both, mapped}
use Rattle.tap_parser.specs.inner.Forms.{Begins, numeral, StmtStops}
use Rattle.tap_parser.specs.inner.Reading.{Answers}
use Rattle.tap_parser.proofs.TextParts.{Form, Follow, Both, renamed, After, after, Here, begins_here, renamed_answers, fails, token_answers}
use Rattle.tap_parser.proofs.TextBounds.{Name, Number}
use Rattle.tap_parser.proofs.TextExprs.{no_index, targets_begin}

abbrev pub Stmts : Form AstStmt
Stmts n = IsStmt (Sized n)

-- a token with which a statement begins
abbrev pub opens_stmt : Sign → Bool
opens_stmt sign.Skip = true
opens_stmt sign.Name = true
opens_stmt sign.Choose = true
opens_stmt sign.Send = true
opens_stmt sign.Start = true
opens_stmt sign.Stop = true
opens_stmt sign.If = true
opens_stmt sign.Do = true
opens_stmt _ = false

pub opens_none : (s : Sign) → (s ≡ sign.Skip → ⊥) → (s ≡ sign.Name → ⊥) → (s ≡ sign.Choose → ⊥) → (s ≡ sign.Send → ⊥) → (s ≡ sign.Start → ⊥) → (s ≡ sign.Stop → ⊥) → (s ≡ sign.If → ⊥) → (s ≡ sign.Do → ⊥) → opens_stmt s ≡ false
opens_none sign.Skip a b c d e f g h = absurd (a refl)
opens_none sign.Name a b c d e f g h = absurd (b refl)
opens_none sign.Choose a b c d e f g h = absurd (c refl)
opens_none sign.Send a b c d e f g h = absurd (d refl)
opens_none sign.Start a b c d e f g h = absurd (e refl)
opens_none sign.Stop a b c d e f g h = absurd (f refl)
opens_none sign.If a b c d e f g h = absurd (g refl)
opens_none sign.Do a b c d e f g h = absurd (h refl)
opens_none _ a b c d e f g h = refl

abbrev pub StmtOpens : List Lexeme → Type 0
StmtOpens [] = ⊥
StmtOpens (x ∷ us) = opens_stmt x.sign ≡ true

-- ---- one statement, by what it begins with

abbrev pub TargetList : Form (List AstTarget)
TargetList n = Separated (IsTarget (Sized n)) sign.Comma

abbrev pub ValueList : Form (List AstExpr)
ValueList n = Separated (Sized n) sign.Comma

abbrev pub ToValues : Form (List AstExpr)
ToValues n = After sign.Becomes (ValueList n)

abbrev pub TargetsStop : Follow
TargetsStop us = Lacks sign.OpenIndex us × Lacks sign.Comma us

pub becomes_stops : (n : Option ℕ) (l : List AstExpr) (us ws : List Lexeme) → ToValues n l us ws → StmtStops ws → TargetsStop us
becomes_stops n l us ws (after e v) s = (λ f. absurd cc, λ f. absurd cc)

pub unroll_assign : (n : Option ℕ) (b : AstStmt) (ts us : List Lexeme) → Begins sign.Name ts → IsStmt (Sized n) b ts us → (v : List AstTarget × List AstExpr) × Both TargetList ToValues n v ts us × (b ≡ stmt.Assign v.0 v.1)
unroll_assign n b ts us q (skip e) = absurd cc
unroll_assign n b ts us q (assign {targets} {values} {x} {us = ks} t e v) = ((targets, values), (x ∷ ks, t, after e v), refl)
unroll_assign n b ts us q (choose e t) = absurd cc
unroll_assign n b ts us q (send e f g v h i j) = absurd cc
unroll_assign n b ts us q (start e f g d) = absurd cc
unroll_assign n b ts us q (stop e f) = absurd cc
unroll_assign n b ts us q (select e i f) = absurd cc
unroll_assign n b ts us q (repeat e f g i h) = absurd cc

roll_assign : (n : Option ℕ) (v : List AstTarget × List AstExpr) (ts us : List Lexeme) → Both TargetList ToValues n v ts us → IsStmt (Sized n) (stmt.Assign v.0 v.1) ts us
roll_assign n v ts us (ks, t, after e w) = assign t e w

-- two signs are not first at once
clash : (s t : Sign) (ts : List Lexeme) → Begins s ts → Begins t ts → s ≡ t
clash s t [] p q = absurd p
clash s t (x ∷ ts) p q = sym p ∙ q

opens_as : (s : Sign) (ts : List Lexeme) → opens_stmt s ≡ true → Begins s ts → StmtOpens ts
opens_as s [] q e = e
opens_as s (x ∷ us) q e = ap opens_stmt e ∙ q

pub stmt_opens : (n : Option ℕ) (b : AstStmt) (ts us : List Lexeme) → IsStmt (Sized n) b ts us → StmtOpens ts
stmt_opens n b ts us (skip e) = ap opens_stmt e
stmt_opens n b ts us (assign {targets} {x} {us = ks} t e v) = opens_as sign.Name ts refl (targets_begin n targets ts (x ∷ ks) t)
stmt_opens n b ts us (choose e t) = ap opens_stmt e
stmt_opens n b ts us (send e f g v h i j) = ap opens_stmt e
stmt_opens n b ts us (start e f g d) = ap opens_stmt e
stmt_opens n b ts us (stop e f) = ap opens_stmt e
stmt_opens n b ts us (select e i f) = ap opens_stmt e
stmt_opens n b ts us (repeat e f g i h) = ap opens_stmt e

-- what is read of a statement behind its first token
abbrev pub ChooseForm : Form AstTarget
ChooseForm n = After sign.Choose (IsTarget (Sized n))

pub unroll_choose : (n : Option ℕ) (b : AstStmt) (ts us : List Lexeme) → Begins sign.Choose ts → IsStmt (Sized n) b ts us → (v : AstTarget) × ChooseForm n v ts us × (b ≡ stmt.Choose v)
unroll_choose n b ts us q (skip e) = absurd cc
unroll_choose n b ts us q (assign {targets} {x} {us = ks} t e v) = let i = clash sign.Choose sign.Name ts q (targets_begin n targets ts (x ∷ ks) t) in absurd cc
unroll_choose n b ts us q (choose {target} e t) = (target, after e t, refl)
unroll_choose n b ts us q (send e f g v h i j) = absurd cc
unroll_choose n b ts us q (start e f g d) = absurd cc
unroll_choose n b ts us q (stop e f) = absurd cc
unroll_choose n b ts us q (select e i f) = absurd cc
unroll_choose n b ts us q (repeat e f g i h) = absurd cc

roll_choose : (n : Option ℕ) (v : AstTarget) (ts us : List Lexeme) → ChooseForm n v ts us → IsStmt (Sized n) (stmt.Choose v) ts us
roll_choose n v ts us (after e t) = choose e t

abbrev pub SentValues : Form (List AstExpr)
SentValues n = Closed (SomeSeparated (Sized n) sign.Comma) sign.Close

abbrev pub ToName : Form Ident
ToName n = After sign.To IsName

abbrev pub InParens : Form (List AstExpr × Ident)
InParens n = After sign.Open (Both SentValues ToName n)

abbrev pub SendForm : Form (Ident × (List AstExpr × Ident))
SendForm n = After sign.Send (Both Name InParens n)

abbrev pub send_of : Ident × (List AstExpr × Ident) → AstStmt
send_of v = stmt.Send v.0 v.1.0 v.1.1

pub unroll_send : (n : Option ℕ) (b : AstStmt) (ts us : List Lexeme) → Begins sign.Send ts → IsStmt (Sized n) b ts us → (v : Ident × (List AstExpr × Ident)) × SendForm n v ts us × (b ≡ send_of v)
unroll_send n b ts us q (skip e) = absurd cc
unroll_send n b ts us q (assign {targets} {x} {us = ks} t e v) = let i = clash sign.Send sign.Name ts q (targets_begin n targets ts (x ∷ ks) t) in absurd cc
unroll_send n b ts us q (choose e t) = absurd cc
unroll_send n b ts us q (send {values} {y} {z} {w} {v} {u} {ts = ks} {us = ms} e f g s h i j) = ((ident y, (values, ident u)), after e (z ∷ ks, name f, after g (v ∷ u ∷ ms, closed s h, after i (name j))), refl)
unroll_send n b ts us q (start e f g d) = absurd cc
unroll_send n b ts us q (stop e f) = absurd cc
unroll_send n b ts us q (select e i f) = absurd cc
unroll_send n b ts us q (repeat e f g i h) = absurd cc

roll_send : (n : Option ℕ) (v : Ident × (List AstExpr × Ident)) (ts us : List Lexeme) → SendForm n v ts us → IsStmt (Sized n) (send_of v) ts us
roll_send n v ts us (after e (ks, name f, after g (ms, closed s h, after i (name j)))) = send e f g s h i j

abbrev pub ToDelay : Form AstExpr
ToDelay n = After sign.After (Sized n)

abbrev pub StartForm : Form (Ident × AstExpr)
StartForm n = After sign.Start (Both Name ToDelay n)

abbrev pub start_of : Ident × AstExpr → AstStmt
start_of v = stmt.Start v.0 v.1

pub unroll_start : (n : Option ℕ) (b : AstStmt) (ts us : List Lexeme) → Begins sign.Start ts → IsStmt (Sized n) b ts us → (v : Ident × AstExpr) × StartForm n v ts us × (b ≡ start_of v)
unroll_start n b ts us q (skip e) = absurd cc
unroll_start n b ts us q (assign {targets} {x} {us = ks} t e v) = let i = clash sign.Start sign.Name ts q (targets_begin n targets ts (x ∷ ks) t) in absurd cc
unroll_start n b ts us q (choose e t) = absurd cc
unroll_start n b ts us q (send e f g v h i j) = absurd cc
unroll_start n b ts us q (start {delay} {y} {z} {ts = ks} e f g d) = ((ident y, delay), after e (z ∷ ks, name f, after g d), refl)
unroll_start n b ts us q (stop e f) = absurd cc
unroll_start n b ts us q (select e i f) = absurd cc
unroll_start n b ts us q (repeat e f g i h) = absurd cc

roll_start : (n : Option ℕ) (v : Ident × AstExpr) (ts us : List Lexeme) → StartForm n v ts us → IsStmt (Sized n) (start_of v) ts us
roll_start n v ts us (after e (ks, name f, after g d)) = start e f g d

abbrev pub StopForm : Form Ident
StopForm n = After sign.Stop IsName

pub unroll_stop : (n : Option ℕ) (b : AstStmt) (ts us : List Lexeme) → Begins sign.Stop ts → IsStmt (Sized n) b ts us → (v : Ident) × StopForm n v ts us × (b ≡ stmt.Stop v)
unroll_stop n b ts us q (skip e) = absurd cc
unroll_stop n b ts us q (assign {targets} {x} {us = ks} t e v) = let i = clash sign.Stop sign.Name ts q (targets_begin n targets ts (x ∷ ks) t) in absurd cc
unroll_stop n b ts us q (choose e t) = absurd cc
unroll_stop n b ts us q (send e f g v h i j) = absurd cc
unroll_stop n b ts us q (start e f g d) = absurd cc
unroll_stop n b ts us q (stop {y} e f) = (ident y, after e (name f), refl)
unroll_stop n b ts us q (select e i f) = absurd cc
unroll_stop n b ts us q (repeat e f g i h) = absurd cc

roll_stop : (n : Option ℕ) (v : Ident) (ts us : List Lexeme) → StopForm n v ts us → IsStmt (Sized n) (stmt.Stop v) ts us
roll_stop n v ts us (after e (name f)) = stop e f

abbrev pub ToFi : Form (List AstBranch)
ToFi n = Closed (AreBranches (Sized n)) sign.Fi

abbrev pub SelectForm : Form (List AstBranch)
SelectForm n = After sign.If (ToFi n)

pub unroll_select : (n : Option ℕ) (b : AstStmt) (ts us : List Lexeme) → Begins sign.If ts → IsStmt (Sized n) b ts us → (v : List AstBranch) × SelectForm n v ts us × (b ≡ stmt.If v)
unroll_select n b ts us q (skip e) = absurd cc
unroll_select n b ts us q (assign {targets} {x} {us = ks} t e v) = let i = clash sign.If sign.Name ts q (targets_begin n targets ts (x ∷ ks) t) in absurd cc
unroll_select n b ts us q (choose e t) = absurd cc
unroll_select n b ts us q (send e f g v h i j) = absurd cc
unroll_select n b ts us q (start e f g d) = absurd cc
unroll_select n b ts us q (stop e f) = absurd cc
unroll_select n b ts us q (select {branches} e i f) = (branches, after e (closed i f), refl)
unroll_select n b ts us q (repeat e f g i h) = absurd cc

roll_select : (n : Option ℕ) (v : List AstBranch) (ts us : List Lexeme) → SelectForm n v ts us → IsStmt (Sized n) (stmt.If v) ts us
roll_select n v ts us (after e (closed i f)) = select e i f

abbrev pub ToOd : Form (List AstBranch)
ToOd n = Closed (AreBranches (Sized n)) sign.Od

abbrev pub ToTimes : Form (List AstBranch)
ToTimes n = After sign.Times (ToOd n)

abbrev pub LoopForm : Form (Numeral × List AstBranch)
LoopForm n = After sign.Do (Both Number ToTimes n)

abbrev pub loop_of : Numeral × List AstBranch → AstStmt
loop_of v = stmt.Loop v.0.value v.0.place v.1

pub unroll_loop : (n : Option ℕ) (b : AstStmt) (ts us : List Lexeme) → Begins sign.Do ts → IsStmt (Sized n) b ts us → (v : Numeral × List AstBranch) × LoopForm n v ts us × (b ≡ loop_of v)
unroll_loop n b ts us q (skip e) = absurd cc
unroll_loop n b ts us q (assign {targets} {x} {us = ks} t e v) = let i = clash sign.Do sign.Name ts q (targets_begin n targets ts (x ∷ ks) t) in absurd cc
unroll_loop n b ts us q (choose e t) = absurd cc
unroll_loop n b ts us q (send e f g v h i j) = absurd cc
unroll_loop n b ts us q (start e f g d) = absurd cc
unroll_loop n b ts us q (stop e f) = absurd cc
unroll_loop n b ts us q (select e i f) = absurd cc
unroll_loop n b ts us q (repeat {branches} {y} {z} {ts = ks} e f g i h) = ((record { value = y.value; place = y.place }, branches), after e (z ∷ ks, numeral f, after g (closed i h)), refl)

roll_loop : (n : Option ℕ) (v : Numeral × List AstBranch) (ts us : List Lexeme) → LoopForm n v ts us → IsStmt (Sized n) (loop_of v) ts us
roll_loop n v ts us (after e (ks, numeral f, after g (closed i h))) = repeat e f g i h

module _ (xs : List Lexeme) (at : ℕ) where
  pub assign_answers : (r : Result (Found (Kept (List AstTarget × List AstExpr))) Stuck) → Shows sign.Name xs at → Answers (Both TargetList ToValues) StmtStops xs at r → Answers Stmts StmtStops xs at (renamed (λ v. stmt.Assign v.0 v.1) r)
  assign_answers r x h = renamed_answers (Both TargetList ToValues) Stmts StmtStops StmtStops (λ v. stmt.Assign v.0 v.1) (Begins sign.Name) (λ n a ts us q p. roll_assign n a ts us p) (λ n b ts us q p s. unroll_assign n b ts us q p) (λ us s. s) xs at r (begins_here xs at sign.Name x) h

  pub choose_answers : (r : Result (Found (Kept AstTarget)) Stuck) → Shows sign.Choose xs at → Answers ChooseForm (Lacks sign.OpenIndex) xs at r → Answers Stmts StmtStops xs at (renamed (λ v. stmt.Choose v) r)
  choose_answers r x h = renamed_answers ChooseForm Stmts (Lacks sign.OpenIndex) StmtStops (λ v. stmt.Choose v) (Begins sign.Choose) (λ n a ts us q p. roll_choose n a ts us p) (λ n b ts us q p s. unroll_choose n b ts us q p) (λ us s. no_index us s.0) xs at r (begins_here xs at sign.Choose x) h

  pub send_answers : (r : Result (Found (Kept (Ident × (List AstExpr × Ident)))) Stuck) → Shows sign.Send xs at → Answers SendForm Free xs at r → Answers Stmts StmtStops xs at (renamed send_of r)
  send_answers r x h = renamed_answers SendForm Stmts Free StmtStops send_of (Begins sign.Send) (λ n a ts us q p. roll_send n a ts us p) (λ n b ts us q p s. unroll_send n b ts us q p) (λ us s. tt) xs at r (begins_here xs at sign.Send x) h

  pub start_answers : (r : Result (Found (Kept (Ident × AstExpr))) Stuck) → Shows sign.Start xs at → Answers StartForm (Stops expression) xs at r → Answers Stmts StmtStops xs at (renamed start_of r)
  start_answers r x h = renamed_answers StartForm Stmts (Stops expression) StmtStops start_of (Begins sign.Start) (λ n a ts us q p. roll_start n a ts us p) (λ n b ts us q p s. unroll_start n b ts us q p) (λ us s. s.0) xs at r (begins_here xs at sign.Start x) h

  pub stop_answers : (r : Result (Found (Kept Ident)) Stuck) → Shows sign.Stop xs at → Answers StopForm Free xs at r → Answers Stmts StmtStops xs at (renamed (λ v. stmt.Stop v) r)
  stop_answers r x h = renamed_answers StopForm Stmts Free StmtStops (λ v. stmt.Stop v) (Begins sign.Stop) (λ n a ts us q p. roll_stop n a ts us p) (λ n b ts us q p s. unroll_stop n b ts us q p) (λ us s. tt) xs at r (begins_here xs at sign.Stop x) h

  pub select_answers : (r : Result (Found (Kept (List AstBranch))) Stuck) → Shows sign.If xs at → Answers SelectForm Free xs at r → Answers Stmts StmtStops xs at (renamed (λ v. stmt.If v) r)
  select_answers r x h = renamed_answers SelectForm Stmts Free StmtStops (λ v. stmt.If v) (Begins sign.If) (λ n a ts us q p. roll_select n a ts us p) (λ n b ts us q p s. unroll_select n b ts us q p) (λ us s. tt) xs at r (begins_here xs at sign.If x) h

  pub loop_answers : (r : Result (Found (Kept (Numeral × List AstBranch))) Stuck) → Shows sign.Do xs at → Answers LoopForm Free xs at r → Answers Stmts StmtStops xs at (renamed loop_of r)
  loop_answers r x h = renamed_answers LoopForm Stmts Free StmtStops loop_of (Begins sign.Do) (λ n a ts us q p. roll_loop n a ts us p) (λ n b ts us q p s. unroll_loop n b ts us q p) (λ us s. tt) xs at r (begins_here xs at sign.Do x) h

  pub skip_only : (n : Option ℕ) (b : AstStmt) (x : Lexeme) (ts us : List Lexeme) → x.sign ≡ sign.Skip → IsStmt (Sized n) b (x ∷ ts) us → (b ≡ stmt.Skip) × (us ≡ ts)
  skip_only n b x ts us q (skip e) = (refl, refl)
  skip_only n b x ts us q (assign {targets} {x = y} {us = ks} t e v) = let i = clash sign.Skip sign.Name (x ∷ ts) q (targets_begin n targets (x ∷ ts) (y ∷ ks) t) in absurd cc
  skip_only n b x ts us q (choose e t) = absurd cc
  skip_only n b x ts us q (send e f g v h i j) = absurd cc
  skip_only n b x ts us q (start e f g d) = absurd cc
  skip_only n b x ts us q (stop e f) = absurd cc
  skip_only n b x ts us q (select e i f) = absurd cc
  skip_only n b x ts us q (repeat e f g i h) = absurd cc

  pub skip_answers : (x : Lexeme) → Stands xs at x → x.sign ≡ sign.Skip → Answers Stmts StmtStops xs at (Ok (record { value = Whole stmt.Skip; next = at + 1 }))
  skip_answers x w e = token_answers Stmts StmtStops xs at stmt.Skip x w (λ n ts. skip e) (λ n b ts us r. skip_only n b x ts us e r)

  -- nothing stands there, or what begins no statement
  pub empty_here : drop at xs ≡ [] → Here xs at (λ ts. ts ≡ [])
  empty_here e ys m h same = empty_at xs ys m same at h e

  unbegun : (n : Option ℕ) (b : AstStmt) (ts us : List Lexeme) → ts ≡ [] → IsStmt (Sized n) b ts us → ⊥
  unbegun n b ts us e i = subst StmtOpens e (stmt_opens n b ts us i)

  pub no_stmt : drop at xs ≡ [] → Answers Stmts StmtStops xs at (Err (stuck.At at))
  no_stmt e = fails Stmts StmtStops (λ ts. ts ≡ []) xs at (empty_here e) (λ n b ts us q i s. unbegun n b ts us q i)

  other_here : (x : Lexeme) → Stands xs at x → opens_stmt x.sign ≡ false → Here xs at (λ ts. StmtOpens ts → ⊥)
  other_here x w q ys m h same =
      let y = stands_as xs ys m same at h x w in
      let G : List Lexeme → Type 0 = λ ts. StmtOpens ts → ⊥ in
      subst G (sym y.cut) (λ o. absurd cc)

  pub other_stmt : (x : Lexeme) → Stands xs at x → opens_stmt x.sign ≡ false → Answers Stmts StmtStops xs at (Err (stuck.At at))
  other_stmt x w q = fails Stmts StmtStops (λ ts. StmtOpens ts → ⊥) xs at (other_here x w q) (λ n b ts us o i s. o (stmt_opens n b ts us i))

-- ---- values

pub assign_value : (t : Kept (List AstTarget)) (v : Kept (List AstExpr)) → both (λ a b. stmt.Assign a b) t v ≡ mapped {A = List AstTarget × List AstExpr} (λ p. stmt.Assign p.0 p.1) (both (λ a b. (a, b)) t v)
assign_value (Whole a) (Whole b) = refl
assign_value (Whole a) (Large j) = refl
assign_value (Large i) v = refl

pub send_value : (m : Ident) (v : Kept (List AstExpr)) (t : Ident) → mapped (λ w. stmt.Send m w t) v ≡ mapped send_of (both (λ a b. (a, b)) (Whole m) (both (λ a b. (a, b)) v (Whole t)))
send_value m (Whole w) t = refl
send_value m (Large j) t = refl

pub start_value : (m : Ident) (v : Kept AstExpr) → mapped (λ w. stmt.Start m w) v ≡ mapped start_of (both (λ a b. (a, b)) (Whole m) v)
start_value m (Whole w) = refl
start_value m (Large j) = refl

pub loop_value : (m : Numeral) (v : Kept (List AstBranch)) → mapped (λ w. stmt.Loop m.value m.place w) v ≡ mapped loop_of (both (λ a b. (a, b)) (Whole m) v)
loop_value m (Whole w) = refl
loop_value m (Large j) = refl
