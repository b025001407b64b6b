-- The grammar of actions and their statements, one constructor for each production, over the relation of the expressions in them.
use Rattle.std.specs.Prelude.{◌≡◌, List, [], ◌∷◌, Some, None}
use Rattle.tap_base.specs.declared.ast.AstAction.{AstAction}
use Rattle.tap_base.specs.declared.ast.AstBranch.{AstBranch}
use Rattle.tap_base.specs.declared.ast.AstExpr.{AstExpr}
use Rattle.tap_base.specs.declared.ast.AstGuard.{AstGuard}
use Rattle.tap_base.specs.declared.ast.AstGuard.TheVariants as guard
use Rattle.tap_base.specs.declared.ast.AstStmt.{AstStmt}
use Rattle.tap_base.specs.declared.ast.AstStmt.TheVariants as stmt
use Rattle.tap_base.specs.declared.ast.AstTarget.{AstTarget}
use Rattle.tap_base.specs.declared.token.Sign.TheVariants as sign
use Rattle.tap_lexer.specs.Lexeme.{Lexeme}
use Rattle.tap_lexer.specs.Leaves.{ident}
use Rattle.tap_lexer.specs.Rows.{Separated, SomeSeparated}

-- target = name [ "[" expr "]" ]
pub data IsTarget (E : AstExpr → List Lexeme → List Lexeme → Type 0) : AstTarget → List Lexeme → List Lexeme → Type 0 where
  whole : {x : Lexeme} {ts : List Lexeme} → x.sign ≡ sign.Name → IsTarget E (record { name = ident x; index = None }) (x ∷ ts) ts
  element : {e : AstExpr} {x y z : Lexeme} {ts us : List Lexeme} → x.sign ≡ sign.Name → y.sign ≡ sign.OpenIndex → E e ts (z ∷ us) → z.sign ≡ sign.CloseIndex → IsTarget E (record { name = ident x; index = Some e }) (x ∷ y ∷ ts) us

mutual
  pub data IsStmt (E : AstExpr → List Lexeme → List Lexeme → Type 0) : AstStmt → List Lexeme → List Lexeme → Type 0 where
    -- stmt = "skip"
    skip : {x : Lexeme} {ts : List Lexeme} → x.sign ≡ sign.Skip → IsStmt E stmt.Skip (x ∷ ts) ts
    -- stmt = target { "," target } ":=" expr { "," expr }
    assign : {targets : List AstTarget} {values : List AstExpr} {x : Lexeme} {ts us ws : List Lexeme} → Separated (IsTarget E) sign.Comma targets ts (x ∷ us) → x.sign ≡ sign.Becomes → Separated E sign.Comma values us ws → IsStmt E (stmt.Assign targets values) ts ws
    -- stmt = "choose" target
    choose : {target : AstTarget} {x : Lexeme} {ts us : List Lexeme} → x.sign ≡ sign.Choose → IsTarget E target ts us → IsStmt E (stmt.Choose target) (x ∷ ts) us
    -- stmt = "send" name "(" [ expr { "," expr } ] ")" "to" name
    send : {values : List AstExpr} {x y z w v u : Lexeme} {ts us : List Lexeme} → x.sign ≡ sign.Send → y.sign ≡ sign.Name → z.sign ≡ sign.Open → SomeSeparated E sign.Comma values ts (w ∷ v ∷ u ∷ us) → w.sign ≡ sign.Close → v.sign ≡ sign.To → u.sign ≡ sign.Name → IsStmt E (stmt.Send (ident y) values (ident u)) (x ∷ y ∷ z ∷ ts) us
    -- stmt = "start" name "after" expr
    start : {delay : AstExpr} {x y z : Lexeme} {ts us : List Lexeme} → x.sign ≡ sign.Start → y.sign ≡ sign.Name → z.sign ≡ sign.After → E delay ts us → IsStmt E (stmt.Start (ident y) delay) (x ∷ y ∷ z ∷ ts) us
    -- stmt = "stop" name
    stop : {x y : Lexeme} {ts : List Lexeme} → x.sign ≡ sign.Stop → y.sign ≡ sign.Name → IsStmt E (stmt.Stop (ident y)) (x ∷ y ∷ ts) ts
    -- stmt = "if" branch { "[]" branch } "fi"
    select : {branches : List AstBranch} {x y : Lexeme} {ts us : List Lexeme} → x.sign ≡ sign.If → AreBranches E branches ts (y ∷ us) → y.sign ≡ sign.Fi → IsStmt E (stmt.If branches) (x ∷ ts) us
    -- stmt = "do" number "times" branch { "[]" branch } "od"; the loop's place is that of the number
    repeat : {branches : List AstBranch} {x y z w : Lexeme} {ts us : List Lexeme} → x.sign ≡ sign.Do → y.sign ≡ sign.Number → z.sign ≡ sign.Times → AreBranches E branches ts (w ∷ us) → w.sign ≡ sign.Od → IsStmt E (stmt.Loop y.value y.place branches) (x ∷ y ∷ z ∷ ts) us

  -- stmts = stmt { ";" stmt }
  pub data AreStmts (E : AstExpr → List Lexeme → List Lexeme → Type 0) : List AstStmt → List Lexeme → List Lexeme → Type 0 where
    last : {s : AstStmt} {ts us : List Lexeme} → IsStmt E s ts us → AreStmts E (s ∷ []) ts us
    more : {s : AstStmt} {ss : List AstStmt} {x : Lexeme} {ts us ws : List Lexeme} → IsStmt E s ts (x ∷ us) → x.sign ≡ sign.Semicolon → AreStmts E ss us ws → AreStmts E (s ∷ ss) ts ws

  -- branch = expr "->" stmts
  pub data IsBranch (E : AstExpr → List Lexeme → List Lexeme → Type 0) : AstBranch → List Lexeme → List Lexeme → Type 0 where
    guarded : {e : AstExpr} {body : List AstStmt} {x : Lexeme} {ts us ws : List Lexeme} → E e ts (x ∷ us) → x.sign ≡ sign.Arrow → AreStmts E body us ws → IsBranch E (record { guard = e; body = body }) ts ws

  -- branch { "[]" branch }
  pub data AreBranches (E : AstExpr → List Lexeme → List Lexeme → Type 0) : List AstBranch → List Lexeme → List Lexeme → Type 0 where
    final : {b : AstBranch} {ts us : List Lexeme} → IsBranch E b ts us → AreBranches E (b ∷ []) ts us
    further : {b : AstBranch} {bs : List AstBranch} {x : Lexeme} {ts us ws : List Lexeme} → IsBranch E b ts (x ∷ us) → x.sign ≡ sign.Box → AreBranches E bs us ws → AreBranches E (b ∷ bs) ts ws

-- guard = expr | "rcv" name "from" name | "timeout" name
pub data IsGuard (E : AstExpr → List Lexeme → List Lexeme → Type 0) : AstGuard → List Lexeme → List Lexeme → Type 0 where
  local : {e : AstExpr} {ts us : List Lexeme} → E e ts us → IsGuard E (guard.Local e) ts us
  receive : {x y z w : Lexeme} {ts : List Lexeme} → x.sign ≡ sign.Rcv → y.sign ≡ sign.Name → z.sign ≡ sign.From → w.sign ≡ sign.Name → IsGuard E (guard.Receive (ident y) (ident w)) (x ∷ y ∷ z ∷ w ∷ ts) ts
  timeout : {x y : Lexeme} {ts : List Lexeme} → x.sign ≡ sign.Timeout → y.sign ≡ sign.Name → IsGuard E (guard.Timeout (ident y)) (x ∷ y ∷ ts) ts

-- action = guard "->" stmts; its place is that of its first token
pub data IsAction (E : AstExpr → List Lexeme → List Lexeme → Type 0) : AstAction → List Lexeme → List Lexeme → Type 0 where
  guarded : {g : AstGuard} {body : List AstStmt} {x y : Lexeme} {ts us ws : List Lexeme} → IsGuard E g (x ∷ ts) (y ∷ us) → y.sign ≡ sign.Arrow → AreStmts E body us ws → IsAction E (record { guard = g; body = body; place = x.place }) (x ∷ ts) ws
