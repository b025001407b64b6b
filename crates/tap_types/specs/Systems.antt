-- The system that a tree names.
use Rattle.std.specs.Prelude.{ℕ, ◌+◌, ℤ, pos, Bool, true, false, if◌then◌else◌, List, [], ◌∷◌, map, length, Option, Some, None, unsigned_abs}
use Rattle.std.specs.Option.{option_map}
use Rattle.tap_base.specs.declared.place.Place.{Place}
use Rattle.tap_base.specs.declared.ast.Ast.{Ast}
use Rattle.tap_base.specs.declared.ast.AstAction.{AstAction}
use Rattle.tap_base.specs.declared.ast.AstBranch.{AstBranch}
use Rattle.tap_base.specs.declared.ast.AstExpr.{AstExpr}
use Rattle.tap_base.specs.declared.ast.AstGuard.{AstGuard}
use Rattle.tap_base.specs.declared.ast.AstGuard.TheVariants as guard
use Rattle.tap_base.specs.declared.ast.AstKind.TheFolds.{fold-AstExpr}
use Rattle.tap_base.specs.declared.ast.AstKind.TheOpen.{AstKind-F}
use Rattle.tap_base.specs.declared.ast.AstMessage.{AstMessage}
use Rattle.tap_base.specs.declared.ast.AstProcess.{AstProcess}
use Rattle.tap_base.specs.declared.ast.AstStmt.{AstStmt}
use Rattle.tap_base.specs.declared.ast.AstStmt.TheFolds.{fold-AstStmt, fold-AstBranch}
use Rattle.tap_base.specs.declared.ast.AstStmt.TheOpen.{AstStmt-F, AstBranch-F}
use Rattle.tap_base.specs.declared.ast.AstTarget.{AstTarget}
use Rattle.tap_base.specs.declared.ast.Ident.{Ident}
use Rattle.tap_base.specs.declared.system.System.{System}
use Rattle.tap_base.specs.declared.system.Process.{Process}
use Rattle.tap_base.specs.declared.system.Action.{Action}
use Rattle.tap_base.specs.declared.system.Guard.{Guard}
use Rattle.tap_base.specs.declared.system.Guard.TheVariants as when
use Rattle.tap_base.specs.declared.tree.Expr.{Expr}
use Rattle.tap_base.specs.declared.tree.ExprKind.{ExprKind}
use Rattle.tap_base.specs.declared.tree.ExprKind.TheVariants as expr
use Rattle.tap_base.specs.declared.tree.Target.{Target}
use Rattle.tap_base.specs.declared.tree.Stmt.{Stmt}
use Rattle.tap_base.specs.declared.tree.Stmt.TheVariants as stmt
use Rattle.tap_base.specs.declared.tree.Branch.{Branch}
use Rattle.tap_names.specs.declared.named.Named.{Named}
use Rattle.tap_names.specs.declared.named.Named.TheVariants as named
use Rattle.tap_types.specs.ActionOffences.{after_guard, process_scope}
use Rattle.tap_names.specs.Declarations.{process_names}
use Rattle.tap_base.specs.Option.{◌>>=◌, each}
use Rattle.tap_base.specs.ListWords.{some_of}
use Rattle.tap_names.specs.Names.{constants, input_of, message_of, names_of, var_of}
use Rattle.tap_types.specs.Scopes.{Scope, named_in, message_in, process_in, field_in, is_number}

-- ---- expressions

abbrev pub node : Place → ExprKind → Expr
node p k = record { kind = k; place = p }

-- a constant is its number, an input or a variable goes by its number
abbrev pub name_kind : Option Named → Option ExprKind
name_kind (Some (named.Constant v)) = Some (expr.Number v)
name_kind (Some (named.Input n k)) = Some (expr.Input n)
name_kind (Some (named.Variable first k range)) = Some (expr.Cell first)
name_kind _ = None

abbrev pub element_kind : Option Named → Expr → Option ExprKind
element_kind (Some (named.Array first length k range)) i = Some (expr.Element first length i)
element_kind _ i = None

-- a field of the message that the action receives
abbrev pub part_kind : Scope → ℕ → List ℕ → Option ExprKind
part_kind c m f = if is_number m c.received then option_map expr.Part (field_in c m f) else None

abbrev pub truth_number : Bool → ℤ
truth_number true = pos 1
truth_number false = pos 0

-- one level of an expression, by what its parts name
abbrev pub expr_level : Scope → AstKind-F (Place → Option Expr) (Option Expr) → Place → Option Expr
expr_level c (AstKind-F.Number n) p = Some (node p (expr.Number n))
expr_level c (AstKind-F.Truth b) p = Some (node p (expr.Number (truth_number b)))
expr_level c (AstKind-F.Name x) p = option_map (node p) (name_kind (named_in c x))
expr_level c (AstKind-F.Index x i) p = do
  index ← i
  option_map (node p) (element_kind (named_in c x) index)
expr_level c (AstKind-F.Part m f) p = do
  k ← message_in c m
  option_map (node p) (part_kind c k f)
expr_level c (AstKind-F.Not e) p = option_map (λ x. node p (expr.Not x)) e
expr_level c (AstKind-F.Neg e) p = option_map (λ x. node p (expr.Neg x)) e
expr_level c (AstKind-F.Binary o a b) p = do
  x ← a
  y ← b
  Some (node p (expr.Binary o x y))

-- the expression, with each name in it looked up
abbrev pub expr_of : Scope → AstExpr → Option Expr
expr_of c = fold-AstExpr (Place → Option Expr) (Option Expr) (expr_level c) (λ e. e.kind e.place)

-- ---- targets

abbrev pub index_of : Scope → Option AstExpr → Option (Option Expr)
index_of c None = Some None
index_of c (Some e) = option_map Some (expr_of c e)

-- a variable, or one cell of an array
abbrev pub target_at : Place → Option Named → Option Expr → Option Target
target_at p (Some (named.Variable first k range)) None = Some (record { first = first; length = 1; index = None; range = range; place = p })
target_at p (Some (named.Array first length k range)) (Some i) = Some (record { first = first; length = length; index = Some i; range = range; place = p })
target_at p _ _ = None

abbrev pub target_of : Scope → AstTarget → Option Target
target_of c t = do
  index ← index_of c t.index
  target_at t.name.place (named_in c t.name.text) index

-- ---- statements

abbrev pub timer_number : Option Named → Option ℕ
timer_number (Some (named.Timer t)) = Some t
timer_number _ = None

abbrev pub timer_in : Scope → Ident → Option ℕ
timer_in c t = timer_number (named_in c t.text)

abbrev pub assignment_of : Scope → List AstTarget → List AstExpr → Option Stmt
assignment_of c targets values = do
  ts ← each (target_of c) targets
  es ← each (expr_of c) values
  Some (stmt.Assign ts es)

-- a send, with one value for each free field
abbrev pub send_of : Scope → Ident → List AstExpr → Ident → Option Stmt
send_of c m values q = do
  k ← message_in c m.text
  es ← each (expr_of c) values
  p ← process_in c q.text
  Some (stmt.Send k es p)

abbrev pub start_of : Scope → Ident → AstExpr → Option Stmt
start_of c t delay = do
  k ← timer_in c t
  e ← expr_of c delay
  Some (stmt.Start k e)

abbrev pub stmt_of_level : Scope → AstStmt-F (Option Stmt) (Option Branch) → Option Stmt
stmt_of_level c AstStmt-F.Skip = Some stmt.Skip
stmt_of_level c (AstStmt-F.Assign targets values) = assignment_of c targets values
stmt_of_level c (AstStmt-F.Choose target) = option_map stmt.Choose (target_of c target)
stmt_of_level c (AstStmt-F.Send m values q) = send_of c m values q
stmt_of_level c (AstStmt-F.Start t delay) = start_of c t delay
stmt_of_level c (AstStmt-F.Stop t) = option_map stmt.Stop (timer_in c t)
stmt_of_level c (AstStmt-F.If branches) = option_map stmt.If (some_of branches)
stmt_of_level c (AstStmt-F.Loop count place branches) = option_map (stmt.Loop (unsigned_abs count)) (some_of branches)

abbrev pub branch_of_level : Scope → AstBranch-F (Option Stmt) (Option Branch) → Option Branch
branch_of_level c b = do
  g ← expr_of c b.guard
  body ← some_of b.body
  Some (record { guard = g; body = body })

-- the statement, and the branch, with each name in it looked up
abbrev pub stmt_of : Scope → AstStmt → Option Stmt
stmt_of c = fold-AstStmt (Option Stmt) (Option Branch) (stmt_of_level c) (branch_of_level c)

abbrev pub branch_of : Scope → AstBranch → Option Branch
branch_of c = fold-AstBranch (Option Stmt) (Option Branch) (stmt_of_level c) (branch_of_level c)

abbrev pub body_of : Scope → List AstStmt → Option (List Stmt)
body_of c body = some_of (map (stmt_of c) body)

-- ---- actions

abbrev pub guard_of : Scope → AstGuard → Option Guard
guard_of c (guard.Local e) = option_map when.Local (expr_of c e)
guard_of c (guard.Receive m q) = do
  k ← message_in c m.text
  p ← process_in c q.text
  Some (when.Receive k p)
guard_of c (guard.Timeout t) = option_map when.Timeout (timer_in c t)

abbrev pub action_of : Scope → AstAction → Option Action
action_of c a = do
  g ← guard_of c a.guard
  body ← body_of (after_guard c a.guard) a.body
  Some (record { guard = g; body = body; place = a.place })

-- ---- processes

abbrev pub process_of : List AstMessage → List (List ℕ) → ℕ → AstProcess → Option Process
process_of messages processes n p = do
  names ← names_of p
  inputs ← each (input_of (constants p.consts)) p.inputs
  vars ← each (var_of (constants p.consts)) p.vars
  actions ← each (action_of (process_scope messages processes n names)) p.actions
  Some (record { name = p.name.text; inputs = inputs; vars = vars; timers = length p.timers; actions = actions })

-- what each process names, numbered from n
abbrev pub processes_of : List AstMessage → List (List ℕ) → ℕ → List AstProcess → Option (List Process)
processes_of messages processes n [] = Some []
processes_of messages processes n (p ∷ ps) = do
  q ← process_of messages processes n p
  qs ← processes_of messages processes (n + 1) ps
  Some (q ∷ qs)

-- ---- the whole tree

-- the system that the tree names, where each name that it uses is declared
abbrev pub system_of : Ast → Option System
system_of tree = option_map (λ processes. record { messages = map message_of tree.messages; processes = processes }) (processes_of tree.messages (process_names tree.processes) 0 tree.processes)

abbrev pub tree_of : List AstMessage → List AstProcess → Ast
tree_of messages processes = record { messages = messages; processes = processes }
