-- Trees that are the same but for their places.
use Rattle.std.specs.Prelude.{◌≡◌, map}
use Rattle.std.specs.Option.{option_map}
use Rattle.tap_base.specs.declared.ast.Ast.{Ast}
use Rattle.tap_base.specs.declared.ast.AstAction.{AstAction}
use Rattle.tap_base.specs.declared.ast.AstBranch.{AstBranch}
use Rattle.tap_base.specs.declared.ast.AstConst.{AstConst}
use Rattle.tap_base.specs.declared.ast.AstExpr.{AstExpr}
use Rattle.tap_base.specs.declared.ast.AstField.{AstField}
use Rattle.tap_base.specs.declared.ast.AstGuard.{AstGuard}
use Rattle.tap_base.specs.declared.ast.AstGuard.TheVariants as guard
use Rattle.tap_base.specs.declared.ast.AstKind.{AstKind}
use Rattle.tap_base.specs.declared.ast.AstKind.TheFolds.{fold-AstExpr}
use Rattle.tap_base.specs.declared.ast.AstKind.TheOpen.{AstKind-F}
use Rattle.tap_base.specs.declared.ast.AstKind.TheVariants as kind
use Rattle.tap_base.specs.declared.ast.AstMessage.{AstMessage}
use Rattle.tap_base.specs.declared.ast.AstProcess.{AstProcess}
use Rattle.tap_base.specs.declared.ast.AstScalar.{AstScalar}
use Rattle.tap_base.specs.declared.ast.AstScalar.TheVariants as scalar
use Rattle.tap_base.specs.declared.ast.AstStmt.{AstStmt}
use Rattle.tap_base.specs.declared.ast.AstStmt.TheFolds.{fold-AstStmt, fold-AstBranch}
use Rattle.tap_base.specs.declared.ast.AstStmt.TheOpen.{AstStmt-F, AstBranch-F}
use Rattle.tap_base.specs.declared.ast.AstStmt.TheVariants as stmt
use Rattle.tap_base.specs.declared.ast.AstTarget.{AstTarget}
use Rattle.tap_base.specs.declared.ast.AstType.{AstType}
use Rattle.tap_base.specs.declared.ast.AstType.TheVariants as type_of
use Rattle.tap_base.specs.declared.ast.AstVar.{AstVar}
use Rattle.tap_base.specs.declared.ast.Bound.{Bound}
use Rattle.tap_base.specs.declared.ast.Bound.TheVariants as bound
use Rattle.tap_base.specs.declared.ast.Ident.{Ident}
use Rattle.tap_lexer.specs.Bytes.{start}

-- Each of these sets all places of a tree to the start of a text.

abbrev pub ident_aside : Ident → Ident
ident_aside x = record { text = x.text; place = start }

-- ---- expressions

abbrev pub kind_step : AstKind-F AstKind AstExpr → AstKind
kind_step (AstKind-F.Number n) = kind.Number n
kind_step (AstKind-F.Truth b) = kind.Truth b
kind_step (AstKind-F.Name t) = kind.Name t
kind_step (AstKind-F.Index t i) = kind.Index t i
kind_step (AstKind-F.Part m f) = kind.Part m f
kind_step (AstKind-F.Not e) = kind.Not e
kind_step (AstKind-F.Neg e) = kind.Neg e
kind_step (AstKind-F.Binary o a b) = kind.Binary o a b

abbrev pub expr_aside : AstExpr → AstExpr
expr_aside = fold-AstExpr AstKind AstExpr kind_step (λ e. record { kind = e.kind; place = start })

-- ---- statements

abbrev pub target_aside : AstTarget → AstTarget
target_aside t = record { name = ident_aside t.name; index = option_map expr_aside t.index }

abbrev pub stmt_step : AstStmt-F AstStmt AstBranch → AstStmt
stmt_step AstStmt-F.Skip = stmt.Skip
stmt_step (AstStmt-F.Assign targets values) = stmt.Assign (map target_aside targets) (map expr_aside values)
stmt_step (AstStmt-F.Choose target) = stmt.Choose (target_aside target)
stmt_step (AstStmt-F.Send message values to) = stmt.Send (ident_aside message) (map expr_aside values) (ident_aside to)
stmt_step (AstStmt-F.Start timer delay) = stmt.Start (ident_aside timer) (expr_aside delay)
stmt_step (AstStmt-F.Stop timer) = stmt.Stop (ident_aside timer)
stmt_step (AstStmt-F.If branches) = stmt.If branches
stmt_step (AstStmt-F.Loop count place branches) = stmt.Loop count start branches

abbrev pub branch_step : AstBranch-F AstStmt AstBranch → AstBranch
branch_step b = record { guard = expr_aside b.guard; body = b.body }

abbrev pub stmt_aside : AstStmt → AstStmt
stmt_aside = fold-AstStmt AstStmt AstBranch stmt_step branch_step

abbrev pub branch_aside : AstBranch → AstBranch
branch_aside = fold-AstBranch AstStmt AstBranch stmt_step branch_step

abbrev pub guard_aside : AstGuard → AstGuard
guard_aside (guard.Local e) = guard.Local (expr_aside e)
guard_aside (guard.Receive message from) = guard.Receive (ident_aside message) (ident_aside from)
guard_aside (guard.Timeout timer) = guard.Timeout (ident_aside timer)

abbrev pub action_aside : AstAction → AstAction
action_aside a = record { guard = guard_aside a.guard; body = map stmt_aside a.body; place = start }

-- ---- declarations

abbrev pub bound_aside : Bound → Bound
bound_aside (bound.Number n) = bound.Number n
bound_aside (bound.Name x) = bound.Name (ident_aside x)

abbrev pub scalar_aside : AstScalar → AstScalar
scalar_aside scalar.Boolean = scalar.Boolean
scalar_aside (scalar.Between lo hi) = scalar.Between (bound_aside lo) (bound_aside hi)

abbrev pub type_aside : AstType → AstType
type_aside (type_of.Scalar s) = type_of.Scalar (scalar_aside s)
type_aside (type_of.Array n s) = type_of.Array n (scalar_aside s)

abbrev pub const_aside : AstConst → AstConst
const_aside c = record { name = ident_aside c.name; value = c.value }

abbrev pub var_aside : AstVar → AstVar
var_aside v = record { name = ident_aside v.name; kind = type_aside v.kind; initial = option_map bound_aside v.initial }

abbrev pub field_aside : AstField → AstField
field_aside f = record { name = ident_aside f.name; width = f.width; fixed = f.fixed }

abbrev pub message_aside : AstMessage → AstMessage
message_aside m = record { name = ident_aside m.name; fields = map field_aside m.fields }

abbrev pub process_aside : AstProcess → AstProcess
process_aside p = record { name = ident_aside p.name; consts = map const_aside p.consts; inputs = map var_aside p.inputs; vars = map var_aside p.vars; timers = map ident_aside p.timers; actions = map action_aside p.actions }

abbrev pub places_aside : Ast → Ast
places_aside tree = record { messages = map message_aside tree.messages; processes = map process_aside tree.processes }

-- the trees are the same but for their places
abbrev pub SameTree : Ast → Ast → Type 0
SameTree c d = places_aside c ≡ places_aside d
