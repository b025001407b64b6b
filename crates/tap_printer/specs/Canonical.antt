-- The canonical text of a tree: its tokens with the fewest parentheses, and the joints between them.
use Rattle.std.specs.Prelude.{ℕ, ℤ, pos, int_lt, unsigned_abs, if◌then◌else◌, List, [], ◌∷◌, ◌++◌, map, flat_map, Option, Some, None}
use Rattle.tap_base.specs.declared.ast.Ast.{Ast}
use Rattle.tap_base.specs.declared.ast.AstAction.{AstAction}
use Rattle.tap_base.specs.declared.ast.AstBranch.{AstBranch}
use Rattle.tap_base.specs.declared.ast.AstConst.{AstConst}
use Rattle.tap_base.specs.declared.ast.AstExpr.{AstExpr}
use Rattle.tap_base.specs.declared.ast.AstField.{AstField}
use Rattle.tap_base.specs.declared.ast.AstGuard.{AstGuard}
use Rattle.tap_base.specs.declared.ast.AstGuard.TheVariants as guard
use Rattle.tap_base.specs.declared.ast.AstMessage.{AstMessage}
use Rattle.tap_base.specs.declared.ast.AstProcess.{AstProcess}
use Rattle.tap_base.specs.declared.ast.AstScalar.{AstScalar}
use Rattle.tap_base.specs.declared.ast.AstScalar.TheVariants as scalar
use Rattle.tap_base.specs.declared.ast.AstStmt.{AstStmt}
use Rattle.tap_base.specs.declared.ast.AstStmt.TheFolds.{fold-AstStmt, fold-AstBranch}
use Rattle.tap_base.specs.declared.ast.AstStmt.TheOpen.{AstStmt-F, AstBranch-F}
use Rattle.tap_base.specs.declared.ast.AstTarget.{AstTarget}
use Rattle.tap_base.specs.declared.ast.AstType.{AstType}
use Rattle.tap_base.specs.declared.ast.AstType.TheVariants as type_of
use Rattle.tap_base.specs.declared.ast.AstVar.{AstVar}
use Rattle.tap_base.specs.declared.ast.Bound.{Bound}
use Rattle.tap_base.specs.declared.ast.Bound.TheVariants as bound
use Rattle.tap_base.specs.declared.ast.Ident.{Ident}
use Rattle.tap_base.specs.declared.token.Sign.{Sign}
use Rattle.tap_base.specs.declared.token.Sign.TheVariants as sign
use Rattle.tap_printer.specs.Printed.{Printed, mark, name, number, text_of}
use Rattle.tap_printer.specs.CanonicalExprs.{expr_tokens}

-- ---- lists

-- items behind others, each behind a separator
abbrev pub further : Sign → List (List Printed) → List Printed
further s items = flat_map (λ item. mark s ∷ item) items

-- items with a separator between each two
abbrev pub separated : Sign → List (List Printed) → List Printed
separated s [] = []
separated s (item ∷ items) = item ++ further s items

-- a word and its items, or nothing where there are none
abbrev pub block : Sign → Sign → List (List Printed) → List Printed
block word s [] = []
block word s (item ∷ items) = mark word ∷ item ++ further s items

-- an item behind a sign, or nothing where there is none
abbrev pub optional : Sign → Option (List Printed) → List Printed
optional s None = []
optional s (Some tokens) = mark s ∷ tokens

-- ---- declarations

abbrev pub ident_tokens : Ident → List Printed
ident_tokens x = name x.text ∷ []

abbrev pub number_tokens : ℤ → List Printed
number_tokens n = number n ∷ []

-- a number of a constant or a bound: below 0 it is `-` and the number without its sign
abbrev pub signed_tokens : ℤ → List Printed
signed_tokens n = if int_lt n (pos 0) then mark sign.Minus ∷ number (pos (unsigned_abs n)) ∷ [] else number n ∷ []

abbrev pub bound_tokens : Bound → List Printed
bound_tokens (bound.Number n) = signed_tokens n
bound_tokens (bound.Name x) = ident_tokens x

abbrev pub scalar_tokens : AstScalar → List Printed
scalar_tokens scalar.Boolean = mark sign.Boolean ∷ []
scalar_tokens (scalar.Between lo hi) = bound_tokens lo ++ mark sign.Span ∷ bound_tokens hi

abbrev pub type_tokens : AstType → List Printed
type_tokens (type_of.Scalar s) = scalar_tokens s
type_tokens (type_of.Array n s) = mark sign.Array ∷ number n ∷ mark sign.Of ∷ scalar_tokens s

abbrev pub const_tokens : AstConst → List Printed
const_tokens c = name c.name.text ∷ mark sign.Equal ∷ signed_tokens c.value

abbrev pub initial_tokens : Option Bound → Option (List Printed)
initial_tokens None = None
initial_tokens (Some b) = Some (bound_tokens b)

abbrev pub var_tokens : AstVar → List Printed
var_tokens v = name v.name.text ∷ mark sign.Colon ∷ type_tokens v.kind ++ optional sign.Equal (initial_tokens v.initial)

abbrev pub fixed_tokens : Option ℤ → Option (List Printed)
fixed_tokens None = None
fixed_tokens (Some n) = Some (number_tokens n)

abbrev pub field_tokens : AstField → List Printed
field_tokens f = name f.name.text ∷ mark sign.Colon ∷ number f.width ∷ mark sign.Bits ∷ optional sign.Equal (fixed_tokens f.fixed)

abbrev pub message_tokens : AstMessage → List Printed
message_tokens m = mark sign.Message ∷ name m.name.text ∷ mark sign.Begin ∷ separated sign.Semicolon (map field_tokens m.fields) ++ mark sign.End ∷ []

-- ---- statements

abbrev pub index_tokens : Option AstExpr → List Printed
index_tokens None = []
index_tokens (Some e) = mark sign.OpenIndex ∷ expr_tokens e ++ mark sign.CloseIndex ∷ []

abbrev pub target_tokens : AstTarget → List Printed
target_tokens t = name t.name.text ∷ index_tokens t.index

-- a statement, over the tokens of its branches
abbrev pub stmt_step : AstStmt-F (List Printed) (List Printed) → List Printed
stmt_step AstStmt-F.Skip = mark sign.Skip ∷ []
stmt_step (AstStmt-F.Assign targets values) = separated sign.Comma (map target_tokens targets) ++ mark sign.Becomes ∷ separated sign.Comma (map expr_tokens values)
stmt_step (AstStmt-F.Choose target) = mark sign.Choose ∷ target_tokens target
stmt_step (AstStmt-F.Send message values to) = mark sign.Send ∷ name message.text ∷ mark sign.Open ∷ separated sign.Comma (map expr_tokens values) ++ mark sign.Close ∷ mark sign.To ∷ name to.text ∷ []
stmt_step (AstStmt-F.Start timer delay) = mark sign.Start ∷ name timer.text ∷ mark sign.After ∷ expr_tokens delay
stmt_step (AstStmt-F.Stop timer) = mark sign.Stop ∷ name timer.text ∷ []
stmt_step (AstStmt-F.If branches) = mark sign.If ∷ separated sign.Box branches ++ mark sign.Fi ∷ []
stmt_step (AstStmt-F.Loop count place branches) = mark sign.Do ∷ number count ∷ mark sign.Times ∷ separated sign.Box branches ++ mark sign.Od ∷ []

-- a branch, over the tokens of its statements
abbrev pub branch_step : AstBranch-F (List Printed) (List Printed) → List Printed
branch_step b = expr_tokens b.guard ++ mark sign.Arrow ∷ separated sign.Semicolon b.body

abbrev pub stmt_tokens : AstStmt → List Printed
stmt_tokens = fold-AstStmt (List Printed) (List Printed) stmt_step branch_step

abbrev pub branch_tokens : AstBranch → List Printed
branch_tokens = fold-AstBranch (List Printed) (List Printed) stmt_step branch_step

-- ---- actions, processes and systems

abbrev pub guard_tokens : AstGuard → List Printed
guard_tokens (guard.Local e) = expr_tokens e
guard_tokens (guard.Receive message from) = mark sign.Rcv ∷ name message.text ∷ mark sign.From ∷ name from.text ∷ []
guard_tokens (guard.Timeout timer) = mark sign.Timeout ∷ name timer.text ∷ []

abbrev pub action_tokens : AstAction → List Printed
action_tokens a = guard_tokens a.guard ++ mark sign.Arrow ∷ separated sign.Semicolon (map stmt_tokens a.body)

abbrev pub process_tokens : AstProcess → List Printed
process_tokens p =
    mark sign.Process ∷ name p.name.text ∷
    block sign.Const sign.Semicolon (map const_tokens p.consts) ++
    block sign.Inp sign.Semicolon (map var_tokens p.inputs) ++
    block sign.Var sign.Semicolon (map var_tokens p.vars) ++
    block sign.Timer sign.Comma (map ident_tokens p.timers) ++
    mark sign.Begin ∷ separated sign.Box (map action_tokens p.actions) ++
    mark sign.End ∷ []

-- the tokens of a tree, with the fewest parentheses
abbrev pub tree_tokens : Ast → List Printed
tree_tokens tree = flat_map message_tokens tree.messages ++ flat_map process_tokens tree.processes

-- the canonical text of a tree
abbrev pub canonical : Ast → List ℕ
canonical tree = text_of (tree_tokens tree)
