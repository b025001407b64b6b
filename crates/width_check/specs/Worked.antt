-- Intervals, offences, costs and sends, worked on small parts of trees.
use Rattle.std.specs.Prelude.{◌≡◌, ℕ, pos, List, [], ◌∷◌, None}
use Rattle.tap_base.specs.declared.place.Place.{Place}
use Rattle.tap_base.specs.declared.place.Range.{Range}
use Rattle.tap_base.specs.declared.refusal.RefusalCode.TheVariants.{W1, W2}
use Rattle.tap_base.specs.declared.tree.Branch.{Branch}
use Rattle.tap_base.specs.declared.tree.Expr.{Expr}
use Rattle.tap_base.specs.declared.tree.ExprKind.TheVariants as kind
use Rattle.tap_base.specs.declared.tree.Op.{Op}
use Rattle.tap_base.specs.declared.tree.Op.TheVariants as op
use Rattle.tap_base.specs.declared.tree.Stmt.{Stmt}
use Rattle.tap_base.specs.declared.tree.Stmt.TheVariants as stmt
use Rattle.tap_base.specs.Scope.{Scope}
use Rattle.tap_base.specs.Sends.{stmt_sends}
use Rattle.width_check.specs.Cost.{stmt_cost}
use Rattle.width_check.specs.ExprOffences.{expr_offences}
use Rattle.width_check.specs.StmtOffences.{stmt_offences}

-- ---- writing shorter: places are columns of one line

abbrev pub at : ℕ → Place
at column = record { line = 1; column = column }

abbrev pub number : ℕ → ℕ → Expr
number column n = record { kind = kind.Number (pos n); place = at column }

abbrev pub cell : ℕ → ℕ → Expr
cell column k = record { kind = kind.Cell k; place = at column }

abbrev pub worked_out : ℕ → Op → Expr → Expr → Expr
worked_out column op left right = record { kind = kind.Binary op left right; place = at column }

abbrev pub up_to : ℕ → Range
up_to n = record { lo = pos 0; hi = pos n }

-- the first cell has values from 0 to 7, and the second from 0 to 3
abbrev pub two_cells : Scope
two_cells = record { cells = up_to 7 ∷ up_to 3 ∷ []; inputs = []; fields = [] }

-- `x := e`, with x in its first column
abbrev pub set_first : Expr → Stmt
set_first e = stmt.Assign (record { first = 0; length = 1; index = None; range = up_to 7; place = at 1 } ∷ []) (e ∷ [])

-- ---- offences

-- In `x div y` the divisor, in column 7, may be 0.
abbrev pub DivisorMayBeZero : Type 0
DivisorMayBeZero = expr_offences two_cells (worked_out 3 op.Div (cell 1 0) (cell 7 1)) ≡ record { code = W2; place = at 7 } ∷ []

-- `x := x + 1` may leave 0 to 7, and is refused at its target.
abbrev pub SumMayLeave : Type 0
SumMayLeave = stmt_offences [] two_cells (set_first (worked_out 8 op.Add (cell 6 0) (number 10 1))) ≡ record { code = W1; place = at 1 } ∷ []

-- `x := (x + 1) mod 8` stays.
abbrev pub RemainderStays : Type 0
RemainderStays = stmt_offences [] two_cells (set_first (worked_out 13 op.Mod (worked_out 9 op.Add (cell 7 0) (number 11 1)) (number 17 8))) ≡ []

-- ---- costs and sends

abbrev pub repeated : ℕ → List Stmt → Stmt
repeated n body = stmt.Loop n (record { guard = number 1 1; body = body } ∷ [])

-- `do 65536 times true -> do 16 times true -> skip od od` costs 1 + 65536 * (2 + 49).
abbrev pub LoopsMultiply : Type 0
LoopsMultiply = stmt_cost (repeated 65536 (repeated 16 (stmt.Skip ∷ []) ∷ [])) ≡ 3342337

abbrev pub sending : List Stmt → Branch
sending body = record { guard = number 1 1; body = body }

abbrev pub send : Stmt
send = stmt.Send 0 [] 1

-- A loop of 32 turns, with one send in the first branch and two in the second, makes 96 sends at most.
abbrev pub BranchesAddUp : Type 0
BranchesAddUp = stmt_sends (stmt.Loop 32 (sending (send ∷ []) ∷ sending (send ∷ send ∷ []) ∷ [])) ≡ 96
