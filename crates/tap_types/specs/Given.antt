-- What the grammar gives of every tree and no offence judges: a process, a target of each assignment, and numbers of 64 bits.
use Rattle.std.specs.Prelude.{◌≡◌, ◌≤◌, ℤ, true, length}
use Rattle.tap_base.specs.declared.ast.Ast.{Ast}
use Rattle.tap_base.specs.declared.ast.AstAction.{AstAction}
use Rattle.tap_base.specs.declared.ast.AstExpr.{AstExpr}
use Rattle.tap_base.specs.declared.ast.AstGuard.{AstGuard}
use Rattle.tap_base.specs.declared.ast.AstGuard.TheVariants as guard
use Rattle.tap_base.specs.declared.ast.AstProcess.{AstProcess}
use Rattle.tap_base.specs.declared.ast.AstStmt.{AstStmt}
use Rattle.tap_base.specs.Interval.{fits}
use Rattle.tap_base.specs.Lists.{Each}
use Rattle.tap_types.specs.Pieces.{Piece, numbers, pieces, value, targets}

abbrev pub IsFit : ℤ → Type 0
IsFit n = fits n ≡ true

abbrev pub NumbersFit : AstExpr → Type 0
NumbersFit e = Each IsFit (numbers e)

-- numbers are of 64 bits, and an assignment has a target
abbrev pub IsGiven : Piece → Type 0
IsGiven (value e) = NumbersFit e
IsGiven (targets ts) = 1 ≤ length ts

abbrev pub StmtIsGiven : AstStmt → Type 0
StmtIsGiven s = Each IsGiven (pieces s)

abbrev pub GuardIsGiven : AstGuard → Type 0
GuardIsGiven (guard.Local e) = NumbersFit e
GuardIsGiven (guard.Receive m q) = Unit {0}
GuardIsGiven (guard.Timeout t) = Unit {0}

abbrev pub ActionIsGiven : AstAction → Type 0
ActionIsGiven a = GuardIsGiven a.guard × Each StmtIsGiven a.body

abbrev pub ProcessIsGiven : AstProcess → Type 0
ProcessIsGiven p = Each (λ c. IsFit c.value) p.consts × Each ActionIsGiven p.actions

pub record HasParts (tree : Ast) : Type 0 where
  pub some_process : 1 ≤ length tree.processes
  pub processes : Each ProcessIsGiven tree.processes
