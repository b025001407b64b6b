-- What is written in expressions and in statements of a tree, as lists.
use Rattle.std.specs.Prelude.{ℤ, List, [], ◌∷◌, ◌++◌, flat_map, map, Option, Some, None}
use Rattle.tap_base.specs.declared.ast.AstBranch.{AstBranch}
use Rattle.tap_base.specs.declared.ast.AstExpr.{AstExpr}
use Rattle.tap_base.specs.declared.ast.AstKind.TheFolds.{fold-AstExpr}
use Rattle.tap_base.specs.declared.ast.AstKind.TheOpen.{AstKind-F}
use Rattle.tap_base.specs.declared.ast.AstStmt.{AstStmt}
use Rattle.tap_base.specs.declared.ast.AstStmt.TheFolds.{fold-AstBranch, fold-AstStmt}
use Rattle.tap_base.specs.declared.ast.AstStmt.TheOpen.{AstStmt-F, AstBranch-F}
use Rattle.tap_base.specs.declared.ast.AstTarget.{AstTarget}
use Rattle.tap_base.specs.ListWords.{joined}

-- ---- expressions

abbrev pub numbers_step : AstKind-F (List ℤ) (List ℤ) → List ℤ
numbers_step (AstKind-F.Number n) = n ∷ []
numbers_step (AstKind-F.Truth b) = []
numbers_step (AstKind-F.Name x) = []
numbers_step (AstKind-F.Index x i) = i
numbers_step (AstKind-F.Part m f) = []
numbers_step (AstKind-F.Not e) = e
numbers_step (AstKind-F.Neg e) = e
numbers_step (AstKind-F.Binary o a b) = a ++ b

-- the numbers that are written in an expression
abbrev pub numbers : AstExpr → List ℤ
numbers = fold-AstExpr (List ℤ) (List ℤ) numbers_step (λ e. e.kind)

-- ---- statements

-- what is written in a statement: an expression, or the targets of an assignment
pub data Piece : Type 0 where
  value : AstExpr → Piece
  targets : List AstTarget → Piece

abbrev pub index_pieces : Option AstExpr → List Piece
index_pieces None = []
index_pieces (Some i) = value i ∷ []

abbrev pub target_pieces : AstTarget → List Piece
target_pieces t = index_pieces t.index

abbrev pub pieces_step : AstStmt-F (List Piece) (List Piece) → List Piece
pieces_step AstStmt-F.Skip = []
pieces_step (AstStmt-F.Assign ts es) = targets ts ∷ (flat_map target_pieces ts ++ map value es)
pieces_step (AstStmt-F.Choose t) = target_pieces t
pieces_step (AstStmt-F.Send m es q) = map value es
pieces_step (AstStmt-F.Start t e) = value e ∷ []
pieces_step (AstStmt-F.Stop t) = []
pieces_step (AstStmt-F.If branches) = joined branches
pieces_step (AstStmt-F.Loop count place branches) = joined branches

abbrev pub branch_pieces_step : AstBranch-F (List Piece) (List Piece) → List Piece
branch_pieces_step b = value b.guard ∷ joined b.body

-- all that is written in a statement
abbrev pub pieces : AstStmt → List Piece
pieces = fold-AstStmt (List Piece) (List Piece) pieces_step branch_pieces_step

-- and in a branch
abbrev pub branch_pieces : AstBranch → List Piece
branch_pieces = fold-AstBranch (List Piece) (List Piece) pieces_step branch_pieces_step
