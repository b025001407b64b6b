-- From what is kept of the parts of an expression to what is kept of the whole.
use Rattle.std.specs.Prelude.{◌≡◌, ℕ, ◌+◌, ◌<◌, ◌≤◌, Option, Some, None}
use Rattle.tap_base.specs.declared.ast.AstExpr.{AstExpr}
use Rattle.tap_expr.specs.Nodes.{nodes, most_nodes}
use Rattle.tap_expr.specs.declared.found.Built.{Built}
use Rattle.tap_expr.specs.inner.ExprReading.{IsBuilt}

-- of a part alone, from it and one node more
abbrev pub Grows : Built → Option (AstExpr × ℕ) → Type 0
Grows inner None = (c : AstExpr) → IsBuilt c inner → most_nodes < 1 + nodes c
Grows inner (Some (e, n)) = (c : AstExpr) → IsBuilt c inner → (e ≡ c) × (n ≡ 1 + nodes c) × (n ≤ most_nodes)

-- of two parts, from them and one node more
abbrev pub Meets : Built → Built → Option (AstExpr × AstExpr × ℕ) → Type 0
Meets left right None = (c d : AstExpr) → IsBuilt c left → IsBuilt d right → most_nodes < 1 + (nodes c + nodes d)
Meets left right (Some (e, f, n)) = (c d : AstExpr) → IsBuilt c left → IsBuilt d right → (e ≡ c) × (f ≡ d) × (n ≡ 1 + (nodes c + nodes d)) × (n ≤ most_nodes)

-- the whole that is made of one part
abbrev pub OfOne : (AstExpr → AstExpr) → Built → Built → Type 0
OfOne make inner b = (c : AstExpr) → IsBuilt c inner → IsBuilt (make c) b

-- the whole that is made of two parts
abbrev pub OfTwo : (AstExpr → AstExpr → AstExpr) → Built → Built → Built → Type 0
OfTwo make left right b = (c d : AstExpr) → IsBuilt c left → IsBuilt d right → IsBuilt (make c d) b
