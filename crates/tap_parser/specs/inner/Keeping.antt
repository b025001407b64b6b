-- What is kept of forms that stand one behind the other.
use Rattle.std.specs.Prelude.{ℕ, List, [], ◌∷◌, ◌++◌}
use Rattle.tap_base.specs.declared.ast.AstExpr.{AstExpr}
use Rattle.tap_expr.specs.declared.found.Built.{Built}
use Rattle.tap_expr.specs.declared.found.Built.TheVariants as built
use Rattle.tap_parser.specs.declared.kept.Kept.{Kept}
use Rattle.tap_parser.specs.declared.kept.Kept.TheVariants.{Whole, Large}

-- the first that is too large, or both
abbrev pub both : {A B C : Type 0} → (A → B → C) → Kept A → Kept B → Kept C
both f (Whole a) (Whole b) = Whole (f a b)
both f (Whole a) (Large k) = Large k
both f (Large k) other = Large k

abbrev pub mapped : {A B : Type 0} → (A → B) → Kept A → Kept B
mapped f (Whole a) = Whole (f a)
mapped f (Large k) = Large k

abbrev pub listed : {A : Type 0} → Kept A → Kept (List A)
listed kept = mapped (λ a. a ∷ []) kept

abbrev pub appended : {A : Type 0} → Kept (List A) → Kept A → Kept (List A)
appended items item = both (λ as_ a. as_ ++ a ∷ []) items item

-- what is kept of an expression that begins at a place
abbrev pub kept_of : Built → ℕ → Kept AstExpr
kept_of (built.Whole e n) at = Whole e
kept_of built.Large at = Large at
