-- A fact of each token stays one of those that an expression leaves.
use Rattle.std.proofs.Common.{List}
use Rattle.tap_base.specs.Lists.{Each}
use Rattle.tap_base.specs.declared.ast.AstExpr.{AstExpr}
use Rattle.tap_base.specs.declared.join.Join.{Join}
use Rattle.tap_lexer.specs.Lexeme.{Lexeme}
use Rattle.tap_expr.specs.Grammar.{Level, Reads, Goes, IsLeaf, expression, done, more, chain, plain, denied, single, related, positive, negative, leaf, number, truth, untruth, name, element, part, chosen, group}

module _ (P : Lexeme → Type 0) where
  leaf_left : {e : AstExpr} {ts us : List Lexeme} → IsLeaf e ts us → Each P ts → Each P us
  leaf_left (number i) h = h.1
  leaf_left (truth i) h = h.1
  leaf_left (untruth i) h = h.1
  leaf_left (name i) h = h.1
  leaf_left (part i o c) h = h.1.1.1

  mutual
    level_left : {l : Level} {e : AstExpr} {ts us : List Lexeme} → Reads l e ts us → Each P ts → Each P us
    level_left (chain r g) h = goes_left g (level_left r h)
    level_left (plain r) h = level_left r h
    level_left (denied i r) h = level_left r h.1
    level_left (single r) h = level_left r h
    level_left (related r i q) h = level_left q (level_left r h).1
    level_left (positive r) h = level_left r h
    level_left (negative i r) h = level_left r h.1
    level_left (leaf i) h = leaf_left i h
    level_left (element i o r c) h = (level_left r h.1.1).1
    level_left (chosen i p r c q d) h = (level_left q (level_left r h.1.1).1).1
    level_left (group i r c) h = (level_left r h.1).1

    goes_left : {j : Join} {a e : AstExpr} {ts us : List Lexeme} → Goes j a e ts us → Each P ts → Each P us
    goes_left done h = h
    goes_left (more i r g) h = goes_left g (level_left r h.1)

  pub expr_left : (e : AstExpr) (ts us : List Lexeme) → Reads expression e ts us → Each P ts → Each P us
  expr_left e ts us r h = level_left r h
