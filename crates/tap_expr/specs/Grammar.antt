-- The grammar of expressions: which tokens spell which tree, one constructor for each production.
use Rattle.std.specs.Prelude.{◌≡◌, List, [], ◌∷◌, Option, Some, None, true, false}
use Rattle.tap_base.specs.declared.place.Place.{Place}
use Rattle.tap_base.specs.declared.ast.AstExpr.{AstExpr}
use Rattle.tap_base.specs.declared.ast.AstKind.TheVariants as kind
use Rattle.tap_base.specs.declared.join.Join.{Join}
use Rattle.tap_base.specs.declared.join.Join.TheVariants.{Disjunction, Conjunction, Sum, Term}
use Rattle.tap_base.specs.declared.tree.Op.{Op}
use Rattle.tap_base.specs.declared.tree.Op.TheVariants as op
use Rattle.tap_base.specs.declared.token.Sign.{Sign}
use Rattle.tap_base.specs.declared.token.Sign.TheVariants as sign
use Rattle.tap_lexer.specs.Lexeme.{Lexeme}
use Rattle.tap_lexer.specs.Leaves.{node}

-- The levels of the grammar, from the loosest: chains by what joins them, and what stands between.
pub data Level : Type 0 where
  joined : Join → Level
  negation : Level
  relation : Level
  factor : Level
  atom : Level

-- a whole expression
abbrev pub expression : Level
expression = joined Disjunction

-- the level of the parts that a chain joins
abbrev pub part_of : Join → Level
part_of Disjunction = joined Conjunction
part_of Conjunction = negation
part_of Sum = joined Term
part_of Term = factor

-- the operation by which a sign joins the parts of a chain
abbrev pub joining : Join → Sign → Option Op
joining Disjunction sign.Or = Some op.Or
joining Conjunction sign.And = Some op.And
joining Sum sign.Plus = Some op.Add
joining Sum sign.Minus = Some op.Sub
joining Term sign.Star = Some op.Mul
joining Term sign.Div = Some op.Div
joining Term sign.Mod = Some op.Mod
joining _ _ = None

-- the comparison that a sign is
abbrev pub relating : Sign → Option Op
relating sign.Equal = Some op.Eq
relating sign.NotEqual = Some op.Ne
relating sign.Less = Some op.Lt
relating sign.LessEqual = Some op.Le
relating sign.Greater = Some op.Gt
relating sign.GreaterEqual = Some op.Ge
relating _ = None

-- the choice of the lesser or the greater that a word is
abbrev pub choosing : Sign → Option Op
choosing sign.Min = Some op.Min
choosing sign.Max = Some op.Max
choosing _ = None

abbrev pub binary : Op → AstExpr → AstExpr → Place → AstExpr
binary o a b p = node (kind.Binary o a b) p

mutual
  -- ReadsOver Leaf l e ts us: of the tokens ts, those before us spell e at the level l. An operation stands at
  -- its operator, and everything else at its first token; parentheses leave no node. What the leaves are is
  -- the grammar's own.
  pub data ReadsOver (Leaf : AstExpr → List Lexeme → List Lexeme → Type 0) : Level → AstExpr → List Lexeme → List Lexeme → Type 0 where
    -- expr = conj { "or" conj }, conj = neg { "and" neg }, sum = term { ( "+" | "-" ) term }, term = factor { ( "*" | "div" | "mod" ) factor }
    chain : {j : Join} {a e : AstExpr} {ts us ws : List Lexeme} → ReadsOver Leaf (part_of j) a ts us → GoesOver Leaf j a e us ws → ReadsOver Leaf (joined j) e ts ws
    -- neg = [ "not" ] rel
    plain : {e : AstExpr} {ts us : List Lexeme} → ReadsOver Leaf relation e ts us → ReadsOver Leaf negation e ts us
    denied : {e : AstExpr} {x : Lexeme} {ts us : List Lexeme} → x.sign ≡ sign.Not → ReadsOver Leaf relation e ts us → ReadsOver Leaf negation (node (kind.Not e) x.place) (x ∷ ts) us
    -- rel = sum [ ( "=" | "!=" | "<" | "<=" | ">" | ">=" ) sum ]
    single : {e : AstExpr} {ts us : List Lexeme} → ReadsOver Leaf (joined Sum) e ts us → ReadsOver Leaf relation e ts us
    related : {a b : AstExpr} {x : Lexeme} {o : Op} {ts us ws : List Lexeme} → ReadsOver Leaf (joined Sum) a ts (x ∷ us) → relating x.sign ≡ Some o → ReadsOver Leaf (joined Sum) b us ws → ReadsOver Leaf relation (binary o a b x.place) ts ws
    -- factor = [ "-" ] atom
    positive : {e : AstExpr} {ts us : List Lexeme} → ReadsOver Leaf atom e ts us → ReadsOver Leaf factor e ts us
    negative : {e : AstExpr} {x : Lexeme} {ts us : List Lexeme} → x.sign ≡ sign.Minus → ReadsOver Leaf atom e ts us → ReadsOver Leaf factor (node (kind.Neg e) x.place) (x ∷ ts) us
    -- atom = leaf
    leaf : {e : AstExpr} {ts us : List Lexeme} → Leaf e ts us → ReadsOver Leaf atom e ts us
    -- atom = name "[" expr "]"
    element : {x y z : Lexeme} {e : AstExpr} {ts us : List Lexeme} → x.sign ≡ sign.Name → y.sign ≡ sign.OpenIndex → ReadsOver Leaf expression e ts (z ∷ us) → z.sign ≡ sign.CloseIndex → ReadsOver Leaf atom (node (kind.Index x.text e) x.place) (x ∷ y ∷ ts) us
    -- atom = ( "min" | "max" ) "(" expr "," expr ")"
    chosen : {x y z w : Lexeme} {o : Op} {a b : AstExpr} {ts us ws : List Lexeme} → choosing x.sign ≡ Some o → y.sign ≡ sign.Open → ReadsOver Leaf expression a ts (z ∷ us) → z.sign ≡ sign.Comma → ReadsOver Leaf expression b us (w ∷ ws) → w.sign ≡ sign.Close → ReadsOver Leaf atom (binary o a b x.place) (x ∷ y ∷ ts) ws
    -- atom = "(" expr ")"
    group : {x z : Lexeme} {e : AstExpr} {ts us : List Lexeme} → x.sign ≡ sign.Open → ReadsOver Leaf expression e ts (z ∷ us) → z.sign ≡ sign.Close → ReadsOver Leaf atom e (x ∷ ts) us

  -- GoesOver Leaf j a e us ws: behind a, the tokens us before ws are signs and parts, which make e of it, grouped from the left.
  pub data GoesOver (Leaf : AstExpr → List Lexeme → List Lexeme → Type 0) : Join → AstExpr → AstExpr → List Lexeme → List Lexeme → Type 0 where
    done : {j : Join} {a : AstExpr} {ts : List Lexeme} → GoesOver Leaf j a a ts ts
    more : {j : Join} {x : Lexeme} {o : Op} {a b e : AstExpr} {ts us ws : List Lexeme} → joining j x.sign ≡ Some o → ReadsOver Leaf (part_of j) b ts us → GoesOver Leaf j (binary o a b x.place) e us ws → GoesOver Leaf j a e (x ∷ ts) ws

-- leaf = number | "true" | "false" | name | name "." name
pub data IsLeaf : AstExpr → List Lexeme → List Lexeme → Type 0 where
  number : {x : Lexeme} {ts : List Lexeme} → x.sign ≡ sign.Number → IsLeaf (node (kind.Number x.value) x.place) (x ∷ ts) ts
  truth : {x : Lexeme} {ts : List Lexeme} → x.sign ≡ sign.True → IsLeaf (node (kind.Truth true) x.place) (x ∷ ts) ts
  untruth : {x : Lexeme} {ts : List Lexeme} → x.sign ≡ sign.False → IsLeaf (node (kind.Truth false) x.place) (x ∷ ts) ts
  name : {x : Lexeme} {ts : List Lexeme} → x.sign ≡ sign.Name → IsLeaf (node (kind.Name x.text) x.place) (x ∷ ts) ts
  part : {x y z : Lexeme} {ts : List Lexeme} → x.sign ≡ sign.Name → y.sign ≡ sign.Dot → z.sign ≡ sign.Name → IsLeaf (node (kind.Part x.text z.text) x.place) (x ∷ y ∷ z ∷ ts) ts

-- the expressions of the language
abbrev pub Reads : Level → AstExpr → List Lexeme → List Lexeme → Type 0
Reads = ReadsOver IsLeaf

abbrev pub Goes : Join → AstExpr → AstExpr → List Lexeme → List Lexeme → Type 0
Goes = GoesOver IsLeaf

-- All the tokens spell the expression.
abbrev pub Spells : List Lexeme → AstExpr → Type 0
Spells ts e = Reads expression e ts []

-- Tokens spell at most one expression.
abbrev pub OneTree : Type 0
OneTree = (ts : List Lexeme) (d e : AstExpr) → Spells ts d → Spells ts e → d ≡ e
