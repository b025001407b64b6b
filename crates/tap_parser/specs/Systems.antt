-- The grammar of processes and of whole texts, and the limits that a text keeps: on its brackets and on each expression.
use Rattle.std.specs.Prelude.{◌≡◌, ℕ, ◌+◌, ◌<◌, ◌≤◌, List, [], ◌∷◌, ◌++◌, take, drop, length, Option, Some, None}
use Rattle.tap_base.specs.declared.ast.Ast.{Ast}
use Rattle.tap_base.specs.declared.ast.AstAction.{AstAction}
use Rattle.tap_base.specs.declared.ast.AstConst.{AstConst}
use Rattle.tap_base.specs.declared.ast.AstExpr.{AstExpr}
use Rattle.tap_base.specs.declared.ast.AstMessage.{AstMessage}
use Rattle.tap_base.specs.declared.ast.AstProcess.{AstProcess}
use Rattle.tap_base.specs.declared.ast.AstVar.{AstVar}
use Rattle.tap_base.specs.declared.ast.Ident.{Ident}
use Rattle.tap_base.specs.declared.refusal.Refusal.{Refusal}
use Rattle.tap_base.specs.declared.refusal.RefusalCode.TheVariants as code
use Rattle.tap_base.specs.declared.token.Sign.TheVariants as sign
use Rattle.tap_base.specs.declared.token.Token.{Token}
use Rattle.tap_lexer.specs.Depth.{IsTooDeep, IsShallow}
use Rattle.tap_lexer.specs.Lexeme.{Lexeme, lexemes}
use Rattle.tap_lexer.specs.Places.{place_at}
use Rattle.tap_lexer.specs.Leaves.{ident}
use Rattle.tap_lexer.specs.Rows.{SomeSeparated, Row, Rows}
use Rattle.tap_expr.specs.ExprText.{refusal}
use Rattle.tap_expr.specs.Grammar.{Reads, expression}
use Rattle.tap_expr.specs.Nodes.{nodes, most_nodes}
use Rattle.tap_parser.specs.Declarations.{Block, IsName, IsConst, IsInput, IsVar, IsMessage}
use Rattle.tap_parser.specs.Statements.{IsAction}

-- process = "process" name [ "const" .. ] [ "inp" .. ] [ "var" .. ] [ "timer" .. ] "begin" [ action { "[]" action } ] "end"
pub data IsProcess (E : AstExpr → List Lexeme → List Lexeme → Type 0) : AstProcess → List Lexeme → List Lexeme → Type 0 where
  declared : {x y z w : Lexeme} {consts : List AstConst} {inputs vars : List AstVar} {timers : List Ident} {actions : List AstAction} {ts t1 t2 t3 us ws : List Lexeme} → x.sign ≡ sign.Process → y.sign ≡ sign.Name
      → Block IsConst sign.Const sign.Semicolon consts ts t1 → Block IsInput sign.Inp sign.Semicolon inputs t1 t2 → Block IsVar sign.Var sign.Semicolon vars t2 t3 → Block IsName sign.Timer sign.Comma timers t3 (z ∷ us)
      → z.sign ≡ sign.Begin → SomeSeparated (IsAction E) sign.Box actions us (w ∷ ws) → w.sign ≡ sign.End
      → IsProcess E (record { name = ident y; consts = consts; inputs = inputs; vars = vars; timers = timers; actions = actions }) (x ∷ y ∷ ts) ws

-- system = { message } process { process }: all the tokens spell the tree
pub data SpellsOver (E : AstExpr → List Lexeme → List Lexeme → Type 0) (ts : List Lexeme) : Ast → Type 0 where
  system : {messages : List AstMessage} {processes : List AstProcess} {us : List Lexeme} → Rows IsMessage messages ts us → Row (IsProcess E) processes us [] → SpellsOver E ts (record { messages = messages; processes = processes })

abbrev pub SpellsText : List Lexeme → Ast → Type 0
SpellsText = SpellsOver (Reads expression)

-- The expressions of the language; or of these, those with few nodes among all that begin before the last n tokens.
abbrev pub Sized : Option ℕ → AstExpr → List Lexeme → List Lexeme → Type 0
Sized None e ts us = Reads expression e ts us
Sized (Some n) e ts us = Reads expression e ts us × (n < length ts → nodes e ≤ most_nodes)

-- The tokens spell the tree, and each of its expressions that begins before the token number k keeps the limit.
abbrev pub SpellsTo : ℕ → List Lexeme → Ast → Type 0
SpellsTo k xs tree = SpellsOver (Sized (Some (length (drop k xs)))) xs tree

-- The tokens are the tree, and keep both limits.
pub record IsTree (xs : List Lexeme) (tree : Ast) : Type 0 where
  pub shallow : IsShallow xs
  pub spelled : SpellsText xs tree
  pub small : SpellsTo (length xs) xs tree

-- The tokens spell no tree, and k is where this shows: at a token such that those up to and with it begin none, whatever stands behind them, or where
-- the tokens end.
pub record IsUntold (xs : List Lexeme) (k : ℕ) : Type 0 where
  -- a token, or the end
  pub within : k ≤ length xs
  pub none : (tree : Ast) → SpellsText xs tree → ⊥
  pub front : k < length xs → (us : List Lexeme) (tree : Ast) → SpellsText (take (k + 1) xs ++ us) tree → ⊥

-- An expression that begins at the token number k is the first that passes the limit: those before it keep it, and with it they don't.
pub record IsTooLarge (xs : List Lexeme) (k : ℕ) : Type 0 where
  pub tree : Ast
  pub spelled : SpellsText xs tree
  pub before : SpellsTo k xs tree
  pub there : (other : Ast) → SpellsTo (k + 1) xs other → ⊥

-- The first offence: S2 where a bracket is too deep; S1 where no tree is spelled; S3, at its first token, where an expression has too many nodes.
pub data TextOffence (text : List ℕ) (tokens : List Token) : Refusal → Type 0 where
  deep : {k : ℕ} → IsTooDeep (lexemes text tokens) k → TextOffence text tokens (refusal code.S2 (place_at tokens k))
  unspelled : {k : ℕ} → IsShallow (lexemes text tokens) → IsUntold (lexemes text tokens) k → TextOffence text tokens (refusal code.S1 (place_at tokens k))
  large : {k : ℕ} → IsShallow (lexemes text tokens) → IsTooLarge (lexemes text tokens) k → TextOffence text tokens (refusal code.S3 (place_at tokens k))

-- Tokens spell at most one tree.
abbrev pub OneText : Type 0
OneText = (ts : List Lexeme) (c d : Ast) → SpellsText ts c → SpellsText ts d → c ≡ d

-- Tokens that are a tree have no offence; those with an offence have one of one code, and but for S1 at one place.
abbrev pub OneTextEnd : Type 0
OneTextEnd = (text : List ℕ) (tokens : List Token) (r : Refusal) → TextOffence text tokens r
    → ((tree : Ast) → IsTree (lexemes text tokens) tree → ⊥)
    × ((s : Refusal) → TextOffence text tokens s → (r.code ≡ s.code) × ((r.code ≡ code.S1 → ⊥) → r ≡ s))

-- Where the place of S1 is a token, no tokens that agree up to and with it spell a tree.
abbrev pub OneTextFront : Type 0
OneTextFront = (xs ys : List Lexeme) (k : ℕ) → IsUntold xs k → k < length xs → take (k + 1) xs ≡ take (k + 1) ys → (tree : Ast) → SpellsText ys tree → ⊥
