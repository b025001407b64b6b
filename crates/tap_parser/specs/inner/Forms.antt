-- Forms of the language as its readers take them, and what can't carry them on.
use Rattle.std.specs.Prelude.{◌≡◌, List, [], ◌∷◌}
use Rattle.tap_base.specs.declared.ast.Ast.{Ast}
use Rattle.tap_base.specs.declared.ast.AstAction.{AstAction}
use Rattle.tap_base.specs.declared.ast.AstConst.{AstConst}
use Rattle.tap_base.specs.declared.ast.AstExpr.{AstExpr}
use Rattle.tap_base.specs.declared.ast.AstMessage.{AstMessage}
use Rattle.tap_base.specs.declared.ast.AstProcess.{AstProcess}
use Rattle.tap_base.specs.declared.ast.AstVar.{AstVar}
use Rattle.tap_base.specs.declared.ast.Ident.{Ident}
use Rattle.tap_base.specs.declared.token.Sign.{Sign}
use Rattle.tap_base.specs.declared.token.Sign.TheVariants as sign
use Rattle.tap_lexer.specs.Lexeme.{Lexeme}
use Rattle.tap_lexer.specs.Rows.{SomeSeparated, Row, Rows}
use Rattle.tap_lexer.specs.inner.Reading.{Lacks, Closed}
use Rattle.tap_expr.specs.Grammar.{expression}
use Rattle.tap_expr.specs.inner.ExprReading.{Stops}
use Rattle.tap_parser.specs.Declarations.{Block, IsName, IsConst, IsInput, IsVar, IsMessage}
use Rattle.tap_parser.specs.Statements.{IsAction}
use Rattle.tap_parser.specs.Systems.{IsProcess}
use Rattle.tap_parser.specs.declared.leaves.Numeral.{Numeral}

-- a token with the sign stands first
abbrev pub Begins : Sign → List Lexeme → Type 0
Begins s [] = ⊥
Begins s (x ∷ us) = x.sign ≡ s

-- a number with its place
pub data IsNumeral : Numeral → List Lexeme → List Lexeme → Type 0 where
  numeral : {x : Lexeme} {ts : List Lexeme} → x.sign ≡ sign.Number → IsNumeral (record { value = x.value; place = x.place }) (x ∷ ts) ts

-- neither what carries an expression on, nor a further expression of a list
abbrev pub StmtStops : List Lexeme → Type 0
StmtStops us = Stops expression us × Lacks sign.Comma us

-- nor a further statement
abbrev pub BodyStops : List Lexeme → Type 0
BodyStops us = StmtStops us × Lacks sign.Semicolon us

-- nor a further branch
abbrev pub BranchesStop : List Lexeme → Type 0
BranchesStop us = BodyStops us × Lacks sign.Box us

-- what a process declares, with its actions
abbrev pub Declared : Type 0
Declared = List AstConst × (List AstVar × (List AstVar × (List Ident × List AstAction)))

-- the parts of a process behind its name
pub data AreDeclared (E : AstExpr → List Lexeme → List Lexeme → Type 0) : Declared → List Lexeme → List Lexeme → Type 0 where
  parts : {z : Lexeme} {consts : List AstConst} {inputs vars : List AstVar} {timers : List Ident} {actions : List AstAction} {ts t1 t2 t3 us ws : List Lexeme}
      → Block IsConst sign.Const sign.Semicolon consts ts t1 → Block IsInput sign.Inp sign.Semicolon inputs t1 t2 → Block IsVar sign.Var sign.Semicolon vars t2 t3 → Block IsName sign.Timer sign.Comma timers t3 (z ∷ us)
      → z.sign ≡ sign.Begin → Closed (SomeSeparated (IsAction E) sign.Box) sign.End actions us ws → AreDeclared E (consts, (inputs, (vars, (timers, actions)))) ts ws

-- messages and processes
pub data AreSystem (E : AstExpr → List Lexeme → List Lexeme → Type 0) : Ast → List Lexeme → List Lexeme → Type 0 where
  system : {messages : List AstMessage} {processes : List AstProcess} {ts us ws : List Lexeme} → Rows IsMessage messages ts us → Row (IsProcess E) processes us ws → AreSystem E (record { messages = messages; processes = processes }) ts ws
