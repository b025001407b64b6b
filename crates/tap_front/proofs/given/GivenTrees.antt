-- The trees of texts have what no offence judges.
use Rattle.std.proofs.Common.{◌≤◌, ℕ, List, ◌∷◌, length, arith}
use Rattle.tap_base.specs.declared.ast.Ast.{Ast}
use Rattle.tap_base.specs.declared.ast.AstProcess.{AstProcess}
use Rattle.tap_base.specs.declared.token.Sign.TheVariants as sign
use Rattle.tap_base.specs.declared.token.Token.{Token}
use Rattle.tap_base.specs.Lists.{Each}
use Rattle.tap_lexer.specs.Lexeme.{Lexeme, lexemes}
use Rattle.tap_lexer.specs.Rows.{Row, last, more}
use Rattle.tap_lexer.specs.Tokens.{SpellsTokens}
use Rattle.tap_expr.specs.Grammar.{Reads, expression}
use Rattle.tap_parser.specs.Declarations.{IsConst, IsInput, IsName, IsVar}
use Rattle.tap_parser.specs.Statements.{IsAction}
use Rattle.tap_parser.specs.Systems.{IsProcess, IsTree, SpellsText, declared, system}
use Rattle.tap_types.specs.Given.{ActionIsGiven, HasParts, IsFit, ProcessIsGiven}
use Rattle.tap_front.proofs.given.FitDeclarations.{block_fit, const_fit, input_passes, messages_pass, name_passes, var_passes}
use Rattle.tap_front.proofs.given.FitExprs.{Gives, some_separated_fit}
use Rattle.tap_front.proofs.given.FitStmts.{action_fit}
use Rattle.tap_front.proofs.given.FitTokens.{Fit, lexemes_fit}

process_fit : Gives (IsProcess (Reads expression)) ProcessIsGiven
process_fit p ts us (declared {w} {consts} {inputs} {vars} {timers} {actions} {ts = vs} {t1} {t2} {t3} {us = ks} e g c i v t b a k) h =
    let f1 = block_fit IsConst (λ c. IsFit c.value) sign.Const sign.Semicolon const_fit consts vs t1 c h.1.1 in
    let f2 = block_fit IsInput (λ v. Unit {0}) sign.Inp sign.Semicolon input_passes inputs t1 t2 i f1.1 in
    let f3 = block_fit IsVar (λ v. Unit {0}) sign.Var sign.Semicolon var_passes vars t2 t3 v f2.1 in
    let f4 = block_fit IsName (λ x. Unit {0}) sign.Timer sign.Comma name_passes timers t3 _ t f3.1 in
    let f5 = some_separated_fit (IsAction (Reads expression)) ActionIsGiven action_fit sign.Box actions ks (w ∷ us) a f4.1.1 in
    ((f1.0, f5.0), f5.1.1)

processes_fit : {ps : List AstProcess} {ts us : List Lexeme} → Row (IsProcess (Reads expression)) ps ts us → Fit ts → (1 ≤ length ps) × Each ProcessIsGiven ps
processes_fit (last {a} {ts} {us} i) h = let f = process_fit a ts us i h in (omega arith, (f.0, tt))
processes_fit (more {a} {ts} {us} i r) h = let f = process_fit a ts us i h in let g = processes_fit r f.1 in (omega arith, (f.0, g.1))

text_fits : (ts : List Lexeme) (tree : Ast) → SpellsText ts tree → Fit ts → HasParts tree
text_fits ts tree (system ms ps) h = let g = processes_fit ps (messages_pass ms h) in record { some_process = g.0; processes = g.1 }

pub texts_have_parts : (text : List ℕ) (tokens : List Token) (tree : Ast) → SpellsTokens text tokens → IsTree (lexemes text tokens) tree → HasParts tree
texts_have_parts text tokens tree l t = text_fits (lexemes text tokens) tree t.spelled (lexemes_fit text tokens l)
