-- The names that a tree declares are words, where a text is read as the tree.
use Rattle.std.proofs.Common.{ℕ, ℤ, List, [], ◌∷◌}
use Rattle.tap_base.specs.Lists.{Each}
use Rattle.tap_base.specs.LineWords.{IsWord}
use Rattle.tap_base.specs.declared.ast.Ast.{Ast}
use Rattle.tap_base.specs.declared.ast.AstConst.{AstConst}
use Rattle.tap_base.specs.declared.ast.AstField.{AstField}
use Rattle.tap_base.specs.declared.ast.AstMessage.{AstMessage}
use Rattle.tap_base.specs.declared.ast.AstProcess.{AstProcess}
use Rattle.tap_base.specs.declared.ast.AstScalar.{AstScalar}
use Rattle.tap_base.specs.declared.ast.AstType.{AstType}
use Rattle.tap_base.specs.declared.ast.AstVar.{AstVar}
use Rattle.tap_base.specs.declared.ast.Bound.{Bound}
use Rattle.tap_base.specs.declared.ast.Ident.{Ident}
use Rattle.tap_lexer.specs.Lexeme.{Lexeme, lexemes}
use Rattle.tap_expr.specs.Grammar.{Reads, expression}
use Rattle.tap_parser.specs.Declarations.{IsName, IsNumber, IsSigned, IsBound, IsScalar, IsType, IsConst, IsInput, IsVar, IsField, IsMessage, name, number, plain, negative, boolean, between, single, array, declared as declares}
use Rattle.tap_parser.specs.Statements.{IsAction}
use Rattle.tap_parser.specs.Systems.{IsProcess, SpellsText, declared, system}
use Rattle.tap_front.specs.Accepting.{IsReadAs}
use Rattle.tap_front.specs.inner.DeclaredNames.{AreWords, MessageWords, ProcessWords}
use Rattle.tap_front.proofs.LeftActions.{action_left}
use Rattle.tap_front.proofs.LeftExprs.{expr_left}
use Rattle.tap_front.proofs.LeftLists.{block, optional_left, row, rows, separated, some_left}
use Rattle.tap_front.proofs.TokenWords.{HasWord, token_words}

signed_left : {n : ℤ} {ts us : List Lexeme} → IsSigned n ts us → Each HasWord ts → Each HasWord us
signed_left (plain e) h = h.1
signed_left (negative e f) h = h.1.1

number_left : (n : ℤ) (ts us : List Lexeme) → IsNumber n ts us → Each HasWord ts → Each HasWord us
number_left n ts us (number e) h = h.1

bound_left : (b : Bound) (ts us : List Lexeme) → IsBound b ts us → Each HasWord ts → Each HasWord us
bound_left b ts us (number n) h = signed_left n h
bound_left b ts us (name e) h = h.1

scalar_left : {s : AstScalar} {ts us : List Lexeme} → IsScalar s ts us → Each HasWord ts → Each HasWord us
scalar_left (boolean e) h = h.1
scalar_left (between {lo} {hi} {x} {ts} {us} {ws} l e r) h = bound_left hi us ws r (bound_left lo ts (x ∷ us) l h).1

type_left : {k : AstType} {ts us : List Lexeme} → IsType k ts us → Each HasWord ts → Each HasWord us
type_left (single s) h = scalar_left s h
type_left (array e f g s) h = scalar_left s h.1.1.1

timer_word : (t : Ident) (ts us : List Lexeme) → IsName t ts us → Each HasWord ts → IsWord t.text × Each HasWord us
timer_word t ts us (name e) h = (h.0, h.1)

const_word : (c : AstConst) (ts us : List Lexeme) → IsConst c ts us → Each HasWord ts → IsWord c.name.text × Each HasWord us
const_word c ts us (declares e f n) h = (h.0, signed_left n h.1.1)

input_word : (v : AstVar) (ts us : List Lexeme) → IsInput v ts us → Each HasWord ts → IsWord v.name.text × Each HasWord us
input_word v ts us (declares e f s) h = (h.0, scalar_left s h.1.1)

var_word : (v : AstVar) (ts us : List Lexeme) → IsVar v ts us → Each HasWord ts → IsWord v.name.text × Each HasWord us
var_word v ts us (declares e f k b) h = (h.0, optional_left HasWord IsBound bound_left b (type_left k h.1.1))

field_word : (d : AstField) (ts us : List Lexeme) → IsField d ts us → Each HasWord ts → IsWord d.name.text × Each HasWord us
field_word d ts us (declares e f g i n) h = (h.0, optional_left HasWord IsNumber number_left n h.1.1.1.1)

message_words : (m : AstMessage) (ts us : List Lexeme) → IsMessage m ts us → Each HasWord ts → MessageWords m × Each HasWord us
message_words m ts us (declares e f g fields i) h =
    let d = separated HasWord (λ d. IsWord d.name.text) IsField field_word fields h.1.1.1 in
    (record { name = h.1.0; fields = d.0 }, d.1.1)

process_words : (p : AstProcess) (ts us : List Lexeme) → IsProcess (Reads expression) p ts us → Each HasWord ts → ProcessWords p × Each HasWord us
process_words p ts us (declared e f consts inputs vars timers g actions i) h =
    let c = block HasWord (λ c. IsWord c.name.text) IsConst const_word consts h.1.1 in
    let d = block HasWord (λ v. IsWord v.name.text) IsInput input_word inputs c.1 in
    let v = block HasWord (λ v. IsWord v.name.text) IsVar var_word vars d.1 in
    let t = block HasWord (λ t. IsWord t.text) IsName timer_word timers v.1 in
    let a = some_left HasWord (IsAction (Reads expression)) (action_left HasWord (Reads expression) (expr_left HasWord)) actions t.1.1 in
    (record { name = h.1.0; consts = c.0; inputs = d.0; vars = v.0; timers = t.0 }, a.1)

tree_words : (ts : List Lexeme) (tree : Ast) → SpellsText ts tree → Each HasWord ts → AreWords tree
tree_words ts tree (system messages processes) h =
    let m = rows HasWord MessageWords IsMessage message_words messages h in
    let p = row HasWord ProcessWords (IsProcess (Reads expression)) process_words processes m.1 in
    record { messages = m.0; processes = p.0 }

pub are_words : (text : List ℕ) (tree : Ast) → IsReadAs text tree → AreWords tree
are_words text tree r = tree_words (lexemes text r.tokens) tree r.parsed.spelled (token_words text r.tokens r.lexed)

process_names : (ps : List AstProcess) → Each ProcessWords ps → Each (λ p. IsWord p.name.text) ps
process_names [] h = tt
process_names (p ∷ ps) h = (h.0.name, process_names ps h.1)

pub names_are_words : (text : List ℕ) (tree : Ast) → IsReadAs text tree → Each (λ p. IsWord p.name.text) tree.processes
names_are_words text tree r = process_names tree.processes (are_words text tree r).processes
