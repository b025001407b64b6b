-- Processes, messages, systems, and whole texts.
use Rattle.std.proofs.Common.{◌≡◌, ℕ, refl, List, [], ◌∷◌, Option, Result, Ok, drop}
use Rattle.tap_base.specs.declared.ast.Ast.{Ast}
use Rattle.tap_base.specs.declared.ast.AstAction.{AstAction}
use Rattle.tap_base.specs.declared.ast.AstConst.{AstConst}
use Rattle.tap_base.specs.declared.ast.AstMessage.{AstMessage}
use Rattle.tap_base.specs.declared.ast.AstProcess.{AstProcess}
use Rattle.tap_base.specs.declared.ast.AstVar.{AstVar}
use Rattle.tap_base.specs.declared.ast.Ident.{Ident}
use Rattle.tap_base.specs.declared.token.Sign.{Sign}
use Rattle.tap_base.specs.declared.token.Sign.TheVariants as sign
use Rattle.tap_lexer.specs.Lexeme.{Lexeme}
use Rattle.tap_lexer.specs.Leaves.{ident}
use Rattle.tap_lexer.specs.Rows.{SomeSeparated, Row, Rows, none, more, last}
use Rattle.tap_lexer.specs.declared.found.Found.{Found}
use Rattle.tap_lexer.specs.inner.Reading.{Shows}
use Rattle.tap_lexer.specs.inner.Reading.{Lacks, Free, Closed, closed}
use Rattle.tap_expr.specs.declared.found.Stuck.{Stuck}
use Rattle.tap_parser.specs.Declarations.{Block, absent, present, IsName, name, IsConst, IsInput, IsVar, IsMessage}
use Rattle.tap_parser.specs.Statements.{IsAction}
use Rattle.tap_parser.specs.Systems.{IsProcess, declared, Sized}
use Rattle.tap_parser.specs.declared.kept.Kept.{Kept}
use Rattle.tap_parser.specs.declared.kept.Kept.TheVariants.{Whole, Large}
use Rattle.tap_parser.specs.inner.Keeping.{both, mapped}
use Rattle.tap_parser.specs.inner.Forms.{Begins, Declared, AreDeclared, parts, AreSystem, system}
use Rattle.tap_parser.specs.inner.Reading.{Answers}
use Rattle.tap_parser.proofs.TextParts.{Form, Follow, Both, renamed, After, after, anywhere, begins_here, lacks_here, renamed_answers, empty_answers, begun}
use Rattle.tap_parser.proofs.TextBounds.{Name}
use Rattle.tap_parser.proofs.TextDeclared.{message_begins}

-- ---- the parts of a process

abbrev pub ConstBlock : Form (List AstConst)
ConstBlock n = Block IsConst sign.Const sign.Semicolon

abbrev pub InputBlock : Form (List AstVar)
InputBlock n = Block IsInput sign.Inp sign.Semicolon

abbrev pub VarBlock : Form (List AstVar)
VarBlock n = Block IsVar sign.Var sign.Semicolon

abbrev pub TimerBlock : Form (List Ident)
TimerBlock n = Block IsName sign.Timer sign.Comma

abbrev pub ActionList : Form (List AstAction)
ActionList n = Closed (SomeSeparated (IsAction (Sized n)) sign.Box) sign.End

abbrev pub FromBegin : Form (List AstAction)
FromBegin n = After sign.Begin (ActionList n)

abbrev pub FromTimers : Form (List Ident × List AstAction)
FromTimers = Both TimerBlock FromBegin

abbrev pub FromVars : Form (List AstVar × (List Ident × List AstAction))
FromVars = Both VarBlock FromTimers

abbrev pub FromInputs : Form (List AstVar × (List AstVar × (List Ident × List AstAction)))
FromInputs = Both InputBlock FromVars

abbrev pub FromConsts : Form Declared
FromConsts = Both ConstBlock FromInputs

abbrev pub ConstStops : Follow
ConstStops us = (Free us × Lacks sign.Semicolon us) × Lacks sign.Const us

abbrev pub InputStops : Follow
InputStops us = (Free us × Lacks sign.Semicolon us) × Lacks sign.Inp us

abbrev pub VarStops : Follow
VarStops us = (Lacks sign.Equal us × Lacks sign.Semicolon us) × Lacks sign.Var us

abbrev pub TimerStops : Follow
TimerStops us = (Free us × Lacks sign.Comma us) × Lacks sign.Timer us

-- a block, or what stands behind it, is first
block_first : {A : Type 0} (Item : A → List Lexeme → List Lexeme → Type 0) (word s : Sign) (l : List A) (ts us : List Lexeme) (S : Follow) → Block Item word s l ts us → ((x : Lexeme) (k : List Lexeme) → x.sign ≡ word → S (x ∷ k)) → S us → S ts
block_first Item word s l ts us S absent h g = g
block_first Item word s l ts us S (present {x} {ts = ks} e i) h g = h x ks e

pub timers_lead : (n : Option ℕ) (b : List AstAction) (us ws : List Lexeme) → FromBegin n b us ws → Free ws → TimerStops us
timers_lead n b us ws (after e i) s = ((tt, λ f. absurd cc), λ f. absurd cc)

pub vars_lead : (n : Option ℕ) (b : List Ident × List AstAction) (us ws : List Lexeme) → FromTimers n b us ws → Free ws → VarStops us
vars_lead n b us ws (ks, t, after e i) s = block_first IsName sign.Timer sign.Comma b.0 us ks VarStops t (λ x k f. ((λ g. absurd cc, λ g. absurd cc), λ g. absurd cc)) ((λ g. absurd cc, λ g. absurd cc), λ g. absurd cc)

pub inputs_lead : (n : Option ℕ) (b : List AstVar × (List Ident × List AstAction)) (us ws : List Lexeme) → FromVars n b us ws → Free ws → InputStops us
inputs_lead n b us ws (js, v, (ks, t, after e i)) s = block_first IsVar sign.Var sign.Semicolon b.0 us js InputStops v (λ x k f. ((tt, λ g. absurd cc), λ g. absurd cc)) (block_first IsName sign.Timer sign.Comma b.1.0 js ks InputStops t (λ x k f. ((tt, λ g. absurd cc), λ g. absurd cc)) ((tt, λ g. absurd cc), λ g. absurd cc))

pub consts_lead : (n : Option ℕ) (b : List AstVar × (List AstVar × (List Ident × List AstAction))) (us ws : List Lexeme) → FromInputs n b us ws → Free ws → ConstStops us
consts_lead n b us ws (hs, p, (js, v, (ks, t, after e i))) s = block_first IsInput sign.Inp sign.Semicolon b.0 us hs ConstStops p (λ x k f. ((tt, λ g. absurd cc), λ g. absurd cc)) (block_first IsVar sign.Var sign.Semicolon b.1.0 hs js ConstStops v (λ x k f. ((tt, λ g. absurd cc), λ g. absurd cc)) (block_first IsName sign.Timer sign.Comma b.1.1.0 js ks ConstStops t (λ x k f. ((tt, λ g. absurd cc), λ g. absurd cc)) ((tt, λ g. absurd cc), λ g. absurd cc)))

abbrev pub Parts : Form Declared
Parts n = AreDeclared (Sized n)

roll_parts : (n : Option ℕ) (v : Declared) (ts us : List Lexeme) → FromConsts n v ts us → AreDeclared (Sized n) v ts us
roll_parts n v ts us (hs, c, (js, p, (ks, w, (ls, t, after e a)))) = parts c p w t e a

pub unroll_parts : (n : Option ℕ) (b : Declared) (ts us : List Lexeme) → AreDeclared (Sized n) b ts us → (v : Declared) × FromConsts n v ts us × (b ≡ v)
unroll_parts n b ts us (parts {z} {t1} {t2} {t3} {us = ks} c p w t e a) = (b, (t1, c, (t2, p, (t3, w, (z ∷ ks, t, after e a)))), refl)

pub parts_answers : (xs : List Lexeme) (at : ℕ) (r : Result (Found (Kept Declared)) Stuck) → Answers FromConsts Free xs at r → Answers Parts Free xs at (renamed (λ v. v) r)
parts_answers xs at r h = renamed_answers FromConsts Parts Free Free (λ v. v) Free (λ n a ts us q p. roll_parts n a ts us p) (λ n b ts us q p s. unroll_parts n b ts us p) (λ us s. s) xs at r (anywhere xs at) h

-- ---- processes

abbrev pub Processes : Form AstProcess
Processes n = IsProcess (Sized n)

abbrev pub NamedParts : Form (Ident × Declared)
NamedParts n = After sign.Process (Both Name Parts n)

abbrev pub process_of : Ident × Declared → AstProcess
process_of v = record { name = v.0; consts = v.1.0; inputs = v.1.1.0; vars = v.1.1.1.0; timers = v.1.1.1.1.0; actions = v.1.1.1.1.1 }

roll_process : (n : Option ℕ) (v : Ident × Declared) (ts us : List Lexeme) → NamedParts n v ts us → IsProcess (Sized n) (process_of v) ts us
roll_process n v ts us (after e (ks, name f, parts c p w t g (closed a h))) = declared e f c p w t g a h

pub unroll_process : (n : Option ℕ) (b : AstProcess) (ts us : List Lexeme) → IsProcess (Sized n) b ts us → (v : Ident × Declared) × NamedParts n v ts us × (b ≡ process_of v)
unroll_process n b ts us (declared {y} {consts} {inputs} {vars} {timers} {actions} {ts = ks} e f c p w t g a h) = ((ident y, (consts, (inputs, (vars, (timers, actions))))), after e (ks, name f, parts c p w t g (closed a h)), refl)

pub process_answers : (xs : List Lexeme) (at : ℕ) (r : Result (Found (Kept (Ident × Declared))) Stuck) → Answers NamedParts Free xs at r → Answers Processes Free xs at (renamed process_of r)
process_answers xs at r h = renamed_answers NamedParts Processes Free Free process_of Free (λ n a ts us q p. roll_process n a ts us p) (λ n b ts us q p s. unroll_process n b ts us p) (λ us s. s) xs at r (anywhere xs at) h

pub process_value : (m : Ident) (k : Kept Declared) → mapped (λ d. record { name = m; consts = d.0; inputs = d.1.0; vars = d.1.1.0; timers = d.1.1.1.0; actions = d.1.1.1.1 }) k ≡ mapped process_of (both (λ a b. (a, b)) (Whole m) k)
process_value m (Whole d) = refl
process_value m (Large j) = refl

pub process_begins : (n : Option ℕ) (b : AstProcess) (ts us : List Lexeme) → IsProcess (Sized n) b ts us → Begins sign.Process ts
process_begins n b ts us (declared e f c p w t g a h) = e

pub process_longer : (n : Option ℕ) (b : AstProcess) (x : Lexeme) (us : List Lexeme) → IsProcess (Sized n) b (x ∷ []) us → ⊥
process_longer n b x us i = elim i [ ]

-- ---- messages

abbrev pub MessageRows : Form (List AstMessage)
MessageRows n = Rows IsMessage

abbrev pub MessageRow : Form (List AstMessage)
MessageRow n = Row IsMessage

roll_rows : (l : List AstMessage) (ts us : List Lexeme) → Row IsMessage l ts us → Rows IsMessage l ts us
roll_rows l ts us (last i) = more i none
roll_rows l ts us (more {as_ = k} {us = ks} i r) = more i (roll_rows k ks us r)

rows_row : (a : AstMessage) (k : List AstMessage) (ts ks us : List Lexeme) → IsMessage a ts ks → Rows IsMessage k ks us → Row IsMessage (a ∷ k) ts us
rows_row a k ts ks us i none = last i
rows_row a k ts ks us i (more {a = b} {as_ = l} {us = ms} j r) = more i (rows_row b l ks ms us j r)

pub unroll_rows : (l : List AstMessage) (ts us : List Lexeme) → Begins sign.Message ts → Rows IsMessage l ts us → Lacks sign.Message us → (v : List AstMessage) × Row IsMessage v ts us × (l ≡ v)
unroll_rows l ts us q none k = absurd (begun sign.Message ts q k)
unroll_rows l ts us q (more {a} {as_ = m} {us = ks} i r) k = (l, rows_row a m ts ks us i r, refl)

no_rows : (l : List AstMessage) (ts us : List Lexeme) → Lacks sign.Message ts → Rows IsMessage l ts us → (l ≡ []) × (us ≡ ts)
no_rows l ts us q none = (refl, refl)
no_rows l ts us q (more {a} {us = ks} i r) = absurd (begun sign.Message ts (message_begins a ts ks i) q)

pub rows_answers : (xs : List Lexeme) (at : ℕ) (r : Result (Found (Kept (List AstMessage))) Stuck) → Shows sign.Message xs at → Answers MessageRow (Lacks sign.Message) xs at r → Answers MessageRows (Lacks sign.Message) xs at (renamed (λ l. l) r)
rows_answers xs at r x h = renamed_answers MessageRow MessageRows (Lacks sign.Message) (Lacks sign.Message) (λ l. l) (Begins sign.Message) (λ n a ts us q p. roll_rows a ts us p) (λ n b ts us q p k. unroll_rows b ts us q p k) (λ us k. k) xs at r (begins_here xs at sign.Message x) h

pub no_rows_answers : (xs : List Lexeme) (at : ℕ) → Lacks sign.Message (drop at xs) → Answers MessageRows (Lacks sign.Message) xs at (Ok (record { value = Whole []; next = at }))
no_rows_answers xs at l = empty_answers MessageRows (Lacks sign.Message) (Lacks sign.Message) xs at [] (lacks_here xs at sign.Message l) (λ n ts q. none) (λ n b ts us q p k. no_rows b ts us q p)

-- ---- systems

abbrev pub ProcessRow : Form (List AstProcess)
ProcessRow n = Row (IsProcess (Sized n))

abbrev pub Systems : Form Ast
Systems n = AreSystem (Sized n)

abbrev pub system_of : List AstMessage × List AstProcess → Ast
system_of v = record { messages = v.0; processes = v.1 }

process_first : (ts : List Lexeme) → Begins sign.Process ts → Lacks sign.Message ts
process_first [] e = absurd e
process_first (x ∷ us) e = λ f. absurd cc

pub messages_lead : (n : Option ℕ) (b : List AstProcess) (us ws : List Lexeme) → ProcessRow n b us ws → Lacks sign.Process ws → Lacks sign.Message us
messages_lead n b us ws (last {a} i) s = process_first us (process_begins n a us ws i)
messages_lead n b us ws (more {a} {us = ks} i r) s = process_first us (process_begins n a us ks i)

roll_system : (n : Option ℕ) (v : List AstMessage × List AstProcess) (ts us : List Lexeme) → Both MessageRows ProcessRow n v ts us → AreSystem (Sized n) (system_of v) ts us
roll_system n v ts us (ks, m, p) = system m p

pub unroll_system : (n : Option ℕ) (b : Ast) (ts us : List Lexeme) → AreSystem (Sized n) b ts us → (v : List AstMessage × List AstProcess) × Both MessageRows ProcessRow n v ts us × (b ≡ system_of v)
unroll_system n b ts us (system {messages} {processes} {us = ks} m p) = ((messages, processes), (ks, m, p), refl)

pub system_answers : (xs : List Lexeme) (at : ℕ) (r : Result (Found (Kept (List AstMessage × List AstProcess))) Stuck) → Answers (Both MessageRows ProcessRow) (Lacks sign.Process) xs at r → Answers Systems (Lacks sign.Process) xs at (renamed system_of r)
system_answers xs at r h = renamed_answers (Both MessageRows ProcessRow) Systems (Lacks sign.Process) (Lacks sign.Process) system_of Free (λ n a ts us q p. roll_system n a ts us p) (λ n b ts us q p s. unroll_system n b ts us p) (λ us s. s) xs at r (anywhere xs at) h

pub tree_value : (m : Kept (List AstMessage)) (p : Kept (List AstProcess)) → both (λ a b. record { messages = a; processes = b }) m p ≡ mapped system_of (both (λ a b. (a, b)) m p)
tree_value (Whole a) (Whole b) = refl
tree_value (Whole a) (Large j) = refl
tree_value (Large i) p = refl
