-- What is printed of processes and of whole trees is read as they are, places aside.
use Rattle.std.proofs.Common.{◌≡◌, ◌∙◌, ap, ℕ, List, [], ◌∷◌, ◌++◌, map, flat_map}
use Rattle.tap_base.specs.declared.ast.Ast.{Ast}
use Rattle.tap_base.specs.declared.ast.AstAction.{AstAction}
use Rattle.tap_base.specs.declared.ast.AstConst.{AstConst}
use Rattle.tap_base.specs.declared.ast.AstExpr.{AstExpr}
use Rattle.tap_base.specs.declared.ast.AstMessage.{AstMessage}
use Rattle.tap_base.specs.declared.ast.AstProcess.{AstProcess}
use Rattle.tap_base.specs.declared.ast.AstVar.{AstVar}
use Rattle.tap_base.specs.declared.ast.Ident.{Ident}
use Rattle.tap_base.specs.declared.token.Sign.TheVariants as sign
use Rattle.tap_lexer.specs.Lexeme.{Lexeme}
use Rattle.tap_lexer.specs.Leaves.{ident}
use Rattle.tap_expr.specs.Grammar.{Reads, expression}
use Rattle.tap_expr.proofs.ExprFronts.{no_front}
use Rattle.tap_parser.specs.Declarations.{IsName, IsConst, IsInput, IsVar, IsMessage}
use Rattle.tap_parser.specs.Statements.{IsAction}
use Rattle.tap_parser.specs.Systems.{IsProcess, declared, SpellsOver, system}
use Rattle.tap_printer.specs.Canonical.{separated, block, ident_tokens, const_tokens, var_tokens, message_tokens, action_tokens, process_tokens, tree_tokens}
use Rattle.tap_printer.specs.CanonicalExprs.{expr_tokens}
use Rattle.tap_printer.specs.CanonicalLaws.{next, SpelledAgain, ArePrinted}
use Rattle.tap_printer.specs.PlacesAside.{ident_aside, expr_aside, const_aside, var_aside, message_aside, action_aside, process_aside, SameTree}
use Rattle.tap_printer.specs.Printed.{Printed, mark}
use Rattle.tap_printer.proofs.AgainExprs.{good}
use Rattle.tap_printer.proofs.AgainForms.{named, name_again, const_again, input_again, var_again, message_again}
use Rattle.tap_printer.proofs.AgainLists.{both, some_again, block_again, rows_again, row_again}
use Rattle.tap_printer.proofs.AgainStmts.{action_again}
use Rattle.tap_printer.proofs.Printing.{parts, around, closing, ReadsAgain}

abbrev pub process_of : List ℕ → List AstConst → List AstVar → List AstVar → List Ident → List AstAction → AstProcess
process_of t c i v k a = record { name = named t; consts = c; inputs = i; vars = v; timers = k; actions = a }

same_process : {t u : List ℕ} {a b : List AstConst} {c d e f : List AstVar} {g h : List Ident} {i j : List AstAction} → t ≡ u → a ≡ b → c ≡ d → e ≡ f → g ≡ h → i ≡ j → process_of t a c e g i ≡ process_of u b d f h j
same_process {t} {u} {a} {b} {c} {d} {e} {f} {g} {h} {i} {j} p q r s v w =
    ap (λ x. process_of x a c e g i) p ∙ ap (λ x. process_of u x c e g i) q ∙ ap (λ x. process_of u b x e g i) r ∙ ap (λ x. process_of u b d x g i) s ∙ ap (λ x. process_of u b d f x i) v ∙ ap (λ x. process_of u b d f h x) w

abbrev pub tree_of : List AstMessage → List AstProcess → Ast
tree_of x y = record { messages = x; processes = y }

module _ (E : AstExpr → List Lexeme → List Lexeme → Type 0) (h : (e : AstExpr) (ts us : List Lexeme) → E e ts us → ReadsAgain expr_aside (expr_tokens e) E e) (some : (e : AstExpr) (us : List Lexeme) → E e [] us → ⊥) where
  process_again : (p : AstProcess) (ts us : List Lexeme) → IsProcess E p ts us → ReadsAgain process_aside (process_tokens p) (IsProcess E) p
  process_again p ts us (declared i j c n v t b a e) all end (next k (next {x = y} {ts = rest} l g)) =
      let consts : List Printed = block sign.Const sign.Semicolon (map const_tokens p.consts) in
      let inputs : List Printed = block sign.Inp sign.Semicolon (map var_tokens p.inputs) in
      let vars : List Printed = block sign.Var sign.Semicolon (map var_tokens p.vars) in
      let timers : List Printed = block sign.Timer sign.Comma (map ident_tokens p.timers) in
      let actions : List Printed = separated sign.Box (map action_tokens p.actions) in
      let last = closing (consts ++ inputs ++ vars ++ timers ++ mark sign.Begin ∷ actions) (mark sign.End) g in
      let body = around (consts ++ inputs ++ vars ++ timers) (mark sign.Begin) actions last.front in
      let third = parts (consts ++ inputs ++ vars) timers body.front in
      let second = parts (consts ++ inputs) vars third.front in
      let first = parts consts inputs second.front in
      let rc = block_again const_aside const_tokens IsConst const_again c rest first.middle first.front in
      let rn = block_again var_aside var_tokens IsInput input_again n first.middle second.middle first.rest in
      let rv = block_again var_aside var_tokens IsVar var_again v second.middle third.middle second.rest in
      let rt = block_again ident_aside ident_tokens IsName name_again t third.middle (body.x ∷ body.middle) third.rest in
      let ra = some_again action_aside action_tokens (IsAction E) (action_again E h some) a body.middle (last.x ∷ end) body.rest in
      record {
        again = record { name = ident y; consts = rc.again; inputs = rn.again; vars = rv.again; timers = rt.again; actions = ra.again };
        item = declared k l.0 rc.item rn.item rv.item rt.item body.is ra.item last.is;
        same = same_process l.1 rc.same rn.same rv.same rt.same ra.same;
      }

  pub tree_again : (ts us : List Lexeme) (tree : Ast) → SpellsOver E ts tree → ArePrinted (tree_tokens tree) us → (d : Ast) × SpellsOver E us d × SameTree d tree
  tree_again ts us tree (system m p) g =
      let c = parts (flat_map message_tokens tree.messages) (flat_map process_tokens tree.processes) g in
      let rm = rows_again message_aside message_tokens IsMessage message_again m us c.middle c.front in
      let rp = row_again process_aside process_tokens (IsProcess E) process_again p c.middle [] c.rest in
      let d : Ast = record { messages = rm.again; processes = rp.again } in
      (d, system rm.item rp.item, both tree_of rm.same rp.same)

pub spelled_again : SpelledAgain
spelled_again ts us tree s g = tree_again (Reads expression) (λ e ks ws r. good r expression) (λ e ws r. no_front r) ts us tree s g
