-- What is printed keeps the limits that the tokens keep that it was read from.
use Rattle.std.proofs.Common.{◌≡◌, sym, ◌∙◌, ap, subst, ◌≤◌, List, [], ◌∷◌, length, drop, length-drop, Some, arith}
use Rattle.tap_base.specs.declared.ast.Ast.{Ast}
use Rattle.tap_base.specs.declared.ast.AstExpr.{AstExpr}
use Rattle.tap_lexer.specs.Lexeme.{Lexeme}
use Rattle.tap_expr.specs.Grammar.{Reads, expression}
use Rattle.tap_expr.specs.Nodes.{nodes, most_nodes}
use Rattle.tap_expr.proofs.ExprFronts.{no_front}
use Rattle.tap_parser.specs.Systems.{SpellsOver, SpellsText, SpellsTo, Sized}
use Rattle.tap_parser.proofs.Weaker.{weaker}
use Rattle.tap_printer.specs.Canonical.{tree_tokens}
use Rattle.tap_printer.specs.CanonicalExprs.{expr_tokens}
use Rattle.tap_printer.specs.CanonicalLaws.{LimitsKept, Fewest}
use Rattle.tap_printer.specs.PlacesAside.{expr_aside}
use Rattle.tap_printer.proofs.AgainExprs.{good}
use Rattle.tap_printer.proofs.AgainTrees.{tree_again}
use Rattle.tap_printer.proofs.AsideTokens.{expr_alike, printed_alike}
use Rattle.tap_printer.proofs.CoversExprs.{covers}
use Rattle.tap_printer.proofs.CoversForms.{tree_covers}
use Rattle.tap_printer.proofs.Fronts.{expr_begins}
use Rattle.tap_printer.proofs.Printing.{ReadsAgain}
use Rattle.tap_printer.proofs.Walks.{Covers, still_shallow, no_longer}

-- an expression that begins anywhere, with few nodes
Small : AstExpr → List Lexeme → List Lexeme → Type 0
Small = Sized (Some 0)

none_left : (ts : List Lexeme) → length (drop (length ts) ts) ≡ 0
none_left ts = let l = length-drop (length ts) ts in omega (arith, l)

few : (e : AstExpr) (ts us : List Lexeme) → Small e ts us → nodes e ≤ most_nodes
unfolding Small
few e [] us s = absurd (no_front s.0)
few e (x ∷ ts) us s = s.1 (omega arith)

as_many : (d e : AstExpr) → expr_aside d ≡ expr_aside e → nodes d ≡ nodes e
as_many d e h = sym (expr_alike d).counts ∙ ap nodes h ∙ (expr_alike e).counts

small_again : (e : AstExpr) (ts us : List Lexeme) → Small e ts us → ReadsAgain expr_aside (expr_tokens e) Small e
unfolding Small
small_again e ts us s all end g =
    let n : nodes e ≤ most_nodes = few e ts us s in
    let r = good s.0 expression all end g in
    let m = as_many r.again e r.same in
    record { again = r.again; item = (r.item, λ h. omega (arith, n, m)); same = r.same }

not_nothing : (e : AstExpr) (us : List Lexeme) → Small e [] us → ⊥
unfolding Small
not_nothing e us s = no_front s.0

as_read : (e : AstExpr) (ts us : List Lexeme) → Small e ts us → Reads expression e ts us
unfolding Small
as_read e ts us s = s.0

all_small : (ts : List Lexeme) (tree : Ast) → SpellsTo (length ts) ts tree → SpellsOver Small ts tree
unfolding Small
all_small ts tree s = subst (λ n. SpellsOver (Sized (Some n)) ts tree) (none_left ts) s

small_all : (ts : List Lexeme) (tree : Ast) → SpellsOver Small ts tree → SpellsTo (length ts) ts tree
unfolding Small
small_all ts tree s = subst (λ n. SpellsOver (Sized (Some n)) ts tree) (sym (none_left ts)) s

pub covered : (ts : List Lexeme) (tree : Ast) → SpellsText ts tree → Covers (tree_tokens tree) ts []
covered ts tree s = tree_covers (Reads expression) (λ e ks us r. covers r) (λ e ks us r. expr_begins (good r)) ts tree s

pub limits_kept : LimitsKept
limits_kept ts us tree t g =
    let r = tree_again Small small_again not_nothing ts us tree (all_small ts tree t.small) g in
    (r.0, record { shallow = still_shallow (covered ts tree t.spelled) t.shallow g; spelled = weaker Small (Reads expression) as_read us r.0 r.1; small = small_all us r.0 r.1 }, r.2)

pub fewest : Fewest
fewest ts tree d n s same =
    let l = no_longer (covered ts d s) n in
    let e = ap length (printed_alike d tree same) in
    omega (arith, l, e)
