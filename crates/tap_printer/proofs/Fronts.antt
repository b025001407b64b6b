-- What is printed of an expression begins as an expression does.
use Rattle.std.proofs.Common.{◌≡◌, refl, sym, ◌∙◌, ap, pos, true, List, [], ◌∷◌, map, Some}
use Rattle.tap_base.specs.declared.ast.AstExpr.{AstExpr}
use Rattle.tap_base.specs.declared.token.Sign.{Sign}
use Rattle.tap_base.specs.declared.token.Sign.TheVariants as sign
use Rattle.tap_base.specs.declared.tree.Op.{Op}
use Rattle.tap_lexer.specs.Bytes.{start}
use Rattle.tap_lexer.specs.Lexeme.{Lexeme}
use Rattle.tap_expr.specs.Grammar.{Level, choosing, expression, Reads, chain, plain, denied, single, related, positive, negative, leaf, number, truth, untruth, name, element, part, chosen, group}
use Rattle.tap_printer.specs.CanonicalExprs.{expr_tokens}
use Rattle.tap_printer.specs.CanonicalLaws.{IsPrinted, Begins, none, next}
use Rattle.tap_printer.specs.Printed.{Printed, mark, sign_of}
use Rattle.tap_printer.specs.Printed as printed
use Rattle.tap_printer.proofs.AgainExprs.{IsGood}
use Rattle.tap_printer.proofs.Fitting.{begins_expr, BeginsExpr}

Front : List Lexeme → Type 0
Front [] = ⊥
Front (x ∷ ts) = begins_expr x.sign ≡ true

choosing_begins : (s : Sign) (o : Op) → choosing s ≡ Some o → begins_expr s ≡ true
choosing_begins sign.Min o e = refl
choosing_begins sign.Max o e = refl
choosing_begins _ o e = absurd cc

front : {l : Level} {e : AstExpr} {ts us : List Lexeme} → Reads l e ts us → Front ts
unfolding Front
front (chain r g) = front r
front (plain r) = front r
front (denied i r) = ap begins_expr i
front (single r) = front r
front (related r i q) = front r
front (positive r) = front r
front (negative i r) = ap begins_expr i
front (leaf (number i)) = ap begins_expr i
front (leaf (truth i)) = ap begins_expr i
front (leaf (untruth i)) = ap begins_expr i
front (leaf (name i)) = ap begins_expr i
front (element i o r c) = ap begins_expr i
front (leaf (part i o c)) = ap begins_expr i
front (chosen {x} {o} i p r c q d) = choosing_begins x.sign o i
front (group i r c) = ap begins_expr i

-- tokens that are the printed ones
lexeme_of : Printed → Lexeme
lexeme_of (mark s) = record { sign = s; text = []; value = pos 0; place = start }
lexeme_of (printed.name t) = record { sign = sign.Name; text = t; value = pos 0; place = start }
lexeme_of (printed.number n) = record { sign = sign.Number; text = []; value = n; place = start }

is_printed : (t : Printed) → IsPrinted t (lexeme_of t)
unfolding lexeme_of
is_printed (mark s) = refl
is_printed (printed.name t) = (refl, refl)
is_printed (printed.number n) = (refl, refl)

sign_is : (t : Printed) → (lexeme_of t).sign ≡ sign_of t
unfolding lexeme_of
sign_is (mark s) = refl
sign_is (printed.name t) = refl
sign_is (printed.number n) = refl

are_printed : (p : List Printed) → Begins p (map lexeme_of p) []
are_printed [] = none
are_printed (t ∷ p) = next (is_printed t) (are_printed p)

begins : (p : List Printed) → Front (map lexeme_of p) → BeginsExpr p
unfolding Front
begins [] h = absurd h
begins (t ∷ p) h = record { first = t; more = p; is = refl; begins = ap begins_expr (sym (sign_is t)) ∙ h }

pub expr_begins : {e : AstExpr} → IsGood e → BeginsExpr (expr_tokens e)
expr_begins {e} h = begins (expr_tokens e) (front (h expression (map lexeme_of (expr_tokens e)) [] (are_printed (expr_tokens e))).item)
