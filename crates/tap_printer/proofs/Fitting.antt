-- Printed tokens that stay apart where nothing stands between them, and those that a text can have.
use Rattle.std.proofs.Common.{◌≡◌, ℕ, ◌<◌, ◌^◌, ℤ, pos, refl, sym, ◌∙◌, ap, subst, Bool, true, false, List, [], ◌∷◌, ◌++◌}
use Rattle.tap_base.specs.declared.token.Sign.{Sign}
use Rattle.tap_base.specs.declared.token.Sign.TheVariants as sign
use Rattle.tap_base.specs.declared.token.TokenKind.TheVariants.{Name}
use Rattle.tap_lexer.specs.Lexeme.{Lexeme}
use Rattle.tap_lexer.specs.Tokens.{IsToken}
use Rattle.tap_printer.specs.Printed.{Printed, mark, name, number, sign_of}

-- ---- tokens by themselves

-- a word or a symbol
abbrev pub is_spelled : Sign → Bool
is_spelled sign.Name = false
is_spelled sign.Number = false
is_spelled _ = true

-- a number that a text can have
pub record IsRead (n : ℤ) : Type 0 where
  pub digits : ℕ
  pub is : n ≡ pos digits
  pub within : digits < 2 ^ 63

-- as a token of a text
pub record IsSound (x : Lexeme) : Type 0 where
  pub a_name : x.sign ≡ sign.Name → IsToken Name x.text
  pub a_number : x.sign ≡ sign.Number → IsRead x.value

-- printed as a token of a text
abbrev pub IsProper : Printed → Type 0
IsProper (mark s) = is_spelled s ≡ true
IsProper (name t) = IsToken Name t
IsProper (number n) = IsRead n

abbrev pub AreProper : List Printed → Type 0
AreProper [] = Unit {0}
AreProper (t ∷ ts) = IsProper t × AreProper ts

pub proper_append : (p q : List Printed) → AreProper p → AreProper q → AreProper (p ++ q)
proper_append [] q h k = k
proper_append (t ∷ p) q h k = (h.0, proper_append p q h.1 k)

pub proper_front : (p q : List Printed) → AreProper (p ++ q) → AreProper p
proper_front [] q h = tt
proper_front (t ∷ p) q h = (h.0, proper_front p q h.1)

-- ---- tokens side by side

-- behind these only some signs may stand
abbrev pub is_closed : Sign → Bool
is_closed sign.Dot = false
is_closed sign.OpenIndex = false
is_closed sign.Min = false
is_closed sign.Max = false
is_closed _ = true

-- the signs that an expression begins with
abbrev pub begins_expr : Sign → Bool
begins_expr sign.Not = true
begins_expr sign.Minus = true
begins_expr sign.Number = true
begins_expr sign.True = true
begins_expr sign.False = true
begins_expr sign.Name = true
begins_expr sign.Min = true
begins_expr sign.Max = true
begins_expr sign.Open = true
begins_expr _ = false

abbrev pub is_name : Sign → Bool
is_name sign.Name = true
is_name _ = false

abbrev pub is_open : Sign → Bool
is_open sign.Open = true
is_open _ = false

-- the signs that may stand behind those
abbrev pub may_follow : Sign → Sign → Bool
may_follow sign.Dot t = is_name t
may_follow sign.OpenIndex t = begins_expr t
may_follow sign.Min t = is_open t
may_follow sign.Max t = is_open t
may_follow _ t = true

abbrev pub Fit : Sign → List Printed → Type 0
Fit s [] = Unit {0}
Fit s (t ∷ ts) = (may_follow s (sign_of t) ≡ true) × Fit (sign_of t) ts

abbrev pub last_sign : Sign → List Printed → Sign
last_sign s [] = s
last_sign s (t ∷ ts) = last_sign (sign_of t) ts

pub fit_append : (s : Sign) (p q : List Printed) → Fit s p → Fit (last_sign s p) q → Fit s (p ++ q)
fit_append s [] q h k = k
fit_append s (t ∷ p) q h k = (h.0, fit_append (sign_of t) p q h.1 k)

pub fit_front : (s : Sign) (p q : List Printed) → Fit s (p ++ q) → Fit s p
fit_front s [] q h = tt
fit_front s (t ∷ p) q h = (h.0, fit_front (sign_of t) p q h.1)

pub fit_rest : (s : Sign) (p q : List Printed) → Fit s (p ++ q) → Fit (last_sign s p) q
fit_rest s [] q h = h
fit_rest s (t ∷ p) q h = fit_rest (sign_of t) p q h.1

last_append : (s : Sign) (p q : List Printed) → last_sign s (p ++ q) ≡ last_sign (last_sign s p) q
last_append s [] q = refl
last_append s (t ∷ p) q = last_append (sign_of t) p q

-- anything may stand behind a closed sign
pub closed_follows : (s t : Sign) → is_closed s ≡ true → may_follow s t ≡ true
closed_follows sign.Dot t h = absurd cc
closed_follows sign.OpenIndex t h = absurd cc
closed_follows sign.Min t h = absurd cc
closed_follows sign.Max t h = absurd cc
closed_follows _ t h = refl

-- tokens that stay apart behind every closed sign, and end with one
pub record IsPhrase (p : List Printed) : Type 0 where
  pub fits : (s : Sign) → is_closed s ≡ true → Fit s p
  pub ends : (s : Sign) → is_closed s ≡ true → is_closed (last_sign s p) ≡ true

pub phrase_none : IsPhrase []
phrase_none = record { fits = λ s h. tt; ends = λ s h. h }

pub phrase_one : (t : Printed) → is_closed (sign_of t) ≡ true → IsPhrase (t ∷ [])
phrase_one t c = record { fits = λ s h. (closed_follows s (sign_of t) h, tt); ends = λ s h. c }

pub phrase_append : (p q : List Printed) → IsPhrase p → IsPhrase q → IsPhrase (p ++ q)
phrase_append p q h k = record {
  fits = λ s c. fit_append s p q (h.fits s c) (k.fits (last_sign s p) (h.ends s c));
  ends = λ s c. ap is_closed (last_append s p q) ∙ k.ends (last_sign s p) (h.ends s c);
}

-- in brackets, where the inner tokens may stand behind the first
pub phrase_wrapped : (o c : Sign) (p : List Printed) → Fit o p → is_closed (last_sign o p) ≡ true → is_closed c ≡ true → IsPhrase (mark o ∷ p ++ mark c ∷ [])
phrase_wrapped o c p inside ended close = record {
  fits = λ s h. (closed_follows s o h, fit_append o p (mark c ∷ []) inside (closed_follows (last_sign o p) c ended, tt));
  ends = λ s h. ap is_closed (last_append o p (mark c ∷ [])) ∙ close;
}

-- behind another closed sign
moved : (s u : Sign) (p : List Printed) → is_closed u ≡ true → Fit s p → Fit u p
moved s u [] h f = tt
moved s u (t ∷ p) h f = (closed_follows u (sign_of t) h, f.1)

moved_end : (s u : Sign) (p : List Printed) → is_closed u ≡ true → is_closed (last_sign s p) ≡ true → is_closed (last_sign u p) ≡ true
moved_end s u [] h f = h
moved_end s u (t ∷ p) h f = f

closes_only : (s : Sign) → may_follow s sign.Close ≡ true → is_closed s ≡ true
closes_only sign.Dot h = absurd cc
closes_only sign.OpenIndex h = absurd cc
closes_only sign.Min h = absurd cc
closes_only sign.Max h = absurd cc
closes_only _ h = refl

-- without the parentheses around them
pub phrase_bare : (p : List Printed) → IsPhrase (mark sign.Open ∷ p ++ mark sign.Close ∷ []) → IsPhrase p
phrase_bare p h =
    let inner : Fit sign.Open (p ++ mark sign.Close ∷ []) = (h.fits sign.Open refl).1 in
    let last : is_closed (last_sign sign.Open p) ≡ true = closes_only (last_sign sign.Open p) (fit_rest sign.Open p (mark sign.Close ∷ []) inner).0 in
    record {
      fits = λ s c. moved sign.Open s p c (fit_front sign.Open p (mark sign.Close ∷ []) inner);
      ends = λ s c. moved_end sign.Open s p c last;
    }

-- a name, `.` and a name
pub phrase_dotted : (m f : List ℕ) → IsPhrase (name m ∷ mark sign.Dot ∷ name f ∷ [])
phrase_dotted m f = record { fits = λ s h. (closed_follows s sign.Name h, (refl, (refl, tt))); ends = λ s h. refl }

-- `min` or `max`, and tokens that begin with a parenthesis
pub phrase_chosen : (s : Sign) (p : List Printed) → may_follow s sign.Open ≡ true → IsPhrase (mark sign.Open ∷ p) → IsPhrase (mark s ∷ mark sign.Open ∷ p)
phrase_chosen s p f h = record {
  fits = λ u c. (closed_follows u s c, (f, (h.fits sign.Open refl).1));
  ends = λ u c. h.ends sign.Open refl;
}

-- an expression may stand behind `[`
pub record BeginsExpr (p : List Printed) : Type 0 where
  pub first : Printed
  pub more : List Printed
  pub is : p ≡ first ∷ more
  pub begins : begins_expr (sign_of first) ≡ true

pub inside_index : (p : List Printed) → BeginsExpr p → IsPhrase p → Fit sign.OpenIndex p
inside_index p b h = subst (λ q. Fit sign.OpenIndex q) (sym b.is) (b.begins, (subst (λ q. Fit sign.Open q) b.is (h.fits sign.Open refl)).1)

pub ended_index : (p : List Printed) → BeginsExpr p → IsPhrase p → is_closed (last_sign sign.OpenIndex p) ≡ true
ended_index p b h = subst (λ q. is_closed (last_sign sign.OpenIndex q) ≡ true) (sym b.is) (subst (λ q. is_closed (last_sign sign.Open q) ≡ true) b.is (h.ends sign.Open refl))
