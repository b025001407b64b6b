-- The canonical text of a tree that a text spells is that tree, places aside.
use Rattle.std.proofs.Common.{◌≡◌, ℕ, suc, ◌^◌, ℤ, pos, Bool, true, false, if◌then◌else◌, nat_lt, ltb-true, refl, sym, ◌∙◌, ap, subst, List, [], ◌∷◌, Option, Some, None}
use Rattle.std.specs.List.{slice_range, list_all}
use Rattle.std.specs.Option.{is_some}
use Rattle.std.specs.Str.{bytes_eq}
use Rattle.std.specs.Str.Parse.{digits_value}
use Rattle.tap_base.specs.declared.token.Sign.{Sign}
use Rattle.tap_base.specs.declared.token.Sign.TheVariants as sign
use Rattle.tap_base.specs.declared.token.Token.{Token}
use Rattle.tap_base.specs.declared.token.TokenKind.{TokenKind}
use Rattle.tap_base.specs.declared.token.TokenKind.TheVariants.{Name, Number, Word, Symbol}
use Rattle.tap_base.specs.Lists.{Each}
use Rattle.tap_lexer.specs.Bytes.{start}
use Rattle.tap_lexer.specs.Lexeme.{Lexeme, lexeme, lexemes}
use Rattle.tap_lexer.specs.Spans.{IsText, AreTexts}
use Rattle.tap_lexer.specs.Tokens.{IsToken, value}
use Rattle.tap_lexer.specs.Words.{Table, words, symbols, sign_in, is_in, listed, sign_of}
use Rattle.tap_lexer.proofs.One.{same_tokens}
use Rattle.tap_lexer.proofs.Spans.{spelled_texts}
use Rattle.tap_lexer.proofs.Tables.{and_left, and_right}
use Rattle.tap_parser.specs.Systems.{SpellsText}
use Rattle.tap_parser.proofs.TextOneTree.{one_text as one_tree}
use Rattle.tap_printer.specs.Canonical.{tree_tokens, canonical}
use Rattle.tap_printer.specs.CanonicalLaws.{TokensAgain, ReadAgain, ReadAgainOnly}
use Rattle.tap_printer.specs.PlacesAside.{places_aside}
use Rattle.tap_printer.proofs.AsideTokens.{canonical_alike}
use Rattle.tap_printer.proofs.Fitting.{is_spelled, IsRead, IsSound}
use Rattle.tap_printer.proofs.LexedBack.{text_lexed}
use Rattle.tap_printer.proofs.Limits.{covered, limits_kept}
use Rattle.tap_printer.proofs.Walks.{all_proper}

-- ---- signs of tokens

found_step : (v : Bool) (x : Option Sign) (t s : Sign) (goal : Type 0) → (t ≡ s → goal) → (x ≡ Some s → goal) → (if v then Some t else x) ≡ Some s → goal
found_step true x t s goal here later e = let q : t ≡ s = cc in here q
found_step false x t s goal here later e = later e

-- what a table has for some bytes passes each test that all its signs pass
found_passes : (test : Sign → Bool) (a : Table) (w : List ℕ) (s : Sign) → list_all (λ entry. test entry.1) a ≡ true → sign_in a w ≡ Some s → test s ≡ true
found_passes test [] w s h e = absurd (go e)
  where
    go : None ≡ Some s → ⊥
    go e = absurd cc
found_passes test ((p, t) ∷ a) w s h e =
    found_step (bytes_eq w p) (sign_in a w) t s (test s ≡ true)
    (λ q. ap test (sym q) ∙ and_left (test t) _ h)
    (λ q. found_passes test a w s (and_right (test t) _ h) q)
    e

-- a token that a table lists is spelled
listed_spelled : (a : Table) (w : List ℕ) → list_all (λ entry. is_spelled entry.1) a ≡ true → is_in a w ≡ true → is_spelled (listed (sign_in a w)) ≡ true
listed_spelled a w h i = go (sign_in a w) refl i
  where
    go : (o : Option Sign) → sign_in a w ≡ o → is_some o ≡ true → is_spelled (listed o) ≡ true
    go None e i = absurd (clash i)
      where
        clash : false ≡ true → ⊥
        clash e = absurd cc
    go (Some s) e i = found_passes is_spelled a w s h e

spelled_name : (s : Sign) → is_spelled s ≡ true → s ≡ sign.Name → ⊥
spelled_name s h e = let q : is_spelled s ≡ false = ap is_spelled e in absurd cc

spelled_number : (s : Sign) → is_spelled s ≡ true → s ≡ sign.Number → ⊥
spelled_number s h e = let q : is_spelled s ≡ false = ap is_spelled e in absurd cc

read_number : (ds : List ℕ) (v : ℤ) → value Number ds ≡ Some v → IsRead v
read_number ds v = go (nat_lt (digits_value 10 ds) (2 ^ 63)) refl
  where
    go : (b : Bool) → nat_lt (digits_value 10 ds) (2 ^ 63) ≡ b → (if b then Some (pos (digits_value 10 ds)) else None) ≡ Some v → IsRead v
    go true h e = let q : pos (digits_value 10 ds) ≡ v = cc in record { digits = digits_value 10 ds; is = sym q; within = ltb-true (digits_value 10 ds) (2 ^ 63) h }
    go false h e = absurd (clash e)
      where
        clash : None ≡ Some v → ⊥
        clash e = absurd cc

by_kind : (k : TokenKind) (w : List ℕ) (v : ℤ) (x : Lexeme) → x.sign ≡ sign_of k w → x.text ≡ w → x.value ≡ v → IsToken k w → value k w ≡ Some v → IsSound x
by_kind Name w v x s t u i e = record { a_name = λ n. subst (λ y. IsToken Name y) (sym t) i; a_number = λ n. absurd (clash (sym s ∙ n)) }
  where
    clash : sign.Name ≡ sign.Number → ⊥
    clash e = absurd cc
by_kind Number w v x s t u i e = record { a_name = λ n. absurd (clash (sym s ∙ n)); a_number = λ n. subst IsRead (sym u) (read_number w v e) }
  where
    clash : sign.Number ≡ sign.Name → ⊥
    clash e = absurd cc
by_kind Word w v x s t u i e =
    let h = listed_spelled words w refl i in
    record { a_name = λ n. absurd (spelled_name (listed (sign_in words w)) h (sym s ∙ n)); a_number = λ n. absurd (spelled_number (listed (sign_in words w)) h (sym s ∙ n)) }
by_kind Symbol w v x s t u i e =
    let h = listed_spelled symbols w refl i in
    record { a_name = λ n. absurd (spelled_name (listed (sign_in symbols w)) h (sym s ∙ n)); a_number = λ n. absurd (spelled_number (listed (sign_in symbols w)) h (sym s ∙ n)) }

sound : (text : List ℕ) (t : Token) → IsText text t → IsSound (lexeme text t)
sound text t i = by_kind t.kind (slice_range text t.start t.end) t.value (lexeme text t) refl refl refl i.token i.valued

all_sound : (text : List ℕ) (tokens : List Token) → AreTexts text tokens → Each IsSound (lexemes text tokens)
all_sound text [] h = tt
all_sound text (t ∷ tokens) h = (sound text t (h 0 t refl), all_sound text tokens (λ k u e. h (suc k) u e))

-- ---- texts

pub tokens_again : TokensAgain
tokens_again text tokens tree lexes spells =
    let c = covered (lexemes text tokens) tree spells in
    let texts : AreTexts text tokens = spelled_texts text start tokens lexes in
    text_lexed (tree_tokens tree) sign.Comma (c.phrase.fits sign.Comma refl) (all_proper c (all_sound text tokens texts))

pub read_again : ReadAgain
read_again text tokens tree lexes t =
    let r = tokens_again text tokens tree lexes t.spelled in
    let k = limits_kept (lexemes text tokens) (lexemes (canonical tree) r.0) tree t r.2 in
    (r.0, k.0, r.1, k.1, k.2, canonical_alike k.0 tree k.2)

pub read_again_only : ReadAgainOnly
read_again_only text tokens tree lexes t again d lexed is =
    let r = read_again text tokens tree lexes t in
    let e : again ≡ r.0 = same_tokens (canonical tree) again r.0 lexed r.2 in
    let s : SpellsText (lexemes (canonical tree) again) r.1 = subst (λ x. SpellsText (lexemes (canonical tree) x) r.1) (sym e) r.3.spelled in
    ap places_aside (one_tree (lexemes (canonical tree) again) d r.1 is.spelled s) ∙ r.4
