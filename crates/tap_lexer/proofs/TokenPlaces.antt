-- A token at a place.
use Rattle.std.proofs.Common.{◌≡◌, ℕ, ◌+◌, sym, ◌∙◌, ap, subst, List, [], ◌∷◌, Option, Some, None, drop, map}
use Rattle.std.specs.List.{slice_get}
use Rattle.std.proofs.lemmas.Option.{slice_get_within}
use Rattle.std.proofs.lemmas.List.{drop-map, drop_all, length-map}
use Rattle.tap_base.specs.declared.token.Token.{Token}
use Rattle.tap_base.specs.declared.token.Sign.{Sign}
use Rattle.tap_base.proofs.ListFacts.{cut_at, past_end}
use Rattle.tap_lexer.specs.Lexeme.{Lexeme, lexeme, lexemes}
use Rattle.tap_lexer.specs.inner.Reading.{Stands, Seen, Lacks}

pub stands : (text : List ℕ) (ts : List Token) (k : ℕ) (t : Token) → slice_get ts k ≡ Some t → Stands (lexemes text ts) k (lexeme text t)
stands text ts k t e = record {
  cut = drop-map (lexeme text) k ts ∙ ap (map (lexeme text)) (cut_at ts k t e) ∙ ap (λ us. lexeme text t ∷ us) (sym (drop-map (lexeme text) (k + 1) ts));
  below = let w = slice_get_within ts k t e in rw (length-map ts (lexeme text)) w;
}

pub ends : (text : List ℕ) (ts : List Token) (k : ℕ) → slice_get ts k ≡ None → drop k (lexemes text ts) ≡ []
ends text ts k e = let p = past_end ts k e in drop_all k (lexemes text ts) (rw (length-map ts (lexeme text)) p)

pub seen : (text : List ℕ) (ts : List Token) (k : ℕ) (t : Option Token) → t ≡ slice_get ts k → Seen text ts k t
seen text ts k None e = ends text ts k (sym e)
seen text ts k (Some t) e = stands text ts k t (sym e)

pub lacks_past : (s : Sign) (xs : List Lexeme) (k : ℕ) → drop k xs ≡ [] → Lacks s (drop k xs)
lacks_past s xs k e = let P : List Lexeme → Type 0 = λ us. Lacks s us in subst P (sym e) tt

pub lacks_other : (s : Sign) (xs : List Lexeme) (k : ℕ) (x : Lexeme) → Stands xs k x → (x.sign ≡ s → ⊥) → Lacks s (drop k xs)
lacks_other s xs k x w n = let P : List Lexeme → Type 0 = λ us. Lacks s us in subst P (sym w.cut) n

-- a list that begins with the sign does not lack it
pub lacks_not : (s : Sign) (ts us : List Lexeme) (x : Lexeme) → Lacks s ts → ts ≡ x ∷ us → x.sign ≡ s → ⊥
lacks_not s ts us x h e i = let P : List Lexeme → Type 0 = λ k. Lacks s k in subst P e h i

pub empty_not : (ts us : List Lexeme) (x : Lexeme) → ts ≡ [] → ts ≡ x ∷ us → ⊥
empty_not ts us x e f = cc

-- one sign that stands first is no other
pub lacks_one : (s t : Sign) (xs us : List Lexeme) (x : Lexeme) → xs ≡ x ∷ us → x.sign ≡ s → (s ≡ t → ⊥) → Lacks t xs
lacks_one s t xs us x e i n = let P : List Lexeme → Type 0 = λ k. Lacks t k in subst P (sym e) (λ j. n (sym i ∙ j))
