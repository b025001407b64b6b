-- What a reader of expressions answers.
use Rattle.std.specs.Prelude.{◌≡◌, ℕ, ◌+◌, ◌<◌, ◌≤◌, take, drop, length, List, [], ◌∷◌, Bool, true, false, ◌||◌, is_some, Result, Ok, Err}
use Rattle.tap_base.specs.declared.ast.AstExpr.{AstExpr}
use Rattle.tap_base.specs.declared.join.Join.TheVariants.{Disjunction, Conjunction, Sum, Term}
use Rattle.tap_base.specs.declared.token.Sign.{Sign}
use Rattle.tap_base.specs.declared.token.Sign.TheVariants as sign
use Rattle.tap_lexer.specs.Lexeme.{Lexeme}
use Rattle.tap_lexer.specs.declared.found.Found.{Found}
use Rattle.tap_expr.specs.Grammar.{Level, joined, negation, relation, factor, atom, joining, relating, Reads}
use Rattle.tap_expr.specs.Nodes.{nodes, most_nodes}
use Rattle.tap_expr.specs.declared.found.Built.{Built}
use Rattle.tap_expr.specs.declared.found.Built.TheVariants as built
use Rattle.tap_expr.specs.declared.found.Stuck.{Stuck}
use Rattle.tap_expr.specs.declared.found.Stuck.TheVariants as stuck

-- whether the sign behind a name could carry it on
abbrev pub follows_name : Sign → Bool
follows_name sign.OpenIndex = true
follows_name sign.Dot = true
follows_name _ = false

-- whether a sign behind an expression of the level could carry it on
unfoldable pub carries_on : Level → Sign → Bool
carries_on atom s = follows_name s
carries_on factor s = follows_name s
carries_on (joined Term) s = is_some (joining Term s) || follows_name s
carries_on (joined Sum) s = is_some (joining Sum s) || (is_some (joining Term s) || follows_name s)
carries_on relation s = is_some (relating s) || (is_some (joining Sum s) || (is_some (joining Term s) || follows_name s))
carries_on negation s = is_some (relating s) || (is_some (joining Sum s) || (is_some (joining Term s) || follows_name s))
carries_on (joined Conjunction) s = is_some (joining Conjunction s) || (is_some (relating s) || (is_some (joining Sum s) || (is_some (joining Term s) || follows_name s)))
carries_on (joined Disjunction) s = is_some (joining Disjunction s) || (is_some (joining Conjunction s) || (is_some (relating s) || (is_some (joining Sum s) || (is_some (joining Term s) || follows_name s))))

-- what follows can't carry an expression of the level on
abbrev pub Stops : Level → List Lexeme → Type 0
Stops l [] = Unit {0}
Stops l (x ∷ us) = carries_on l x.sign ≡ false

-- each reading of the tokens that stops is this one
abbrev pub Only : Level → List Lexeme → AstExpr → List Lexeme → Type 0
Only l ts e us = (d : AstExpr) (ws : List Lexeme) → Reads l d ts ws → Stops l ws → (d ≡ e) × (ws ≡ us)

-- no reading of the tokens stops
abbrev pub Never : Level → List Lexeme → Type 0
Never l ts = (d : AstExpr) (ws : List Lexeme) → Reads l d ts ws → Stops l ws → ⊥

-- From one place to another the tokens are e, and no other reading from there stops.
pub record IsFound (l : Level) (xs : List Lexeme) (at next : ℕ) (e : AstExpr) : Type 0 where
  pub within : next ≤ length xs
  pub further : at < next
  pub spelled : Reads l e (drop at xs) (drop next xs)
  pub only : Only l (drop at xs) e (drop next xs)

-- What is kept of an expression: the whole with its count, or only that it has too many nodes.
abbrev pub IsBuilt : AstExpr → Built → Type 0
IsBuilt e (built.Whole d n) = (d ≡ e) × (nodes e ≡ n) × (n ≤ most_nodes)
IsBuilt e built.Large = most_nodes < nodes e

-- the lists agree in their first n tokens, and in where they end among these
abbrev pub Alike : ℕ → List Lexeme → List Lexeme → Type 0
Alike n xs ys = take n xs ≡ take n ys

-- an expression was found, and this is kept of it
abbrev pub Finds : Level → List Lexeme → ℕ → Found Built → Type 0
Finds l xs at found = (e : AstExpr) × IsFound l xs at found.next e × IsBuilt e found.value

-- What is found, and that nothing is, holds for every list that agrees up to the last token looked at.
abbrev pub Answers : Level → List Lexeme → ℕ → Result (Found Built) Stuck → Type 0
Answers l xs at (Ok found) = (ys : List Lexeme) → Alike (found.next + 1) xs ys → Finds l ys at found
Answers l xs at (Err (stuck.At k)) = (at ≤ k) × ((ys : List Lexeme) → Alike (k + 1) xs ys → Never l (drop at ys))
Answers l xs at (Err stuck.NoMemory) = Unit {0}

-- Of the readings of a level that nothing carries on there is at most one.
abbrev pub OneReading : Type 0
OneReading = (l : Level) (ts us : List Lexeme) (e : AstExpr) → Reads l e ts us → Stops l us → Only l ts e us
