-- The line of a label begins as no other line of a trace does.
use Rattle.std.proofs.Common.{◌≡◌, ◌≢◌, ◌<◌, ◌⊎◌, inl, inr, ℕ, ℤ, List, [], ◌∷◌, ◌++◌, map, length, take, drop, get_or, refl, sym, subst, ◌∙◌, arith, codes, append-nil}
use Rattle.std.specs.Prelude.{flat_map}
use Rattle.std.specs.Fmt.{signed_decimal}
use Rattle.tap_base.specs.Lists.{Each}
use Rattle.tap_base.proofs.ListFacts.{each_append}
use Rattle.abstract_run.specs.declared.label.Label.{Label}
use Rattle.abstract_run.specs.declared.label.Label.TheVariants as label
use Rattle.abstract_run.specs.declared.state.State.{State}
use Rattle.tap_exec.specs.Semantics.{Semantics}
use Rattle.run_text.specs.declared.names.VarName.{VarName}
use Rattle.run_text.specs.TraceText.{label_line, last_lines, lines_text, names_in, var_lines, vars_in, vars_of}
use Rattle.run_text.specs.declared.names.Names.{Names}
use Rattle.replay.specs.inner.Passing.{BeginsNoLast}
use Rattle.trace_entries.specs.Entries.{entry_line}
use Rattle.trace_entries.specs.declared.entry.Entry.{Entry}
use Rattle.trace_entries.specs.declared.entry.Entry.TheVariants as entry

-- the text begins as the lines of ends, variables and datagrams do
abbrev pub IsOther : List ℕ → Type 0
IsOther text = (get_or text 0 0 ≡ 101) ⊎ (((get_or text 0 0 ≡ 118) × (get_or text 1 0 ≡ 97)) ⊎ ((get_or text 0 0 ≡ 115) × (get_or text 1 0 ≡ 101)))

abbrev Differs : List ℕ → Type 0
Differs text = (get_or text 0 0 ≢ 101) × (get_or text 0 0 ≡ 118 → get_or text 1 0 ≢ 97) × (get_or text 0 0 ≡ 115 → get_or text 1 0 ≢ 101)

no_label : (names : List (List ℕ)) (l : Label) (rest : List ℕ) → Differs (label_line names l ++ rest)
no_label names (label.Tick p c) rest = (λ e. omega (arith, e), λ e. omega (arith, e), λ e. omega (arith, e))
no_label names (label.Reject q p i) rest = (λ e. omega (arith, e), λ e. omega (arith, e), λ e. omega (arith, e))
no_label names (label.Act p a choices) rest = (λ e. omega (arith, e), λ e. omega (arith, e), λ e. omega (arith, e))
no_label names (label.Idle p) rest = (λ e. omega (arith, e), λ e. omega (arith, e), λ e. omega (arith, e))
no_label names (label.Flood p) rest = (λ e. omega (arith, e), λ e. omega (arith, e), λ e. omega (arith, e))
no_label names (label.Arrive q p) rest = (λ e. omega (arith, e), λ e. omega (arith, e), λ e. omega (arith, e))
no_label names (label.Lose q p i) rest = (λ e. omega (arith, e), λ e. omega (arith, e), λ e. omega (arith, e))
no_label names (label.Copy q p i) rest = (λ e. omega (arith, e), λ e. omega (arith, e), λ e. omega (arith, e))
no_label names (label.Move q p i j) rest = (λ e. omega (arith, e), λ e. omega (arith, e), λ e. omega (arith, e))
no_label names (label.Damage q p i bytes) rest = (λ e. omega (arith, e), λ e. omega (arith, e), λ e. omega (arith, e))
no_label names (label.Forge q p bytes) rest = (λ e. omega (arith, e), λ e. omega (arith, e), λ e. omega (arith, e))
no_label names (label.Cut p n) rest = (λ e. omega (arith, e), λ e. omega (arith, e), λ e. omega (arith, e))
no_label names (label.Stop p receivers) rest = (λ e. omega (arith, e), λ e. omega (arith, e), λ e. λ f. omega (arith, f))
no_label names (label.Down p) rest = (λ e. omega (arith, e), λ e. omega (arith, e), λ e. omega (arith, e))
no_label names label.Void rest = (λ e. omega (arith, e), λ e. λ f. omega (arith, f), λ e. omega (arith, e))

apart : (text : List ℕ) → IsOther text → Differs text → ⊥
apart text (inl e) d = d.0 e
apart text (inr (inl e)) d = d.1 e.0 e.1
apart text (inr (inr e)) d = d.2 e.0 e.1

pub no_label_there : (names : List (List ℕ)) (l : Label) (rest text : List ℕ) → IsOther text → text ≡ label_line names l ++ rest → ⊥
no_label_there names l rest text other same = apart text other (subst Differs (sym same) (no_label names l rest))

-- ---- the last lines

abbrev IsVarStart : List ℕ → Type 0
IsVarStart l = (get_or l 0 0 ≡ 118) × (get_or l 1 0 ≡ 97) × (1 < length l)

-- the text begins as the lines of ends and variables do
abbrev IsLastStart : List ℕ → Type 0
IsLastStart text = (get_or text 0 0 ≡ 101) ⊎ ((get_or text 0 0 ≡ 118) × (get_or text 1 0 ≡ 97))

lines_end : (lines : List (List ℕ)) → Each IsVarStart lines → IsLastStart (lines_text (lines ++ codes "end" ∷ []))
lines_end [] h = inl refl
lines_end (l ∷ ls) h = first l (lines_text (ls ++ codes "end" ∷ [])) h.0 where
  first : (l rest : List ℕ) → (get_or l 0 0 ≡ 118) × (get_or l 1 0 ≡ 97) × (1 < length l) → IsLastStart ((l ++ 10 ∷ []) ++ rest)
  first [] rest h = absurd (omega (arith, h.2))
  first (a ∷ []) rest h = absurd (omega (arith, h.2))
  first (a ∷ b ∷ l) rest h = inr (h.0, h.1)

longer : (xs : List ℕ) → 1 < length (118 ∷ 97 ∷ xs)
longer xs = omega arith

vars_start : (process : List ℕ) (vars : List VarName) (cells : List ℤ) → Each IsVarStart (vars_of process vars cells)
vars_start process [] cells = tt
vars_start process (v ∷ vs) cells = ((refl, refl, longer (114 ∷ flat_map (λ w. 32 ∷ w) (process ∷ v.text ∷ map signed_decimal (take v.cells cells)))), vars_start process vs (drop v.cells cells))

all_vars_start : (names : List (List ℕ)) (vars : List (List VarName)) (stores : List (List ℤ)) → Each IsVarStart (var_lines names vars stores)
all_vars_start [] [] [] = tt
all_vars_start [] [] (cells ∷ stores) = tt
all_vars_start [] (own ∷ vars) [] = tt
all_vars_start [] (own ∷ vars) (cells ∷ stores) = tt
all_vars_start (n ∷ names) [] [] = tt
all_vars_start (n ∷ names) [] (cells ∷ stores) = tt
all_vars_start (n ∷ names) (own ∷ vars) [] = tt
all_vars_start (n ∷ names) (own ∷ vars) (cells ∷ stores) =
    each_append IsVarStart (vars_of n own cells) (var_lines names vars stores) (vars_start n own cells) (all_vars_start names vars stores)

last_start : (semantics : Semantics) (s : State) → IsLastStart (lines_text (last_lines semantics s))
last_start semantics s = lines_end _ (all_vars_start (names_in semantics) (vars_in semantics) s.stores)

as_other : (text : List ℕ) → IsLastStart text → IsOther text
as_other text (inl e) = inl e
as_other text (inr h) = inr (inl h)

pub last_is_other : (semantics : Semantics) (s : State) → IsOther (lines_text (last_lines semantics s))
last_is_other semantics s = as_other (lines_text (last_lines semantics s)) (last_start semantics s)

starts_not : (line rest : List ℕ) → BeginsNoLast line → IsLastStart (line ++ 10 ∷ rest) → ⊥
starts_not [] rest n (inl e) = omega (arith, e)
starts_not [] rest n (inr h) = let e = h.0 in omega (arith, e)
starts_not (x ∷ []) rest n (inl e) = n.0 e
starts_not (x ∷ []) rest n (inr h) = let e = h.1 in omega (arith, e)
starts_not (x ∷ y ∷ line) rest n (inl e) = n.0 e
starts_not (x ∷ y ∷ line) rest n (inr h) = n.1 h.0 h.1

-- a line that begins otherwise is not the first of the last lines
pub no_last : (semantics : Semantics) (s : State) (line rest : List ℕ) → BeginsNoLast line → lines_text (last_lines semantics s) ≡ line ++ 10 ∷ rest → ⊥
no_last semantics s line rest n e = starts_not line rest n (subst IsLastStart e (last_start semantics s))

-- ---- entries that are no label

abbrev pub IsNoLabel : Entry → Type 0
IsNoLabel (entry.Sent p bytes) = Unit {0}
IsNoLabel (entry.Var p x values) = Unit {0}
IsNoLabel entry.End = Unit {0}
IsNoLabel _ = ⊥

entry_is_other : (names : Names) (e : Entry) → IsNoLabel e → IsOther (entry_line names e)
entry_is_other names (entry.Label l) h = absurd h
entry_is_other names (entry.Got q p bytes) h = absurd h
entry_is_other names (entry.Strangers n) h = absurd h
entry_is_other names (entry.Sent p bytes) h = inr (inr (refl, refl))
entry_is_other names (entry.Var p x values) h = inr (inl (refl, refl))
entry_is_other names entry.End h = inl refl

pub no_label_of : (names : Names) (ps : List (List ℕ)) (line : List ℕ) (e : Entry) (l : Label) → IsNoLabel e → line ≡ entry_line names e → line ≡ label_line ps l → ⊥
no_label_of names ps line e l h is same = no_label_there ps l [] (entry_line names e) (entry_is_other names e h) (sym is ∙ same ∙ sym (append-nil (label_line ps l)))
