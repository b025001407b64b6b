-- No line of a run or of a trace has a line feed.
use Rattle.std.proofs.Common.{◌≡◌, ◌≢◌, ◌==◌, ◌≤◌, ◌+◌, ◌/◌, ◌%◌, ℕ, zero, suc, ℤ, pos, negsuc, Bool, true, false, List, [], ◌∷◌, ◌++◌, map, length, take, drop, refl, sym, subst, arith, Some, codes, if◌then◌else◌}
use Rattle.std.specs.Prelude.{flat_map, nat_lt}
use Rattle.std.specs.Fmt.{decimal, digit_glyph, digits, digits_onto, signed_decimal}
use Rattle.tap_base.specs.LineWords.{IsWord}
use Rattle.tap_base.specs.Lists.{Each}
use Rattle.tap_base.proofs.ListFacts.{each_append}
use Rattle.abstract_run.specs.declared.label.Label.{Label}
use Rattle.abstract_run.specs.declared.state.State.{State}
use Rattle.tap_exec.specs.Semantics.{Semantics}
use Rattle.run_text.specs.Names.{AreNames}
use Rattle.run_text.specs.ScheduleText.{Lacks}
use Rattle.run_text.specs.Sized.{IsSized}
use Rattle.run_text.specs.TraceText.{Datagram, hex_digits, hex_word, last_lines, line_of, name_at, names_in, run_lines, sent_line, settled_after, trace_lines, var_lines, vars_in, vars_of}
use Rattle.run_text.specs.declared.names.VarName.{VarName}
use Rattle.run_text.proofs.LineLabels.{free_word, line_unbroken, unbroken}
use Rattle.run_text.proofs.Options.{bound, unwrapped}
use Rattle.run_text.proofs.RunLines.{one_step}
use Rattle.trace_entries.specs.LineNames.{var_names}
use Rattle.replay.specs.Grammar.{TellsNames}
use Rattle.replay.proofs.OneWay.{sized_names}

-- ---- words

glyph_by : (b : Bool) (d : ℕ) → 48 ≤ (if b then 48 + d else 87 + d)
glyph_by true d = omega arith
glyph_by false d = omega arith

glyph : (d : ℕ) → digit_glyph false d ≢ 10
glyph d = let high : 48 ≤ digit_glyph false d = glyph_by (nat_lt d 10) d in λ e. omega (arith, high, e)

onto_by : (b : Bool) (x y : List ℕ) → Lacks 10 x → Lacks 10 y → Lacks 10 (if b then x else y)
onto_by true x y h k = h
onto_by false x y h k = k

onto_unbroken : (k n : ℕ) (acc : List ℕ) → Lacks 10 acc → Lacks 10 (digits_onto k 10 false n acc)
onto_unbroken zero n acc h = h
onto_unbroken (suc k) n acc h =
    let longer = digit_glyph false (n % 10) ∷ acc in
    onto_by (n / 10 == 0) longer (digits_onto k 10 false (n / 10) longer) (glyph (n % 10), h) (onto_unbroken k (n / 10) longer (glyph (n % 10), h))

decimal_unbroken : (n : ℕ) → Lacks 10 (decimal n)
unfolding digits
decimal_unbroken n = onto_unbroken 64 n [] tt

signed_unbroken : (z : ℤ) → Lacks 10 (signed_decimal z)
signed_unbroken (pos n) = decimal_unbroken n
signed_unbroken (negsuc n) = (λ e. omega (arith, e), decimal_unbroken (suc n))

all_signed : (zs : List ℤ) → Each (Lacks 10) (map signed_decimal zs)
all_signed [] = tt
all_signed (z ∷ zs) = (signed_unbroken z, all_signed zs)

digits_unbroken : (bytes : List ℕ) → Lacks 10 (flat_map hex_digits bytes)
digits_unbroken [] = tt
digits_unbroken (b ∷ bs) = (glyph (b / 16), (glyph (b % 16), digits_unbroken bs))

hex_unbroken : (bytes : List ℕ) → Lacks 10 (hex_word bytes)
hex_unbroken [] = unbroken (codes "-") (free_word (codes "-") refl)
hex_unbroken (b ∷ bs) = digits_unbroken (b ∷ bs)

name_unbroken : (names : List (List ℕ)) (p : ℕ) → Each IsWord names → Lacks 10 (name_at names p)
name_unbroken [] zero h = tt
name_unbroken [] (suc p) h = tt
name_unbroken (n ∷ ns) zero h = unbroken n h.0
name_unbroken (n ∷ ns) (suc p) h = name_unbroken ns p h.1

behind_unbroken : (ws : List (List ℕ)) → Each (Lacks 10) ws → Lacks 10 (flat_map (λ w. 32 ∷ w) ws)
behind_unbroken [] h = tt
behind_unbroken (w ∷ ws) h = (λ e. omega (arith, e), each_append _ w (flat_map (λ w. 32 ∷ w) ws) h.0 (behind_unbroken ws h.1))

words_unbroken : (w : List ℕ) (ws : List (List ℕ)) → Lacks 10 w → Each (Lacks 10) ws → Lacks 10 (line_of (w ∷ ws))
words_unbroken w ws h k = each_append _ w (flat_map (λ w. 32 ∷ w) ws) h (behind_unbroken ws k)

-- ---- lines

sents_unbroken : (names : List (List ℕ)) (ds : List Datagram) → Each IsWord names → Each (Lacks 10) (map (sent_line names) ds)
sents_unbroken names [] h = tt
sents_unbroken names (d ∷ ds) h =
    (words_unbroken (codes "sent") (name_at names d.0 ∷ hex_word d.1 ∷ []) (unbroken (codes "sent") (free_word (codes "sent") refl)) (name_unbroken names d.0 h, (hex_unbroken d.1, tt)), sents_unbroken names ds h)

vars_unbroken : (process : List ℕ) (vars : List VarName) (cells : List ℤ) → IsWord process → Each IsWord (var_names vars) → Each (Lacks 10) (vars_of process vars cells)
vars_unbroken process [] cells h k = tt
vars_unbroken process (v ∷ vs) cells h k = (
  words_unbroken (codes "var") (process ∷ v.text ∷ map signed_decimal (take v.cells cells)) (unbroken (codes "var") (free_word (codes "var") refl)) (unbroken process h, (unbroken v.text k.0, all_signed (take v.cells cells))),
  vars_unbroken process vs (drop v.cells cells) h k.1,
)

all_vars : (names : List (List ℕ)) (vars : List (List VarName)) (stores : List (List ℤ)) → Each IsWord names → Each (λ own. AreNames (var_names own)) vars → Each (Lacks 10) (var_lines names vars stores)
all_vars [] [] [] h k = tt
all_vars [] [] (cells ∷ stores) h k = tt
all_vars [] (own ∷ vars) [] h k = tt
all_vars [] (own ∷ vars) (cells ∷ stores) h k = tt
all_vars (n ∷ names) [] [] h k = tt
all_vars (n ∷ names) [] (cells ∷ stores) h k = tt
all_vars (n ∷ names) (own ∷ vars) [] h k = tt
all_vars (n ∷ names) (own ∷ vars) (cells ∷ stores) h k =
    each_append (Lacks 10) (vars_of n own cells) (var_lines names vars stores) (vars_unbroken n own cells h.0 k.0.0) (all_vars names vars stores h.1 k.1)

last_unbroken : (semantics : Semantics) (s : State) → TellsNames semantics → Each (Lacks 10) (last_lines semantics s)
last_unbroken semantics s tells =
    each_append (Lacks 10) (var_lines (names_in semantics) (vars_in semantics) s.stores) (codes "end" ∷ []) (all_vars (names_in semantics) (vars_in semantics) s.stores tells.processes.0 tells.vars)
    (unbroken (codes "end") (free_word (codes "end") refl), tt)

run_unbroken : (semantics : Semantics) (s : State) (ls : List Label) (lines : List (List ℕ)) → TellsNames semantics → Each (IsSized (length semantics.processes)) ls → run_lines semantics s ls ≡ Some lines
    → Each (Lacks 10) lines
run_unbroken semantics s [] lines tells sized h = subst (Each (Lacks 10)) (sym (unwrapped [] lines h)) tt
run_unbroken semantics s (l ∷ ls) lines tells sized h =
    let names = names_in semantics in
    let st = one_step semantics s l ls lines h in
    subst (Each (Lacks 10)) (sym st.is) (
      line_unbroken names l tells.processes.0 (sized_names semantics l sized.0),
      each_append (Lacks 10) (map (sent_line names) st.out) st.more (sents_unbroken names st.out tells.processes.0) (run_unbroken semantics st.after.0 ls st.more tells sized.1 st.rest),
    )

-- the lines of a trace
pub trace_unbroken : (semantics : Semantics) (s : State) (ls : List Label) (lines : List (List ℕ)) → TellsNames semantics → Each (IsSized (length semantics.processes)) ls
    → trace_lines semantics s ls ≡ Some lines → Each (Lacks 10) lines
trace_unbroken semantics s ls lines tells sized h =
    let a = bound (run_lines semantics s ls) _ lines h in
    let b = bound (settled_after semantics s ls) (λ last. Some (a.x ++ last_lines semantics last)) lines a.then_ in
    subst (Each (Lacks 10)) (sym (unwrapped _ _ b.then_)) (each_append (Lacks 10) a.x (last_lines semantics b.x) (run_unbroken semantics s ls a.x tells sized a.from) (last_unbroken semantics b.x tells))
