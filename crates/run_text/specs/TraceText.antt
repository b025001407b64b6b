-- The text of a run: a line for each label and each datagram that went out, the last values of the variables, and the
-- end. Lines have no line feed until `lines_text` joins them.
use Rattle.std.specs.Prelude.{ℕ, ℤ, ◌/◌, ◌%◌, ◌-◌, false, List, [], ◌∷◌, ◌++◌, length, map, flat_map, take, drop, slice_get, unwrap_or, codes, Option, Some, None, is_none}
use Rattle.std.specs.Option.{option_map}
use Rattle.std.specs.Fmt.{decimal, signed_decimal, digit_glyph}
use Rattle.tap_base.specs.declared.system.Var.{Var}
use Rattle.tap_base.specs.Option.{◌>>=◌, each, provided}
use Rattle.tap_exec.specs.declared.running.Outgoing.{Outgoing}
use Rattle.abstract_run.specs.declared.label.Label.{Label}
use Rattle.abstract_run.specs.declared.label.Label.TheVariants as label
use Rattle.abstract_run.specs.declared.state.Falling.{Falling}
use Rattle.abstract_run.specs.declared.state.State.{State}
use Rattle.abstract_run.specs.Run.{state_after}
use Rattle.tap_exec.specs.Semantics.{Semantics}
use Rattle.byte_meaning.specs.Spelling.{spelled}
use Rattle.abstract_run.specs.Step.{After, step}
use Rattle.run_text.specs.declared.names.VarName.{VarName}

-- ---- words

-- the line of words, with a single space between each two
abbrev pub line_of : List (List ℕ) → List ℕ
line_of [] = []
line_of (word ∷ more) = word ++ flat_map (λ w. 32 ∷ w) more

-- the text of lines, each with its line feed
abbrev pub lines_text : List (List ℕ) → List ℕ
lines_text lines = flat_map (λ l. l ++ 10 ∷ []) lines

-- a byte as two hexadecimal digits of lower case
abbrev pub hex_digits : ℕ → List ℕ
hex_digits b = digit_glyph false (b / 16) ∷ digit_glyph false (b % 16) ∷ []

-- bytes as hexadecimal digits, and `-` for no bytes
abbrev pub hex_word : List ℕ → List ℕ
hex_word [] = codes "-"
hex_word (b ∷ bs) = flat_map hex_digits (b ∷ bs)

-- ---- names

-- the names of the processes, in order of declaration
abbrev pub names_in : Semantics → List (List ℕ)
names_in semantics = map (λ p. p.name) semantics.processes

abbrev pub var_name : Var → VarName
var_name v = record { text = v.name; cells = v.cells }

-- the names of the variables of each process, in order of declaration
abbrev pub vars_in : Semantics → List (List VarName)
vars_in semantics = map (λ p. map var_name p.vars) semantics.processes

-- the name of a process by its number; no bytes where there is none, which no label and no send of a run names
abbrev pub name_at : List (List ℕ) → ℕ → List ℕ
name_at names p = unwrap_or (slice_get names p) []

-- ---- labels

-- the words of the line of a label
abbrev pub label_words : List (List ℕ) → Label → List (List ℕ)
label_words names (label.Tick p c) = codes "tick" ∷ name_at names p ∷ decimal c ∷ []
label_words names (label.Reject q p i) = codes "reject" ∷ name_at names q ∷ name_at names p ∷ decimal i ∷ []
label_words names (label.Act p a choices) = codes "act" ∷ name_at names p ∷ decimal a ∷ map signed_decimal choices
label_words names (label.Idle p) = codes "idle" ∷ name_at names p ∷ []
label_words names (label.Flood p) = codes "flood" ∷ name_at names p ∷ []
label_words names (label.Arrive q p) = codes "arrive" ∷ name_at names q ∷ name_at names p ∷ []
label_words names (label.Lose q p i) = codes "lose" ∷ name_at names q ∷ name_at names p ∷ decimal i ∷ []
label_words names (label.Copy q p i) = codes "copy" ∷ name_at names q ∷ name_at names p ∷ decimal i ∷ []
label_words names (label.Move q p i j) = codes "move" ∷ name_at names q ∷ name_at names p ∷ decimal i ∷ decimal j ∷ []
label_words names (label.Damage q p i bytes) = codes "damage" ∷ name_at names q ∷ name_at names p ∷ decimal i ∷ hex_word bytes ∷ []
label_words names (label.Forge q p bytes) = codes "forge" ∷ name_at names q ∷ name_at names p ∷ hex_word bytes ∷ []
label_words names (label.Cut p n) = codes "cut" ∷ name_at names p ∷ decimal n ∷ []
label_words names (label.Stop p receivers) = codes "stop" ∷ name_at names p ∷ map (name_at names) receivers
label_words names (label.Down p) = codes "down" ∷ name_at names p ∷ []
label_words names label.Void = codes "void" ∷ []

-- the line of a label
abbrev pub label_line : List (List ℕ) → Label → List ℕ
label_line names l = line_of (label_words names l)

-- ---- datagrams

-- a datagram: its receiver, and its bytes
abbrev pub Datagram : Type 0
Datagram = ℕ × List ℕ

-- a send as a datagram; none where its message is not declared
abbrev pub datagram : Semantics → Outgoing → Option Datagram
datagram semantics o = option_map (λ bytes. (o.to, bytes)) (spelled semantics o.message o.values)

-- the receivers of the sends that a fallen cut takes back
abbrev pub taken_back : Option Falling → List ℕ
taken_back None = []
taken_back (Some f) = f.receivers

-- the sends that went out in a step: all that were sent, but where a cut fell those before the failed one
abbrev pub went_out : After → List Outgoing
went_out after = take (length after.1 - length (taken_back after.0.falling)) after.1

-- the line of a datagram
abbrev pub sent_line : List (List ℕ) → Datagram → List ℕ
sent_line names d = line_of (codes "sent" ∷ name_at names d.0 ∷ hex_word d.1 ∷ [])

-- ---- the labels of a run

-- labels from a state on, each with the datagrams that went out with it; none where a label is not possible in its turn
abbrev pub with_sents : Semantics → State → List Label → Option (List (Label × List Datagram))
with_sents semantics s [] = Some []
with_sents semantics s (l ∷ ls) = do
  after ← step semantics s l
  out ← each (datagram semantics) (went_out after)
  more ← with_sents semantics after.0 ls
  Some ((l, out) ∷ more)

-- the line of a label, and behind it those of the datagrams that went out with it
abbrev pub lines_with : List (List ℕ) → Label × List Datagram → List (List ℕ)
lines_with names x = label_line names x.0 ∷ map (sent_line names) x.1

-- the lines of labels from a state on
abbrev pub run_lines : Semantics → State → List Label → Option (List (List ℕ))
run_lines semantics s labels = option_map (flat_map (lines_with (names_in semantics))) (with_sents semantics s labels)

-- ---- variables

-- the line of a variable of a process, with one value for each of its cells
abbrev pub var_line : List ℕ → List ℕ → List ℤ → List ℕ
var_line process name values = line_of (codes "var" ∷ process ∷ name ∷ map signed_decimal values)

-- the lines of the variables of a process, which share out its cells in order of declaration
abbrev pub vars_of : List ℕ → List VarName → List ℤ → List (List ℕ)
vars_of process [] cells = []
vars_of process (v ∷ vs) cells = var_line process v.text (take v.cells cells) ∷ vars_of process vs (drop v.cells cells)

-- the lines of the variables of every process: for each its name, its variables and its cells
abbrev pub var_lines : List (List ℕ) → List (List VarName) → List (List ℤ) → List (List ℕ)
var_lines (process ∷ names) (own ∷ vars) (cells ∷ stores) = vars_of process own cells ++ var_lines names vars stores
var_lines _ _ _ = []

-- ---- a run

-- the lines behind those of the labels: the value of each variable in the last state, and the end
abbrev pub last_lines : Semantics → State → List (List ℕ)
last_lines semantics s = var_lines (names_in semantics) (vars_in semantics) s.stores ++ codes "end" ∷ []

-- the last state of a run, where nothing is falling
abbrev pub settled_after : Semantics → State → List Label → Option State
settled_after semantics s labels = do
  last ← state_after semantics s labels
  provided (is_none last.falling) last

-- the lines of a run from a state on; none where the labels are no run, or something is falling at its end
abbrev pub trace_lines : Semantics → State → List Label → Option (List (List ℕ))
trace_lines semantics s labels = do
  lines ← run_lines semantics s labels
  last ← settled_after semantics s labels
  Some (lines ++ last_lines semantics last)

-- the text of a run from a state on
abbrev pub trace_text : Semantics → State → List Label → Option (List ℕ)
trace_text semantics s labels = option_map lines_text (trace_lines semantics s labels)
