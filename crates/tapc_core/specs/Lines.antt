-- The lines that the program writes beside traces and texts.
use Rattle.std.specs.Prelude.{ℕ, List, [], ◌∷◌, ◌++◌, codes}
use Rattle.std.specs.Fmt.{decimal}
use Rattle.soak_run.specs.declared.tally.Tally.{Tally}

abbrev pub read_fault_line : List ℕ
read_fault_line = codes "read fault\n"

abbrev pub no_memory_line : List ℕ
no_memory_line = codes "no memory\n"

-- how many cells stood in the channels where an event was reached with too many
abbrev pub full_line : ℕ → List ℕ
full_line n = codes "full " ++ decimal n ++ 10 ∷ []

-- the line of the schedule that is none, counted from 1
abbrev pub bad_line : ℕ → List ℕ
bad_line n = codes "bad line " ++ decimal n ++ 10 ∷ []

-- what is written of a trace of a run
abbrev pub run_line : List ℕ
run_line = codes "run\n"

-- the line of the trace that no run goes on with, counted from 1
abbrev pub no_run_line : ℕ → List ℕ
no_run_line n = codes "not a run: line " ++ decimal n ++ 10 ∷ []

-- the line of a count
abbrev pub count_line : List ℕ → ℕ → List ℕ
count_line word n = word ++ codes " " ++ decimal n ++ codes "\n"

-- how many events were served, and how often labels came and datagrams went out
abbrev pub tally_text : ℕ → Tally → List ℕ
tally_text n t =
    count_line (codes "events") n
    ++ count_line (codes "acts") t.acts
    ++ count_line (codes "sents") t.sents
    ++ count_line (codes "rejects") t.rejects
    ++ count_line (codes "idles") t.idles
    ++ count_line (codes "voids") t.voids
