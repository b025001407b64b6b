-- The commands that words are.
use Rattle.std.specs.Prelude.{ℕ, ◌≤◌, ⊤, Bool, true, false, ◌&&◌, ◌||◌, List, [], ◌∷◌, ◌++◌, Option, Some, None, codes, if◌then◌else◌, is_some, nat_le}
use Rattle.std.specs.List.{list_all}
use Rattle.std.specs.Str.{bytes_eq}
use Rattle.tap_base.specs.Option.{◌>>=◌, provided}
use Rattle.run_text.specs.ScheduleText.{most_events}
use Rattle.tap_settings.specs.SettingText.{Assignment}
use Rattle.tapc_core.specs.SeedWords.{natural_in, one_seed, seed_in, seeds_among}
use Rattle.tapc_core.specs.SettingWords.{setting_in, settings_among}
use Rattle.tapc_core.specs.declared.words.Command.{Command}
use Rattle.tapc_core.specs.declared.words.Command.TheVariants.{Check, Make, Print, Replay, Soak, World}

-- a command, by the words that it takes
pub data Asked : Type 0 where
  check : (system : List ℕ) → Asked
  print : (system : List ℕ) → Asked
  world : (system schedule : List ℕ) (seed : ℕ) (settings : List Assignment) → Asked
  replay : (system trace : List ℕ) (settings : List Assignment) → Asked
  make : (system : List ℕ) (seed events faults : ℕ) → Asked
  soak : (system : List ℕ) (seed events faults : ℕ) (settings : List Assignment) → Asked

-- what a command asks for
abbrev pub asked_by : Command → Asked
asked_by (Check system) = check system.now
asked_by (Print system) = print system.now
asked_by (World system schedule seed settings) = world system.now schedule.now seed (settings_among settings.now)
asked_by (Replay system trace settings) = replay system.now trace.now (settings_among settings.now)
asked_by (Make system seed events faults) = make system.now seed events faults
asked_by (Soak system seed events faults settings) = soak system.now seed events faults (settings_among settings.now)

-- a file word is any word that is not empty
abbrev pub is_file : List ℕ → Bool
is_file [] = false
is_file (c ∷ cs) = true

-- whether a word is a setting of an input
abbrev pub is_input_setting : List ℕ → Bool
is_input_setting word = is_some (setting_in word)

-- whether a word is a setting: of an input, or of the seed
abbrev pub is_setting : List ℕ → Bool
is_setting word = is_input_setting word || is_some (seed_in word)

-- the number of events that a command asks for is within its limit
abbrev pub IsWithin : Command → Type 0
IsWithin (Soak system seed events faults settings) = events ≤ most_events
IsWithin _ = ⊤

-- the number of events or of faults that a word is, no greater than that of the events of a schedule; none where there is none
abbrev pub count_in : List ℕ → Option ℕ
count_in word = do
  n ← natural_in word
  provided (nat_le n most_events) n

-- the command `world` on these files, where all words behind them are settings, and at most one of them gives the seed
abbrev pub world_of : List ℕ → List ℕ → List (List ℕ) → Option Asked
world_of system schedule words = do
  seed ← one_seed (seeds_among words)
  provided (list_all is_setting words) (world system schedule seed (settings_among words))

-- the command `replay` on these files, where all words behind them are settings of inputs
abbrev pub replay_of : List ℕ → List ℕ → List (List ℕ) → Option Asked
replay_of system trace words = provided (list_all is_input_setting words) (replay system trace (settings_among words))

-- the command `make` on this file, where three numbers stand behind it, and nothing else
abbrev pub make_of : List ℕ → List ℕ → List (List ℕ) → Option Asked
make_of system seed (events ∷ faults ∷ []) = do
  s ← natural_in seed
  n ← count_in events
  k ← count_in faults
  Some (make system s n k)
make_of system seed _ = None

-- the command `soak` on this file, where three numbers stand behind it, and then settings of inputs
abbrev pub soak_of : List ℕ → List ℕ → List (List ℕ) → Option Asked
soak_of system seed (events ∷ faults ∷ words) = do
  s ← natural_in seed
  n ← count_in events
  k ← count_in faults
  provided (list_all is_input_setting words) (soak system s n k (settings_among words))
soak_of system seed _ = None

-- the command that words are, or none
abbrev pub command_of : List (List ℕ) → Option Asked
command_of (word ∷ system ∷ []) =
    if bytes_eq word (codes "check") && is_file system then Some (check system)
    else if bytes_eq word (codes "print") && is_file system then Some (print system)
    else None
command_of (word ∷ system ∷ third ∷ words) =
    if bytes_eq word (codes "world") && is_file system && is_file third then world_of system third words
    else if bytes_eq word (codes "replay") && is_file system && is_file third then replay_of system third words
    else if bytes_eq word (codes "make") && is_file system then make_of system third words
    else if bytes_eq word (codes "soak") && is_file system then soak_of system third words
    else None
command_of _ = None

-- the line that is written where the words are no command
abbrev pub usage_line : List ℕ
usage_line = codes "usage: tapc check | print | compile | world | node | replay | make | soak" ++ 10 ∷ []
