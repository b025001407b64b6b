-- The text of a schedule: a line for each event.
use Rattle.std.specs.Prelude.{◌≡◌, ℕ, ◌^◌, ◌<◌, ◌≤◌, ◌≢◌, ◌⊎◌, length, List, [], ◌∷◌, ◌++◌, map, codes}
use Rattle.std.specs.Fmt.{decimal}
use Rattle.tap_base.specs.Lists.{Each}
use Rattle.abstract_run.specs.declared.label.Event.{Event}
use Rattle.abstract_run.specs.declared.label.Event.TheVariants as event
use Rattle.run_text.specs.Names.{AreNames}
use Rattle.run_text.specs.Sized.{AreDatagram, IsShortNumber}
use Rattle.run_text.specs.TraceText.{hex_word, line_of, lines_text, name_at}

-- how many events a schedule has at most
abbrev pub most_events : ℕ
most_events = 1000000

-- two different ones of so many processes
abbrev pub AreTwo : ℕ → ℕ → ℕ → Type 0
AreTwo processes q p = (q < processes) × (p < processes) × (q ≢ p)

-- the events of so many processes that have a line: a reading has 64 bits, a place 32, and a cut comes after at most
-- 1,000,000 sends
abbrev pub HasLine : ℕ → Event → Type 0
HasLine processes (event.Turn p c) = (p < processes) × (c < 2 ^ 64)
HasLine processes (event.Arrive q p) = AreTwo processes q p
HasLine processes (event.Lose q p i) = AreTwo processes q p × IsShortNumber i
HasLine processes (event.Copy q p i) = AreTwo processes q p × IsShortNumber i
HasLine processes (event.Move q p i j) = AreTwo processes q p × IsShortNumber i × IsShortNumber j
HasLine processes (event.Damage q p i bytes) = AreTwo processes q p × IsShortNumber i × AreDatagram bytes
HasLine processes (event.Forge q p bytes) = AreTwo processes q p × AreDatagram bytes
HasLine processes (event.Cut p n) = (p < processes) × (n ≤ most_events)

-- the words of the line of an event
abbrev pub event_words : List (List ℕ) → Event → List (List ℕ)
event_words names (event.Turn p c) = codes "turn" ∷ name_at names p ∷ decimal c ∷ []
event_words names (event.Arrive q p) = codes "arrive" ∷ name_at names q ∷ name_at names p ∷ []
event_words names (event.Lose q p i) = codes "lose" ∷ name_at names q ∷ name_at names p ∷ decimal i ∷ []
event_words names (event.Copy q p i) = codes "copy" ∷ name_at names q ∷ name_at names p ∷ decimal i ∷ []
event_words names (event.Move q p i j) = codes "move" ∷ name_at names q ∷ name_at names p ∷ decimal i ∷ decimal j ∷ []
event_words names (event.Damage q p i bytes) = codes "damage" ∷ name_at names q ∷ name_at names p ∷ decimal i ∷ hex_word bytes ∷ []
event_words names (event.Forge q p bytes) = codes "forge" ∷ name_at names q ∷ name_at names p ∷ hex_word bytes ∷ []
event_words names (event.Cut p n) = codes "cut" ∷ name_at names p ∷ decimal n ∷ []

-- the line of an event, without its line feed
abbrev pub event_line : List (List ℕ) → Event → List ℕ
event_line names e = line_of (event_words names e)

-- The event has a line, and it is this one.
abbrev pub IsLineOf : List (List ℕ) → List ℕ → Event → Type 0
IsLineOf names line e = HasLine (length names) e × (line ≡ event_line names e)

-- The event has a line, of these words.
abbrev pub AreWordsOf : List (List ℕ) → List (List ℕ) → Event → Type 0
AreWordsOf names words e = HasLine (length names) e × (words ≡ event_words names e)

-- ---- schedules

-- the text of events, each line with its line feed
abbrev pub events_text : List (List ℕ) → List Event → List ℕ
events_text names events = lines_text (map (event_line names) events)

-- Events that a schedule of so many processes can have.
pub record AreListed (processes : ℕ) (events : List Event) : Type 0 where
  pub each : Each (HasLine processes) events
  pub few : length events ≤ most_events

-- The text is the lines of the events. The line feed of the last line may be wanting.
abbrev pub SpellsSchedule : List (List ℕ) → List ℕ → List Event → Type 0
SpellsSchedule names text events =
    AreListed (length names) events × ((text ≡ events_text names events) ⊎ (text ++ 10 ∷ [] ≡ events_text names events))

-- The text begins with the lines of the events. The line feed of its last line may be wanting.
pub record BeginsSchedule (names : List (List ℕ)) (text : List ℕ) (events : List Event) : Type 0 where
  pub listed : AreListed (length names) events
  pub rest : List ℕ
  pub split : text ++ 10 ∷ [] ≡ events_text names events ++ rest

-- The line is that of no event.
abbrev pub IsOfNoEvent : List (List ℕ) → List ℕ → Type 0
IsOfNoEvent names line = (e : Event) → IsLineOf names line e → ⊥

-- no byte is this one
abbrev pub Lacks : ℕ → List ℕ → Type 0
Lacks byte text = Each (λ b. b ≢ byte) text

-- The first line of a text, and what is behind its line feed, or nothing where it has none.
abbrev pub IsFirstLine : List ℕ → List ℕ → List ℕ → Type 0
IsFirstLine text line rest = (text ≡ line ++ 10 ∷ rest) ⊎ ((text ≡ line) × (rest ≡ []))

-- A text whose first line, up to its line feed, is that of no event.
pub record BeginsBadly (names : List (List ℕ)) (text : List ℕ) : Type 0 where
  pub line : List ℕ
  pub behind : List ℕ
  pub first : IsFirstLine text line behind
  pub whole : Lacks 10 line
  pub none : IsOfNoEvent names line

-- The text has a line behind those of the events: it is that of no event, or of one event too many.
pub record GoesOnAfter (names : List (List ℕ)) (text : List ℕ) (events : List Event) : Type 0 where
  pub rest : List ℕ
  pub listed : AreListed (length names) events
  pub split : text ≡ events_text names events ++ rest
  pub more : rest ≢ []
  pub bad : (length events ≡ most_events) ⊎ BeginsBadly names rest

-- The text has a line behind those of the events, and it is that of one more event.
pub record MeetsEvent (names : List (List ℕ)) (text : List ℕ) (events : List Event) : Type 0 where
  pub rest : List ℕ
  pub listed : AreListed (length names) events
  pub split : text ≡ events_text names events ++ rest
  pub line : List ℕ
  pub behind : List ℕ
  pub first : IsFirstLine rest line behind
  pub event : Event
  pub next : IsLineOf names line event
  pub one_more : length events < most_events

-- A schedule has a bad line, or is one of events: it is never both.
abbrev pub NeverBoth : Type 0
NeverBoth = (names : List (List ℕ)) (text : List ℕ) (events others : List Event) → AreNames names → SpellsSchedule names text events → GoesOnAfter names text others → ⊥
