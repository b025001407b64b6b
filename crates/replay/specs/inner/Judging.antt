-- What judging one line is given.
use Rattle.std.specs.Prelude.{◌≡◌, ℕ, List, ◌++◌, map, Option, Some}
use Rattle.std.specs.Option.{option_map}
use Rattle.tap_base.specs.Option.{each}
use Rattle.tap_exec.specs.declared.running.Outgoing.{Outgoing}
use Rattle.tap_exec.specs.Semantics.{Semantics, semantics_of}
use Rattle.abstract_run.specs.Safe.{IsSafe}
use Rattle.run_text.specs.TraceText.{Datagram, datagram, lines_text, names_in, sent_line}
use Rattle.replay.specs.Grammar.{TellsNames, names_told}
use Rattle.replay.specs.declared.given.Given.{Given}

abbrev pub said_by : Given → Semantics
said_by given = semantics_of given.system.now

-- The system is safe, its names tell its processes and variables apart, and these are its names.
pub record IsGiven (given : Given) : Type 0 where
  pub safe : IsSafe given.system.now
  pub tells : TellsNames (said_by given)
  pub names : given.names.now ≡ names_told (said_by given)

-- the text of the lines of sends; none where a message is not declared
abbrev pub sends_text : Semantics → List Outgoing → Option (List ℕ)
sends_text semantics sends = option_map (λ (ds : List Datagram). lines_text (map (sent_line (names_in semantics)) ds)) (each (datagram semantics) sends)

-- What is expected was written behind a text.
pub record Wrote (expected : Option (List ℕ)) (before after : List ℕ) : Type 0 where
  pub lines : List ℕ
  pub shown : expected ≡ Some lines
  pub told : after ≡ before ++ lines
