-- How the lines of what a world did are written.
use Rattle.std.specs.Prelude.{◌≡◌, ℕ, Bool, true, false, List, [], ◌++◌, map, flat_map, Option, Some, if◌then◌else◌}
use Rattle.std.specs.Option.{option_map}
use Rattle.tap_base.specs.Option.{each}
use Rattle.tap_exec.specs.declared.running.Outgoing.{Outgoing}
use Rattle.tap_exec.specs.Semantics.{Semantics}
use Rattle.abstract_run.specs.declared.label.Label.{Label}
use Rattle.abstract_run.specs.declared.label.Label.TheVariants as label
use Rattle.run_text.specs.TraceText.{Datagram, datagram, lines_text, lines_with, names_in, sent_line}

-- What is expected was written behind a text.
pub record Wrote (expected : Option (List ℕ)) (before after : List ℕ) : Type 0 where
  pub lines : List ℕ
  pub shown : expected ≡ Some lines
  pub told : after ≡ before ++ lines

-- the text of the lines of sends; none where a message is not declared
abbrev pub sends_text : Semantics → List Outgoing → Option (List ℕ)
sends_text semantics sends = option_map (λ (ds : List Datagram). lines_text (map (sent_line (names_in semantics)) ds)) (each (datagram semantics) sends)

abbrev pub is_act : Label → Bool
is_act (label.Act p a choices) = true
is_act _ = false

-- a label, with these datagrams where it is an action, and else with none
abbrev pub beside : List Datagram → Label → Label × List Datagram
beside ds l = (l, if is_act l then ds else [])

-- the text of the lines of labels, among which sends went out with the actions; none where a message is not declared
abbrev pub labels_text : Semantics → List Outgoing → List Label → Option (List ℕ)
labels_text semantics sends labels = option_map (λ (ds : List Datagram). lines_text (flat_map (lines_with (names_in semantics)) (map (beside ds) labels))) (each (datagram semantics) sends)
