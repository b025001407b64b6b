-- How often labels of some kinds come in a run.
use Rattle.std.specs.Prelude.{◌≡◌, Bool, true, false, List, length, filter, flat_map, Some}
use Rattle.tap_exec.specs.Semantics.{Semantics}
use Rattle.abstract_run.specs.declared.label.Label.{Label}
use Rattle.abstract_run.specs.declared.label.Label.TheVariants as label
use Rattle.abstract_run.specs.declared.state.State.{State}
use Rattle.run_text.specs.TraceText.{Datagram, with_sents}
use Rattle.soak_run.specs.declared.tally.Tally.{Tally}

-- ---- kinds of labels

-- an action runs
abbrev pub is_act : Label → Bool
is_act (label.Act p a choices) = true
is_act _ = false

-- an error is rejected
abbrev pub is_reject : Label → Bool
is_reject (label.Reject q p i) = true
is_reject _ = false

-- no action is enabled in a turn
abbrev pub is_idle : Label → Bool
is_idle (label.Idle p) = true
is_idle _ = false

-- nothing happens
abbrev pub is_void : Label → Bool
is_void label.Void = true
is_void _ = false

-- ---- tallies

-- The tally of labels from a state on: of each kind there are so many, and so many datagrams went out with them.
pub record IsTallyOf (semantics : Semantics) (s : State) (labels : List Label) (tally : Tally) : Type 0 where
  pub acts : tally.acts ≡ length (filter is_act labels)
  pub rejects : tally.rejects ≡ length (filter is_reject labels)
  pub idles : tally.idles ≡ length (filter is_idle labels)
  pub voids : tally.voids ≡ length (filter is_void labels)
  pub pairs : List (Label × List Datagram)
  pub shown : with_sents semantics s labels ≡ Some pairs
  pub sents : tally.sents ≡ length (flat_map (λ x. x.1) pairs)
