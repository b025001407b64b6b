-- The channels of a state stand where the numbers of two processes say, and what has arrived is looked for there.
use Rattle.std.specs.Prelude.{ℕ, ◌≤◌, ◌≡◌, Bool, List, map, length}
use Rattle.std.specs.List.{list_any, range_with_len}
use Rattle.std.specs.Option.{is_some}
use Rattle.abstract_run.specs.declared.state.Channel.{Channel}
use Rattle.abstract_run.specs.declared.state.State.{State}
use Rattle.abstract_run.specs.Channels.{channels_among, waiting}

-- the channels of all ordered pairs of so many processes, at most 64
pub record AreAmong (n : ℕ) (channels : List Channel) : Type 0 where
  pub few : n ≤ 64
  pub senders : map (λ c. c.from) channels ≡ map (λ c. c.from) (channels_among n)
  pub receivers : map (λ c. c.to) channels ≡ map (λ c. c.to) (channels_among n)

abbrev pub HasChannels : State → Type 0
HasChannels s = AreAmong (length s.down) s.channels

-- the first cell from q to p has arrived
abbrev pub is_waiting : State → ℕ → ℕ → Bool
is_waiting s p q = is_some (waiting s.channels q p)

-- something has arrived at p
abbrev pub any_waiting : State → ℕ → Bool
any_waiting s p = list_any (is_waiting s p) (range_with_len 0 (length s.down))
