-- Names that tell the processes of a system apart in its lines.
use Rattle.std.specs.Prelude.{ℕ, ◌<◌, ◌^◌, List, length}
use Rattle.tap_base.specs.LineWords.{IsWord}
use Rattle.tap_base.specs.Lists.{Each, AreDistinct}

-- Names that are words, each of one process alone.
abbrev pub AreNames : List (List ℕ) → Type 0
AreNames names = Each IsWord names × AreDistinct names

-- Names of fewer than 2 ^ 32 things.
pub record AreFewNames (names : List (List ℕ)) : Type 0 where
  pub named : AreNames names
  pub few : length names < 2 ^ 32
