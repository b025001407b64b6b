-- Words of a line, which is made of words with a space between each two.
use Rattle.std.specs.Prelude.{◌≢◌, ℕ, List}
use Rattle.tap_base.specs.Lists.{Each}

-- no space and no line feed
abbrev pub IsWord : List ℕ → Type 0
IsWord bytes = Each (λ b. (b ≢ 32) × (b ≢ 10)) bytes
