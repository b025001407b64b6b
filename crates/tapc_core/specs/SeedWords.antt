-- The words that give a run its seed.
use Rattle.std.specs.Prelude.{ℕ, ◌^◌, ◌&&◌, nat_lt, List, [], ◌∷◌, flat_map, Option, Some, None, codes}
use Rattle.std.specs.Fmt.{decimal}
use Rattle.std.specs.Str.{bytes_eq}
use Rattle.std.specs.Str.Parse.{digits_value}
use Rattle.tap_base.specs.Option.{◌>>=◌, provided}
use Rattle.tapc_core.specs.SettingWords.{cut_at}

-- the number of 64 bits that a word is the decimal of; none where there is none
abbrev pub natural_in : List ℕ → Option ℕ
natural_in word = let n = digits_value 10 word in provided (nat_lt n (2 ^ 64) && bytes_eq word (decimal n)) n

-- the seed that a word is, or none: `seed`, then `=` and a number
abbrev pub seed_in : List ℕ → Option ℕ
seed_in word = do
  parts ← cut_at 61 word
  seed ← natural_in parts.1
  provided (bytes_eq parts.0 (codes "seed")) seed

-- a list of the seed, where there is one
abbrev pub seed_listed : Option ℕ → List ℕ
seed_listed None = []
seed_listed (Some seed) = seed ∷ []

-- the seeds among words
abbrev pub seeds_among : List (List ℕ) → List ℕ
seeds_among words = flat_map (λ word. seed_listed (seed_in word)) words

-- the one seed that is given, and 0 where none is; none where there are several
abbrev pub one_seed : List ℕ → Option ℕ
one_seed [] = Some 0
one_seed (seed ∷ []) = Some seed
one_seed (seed ∷ other ∷ more) = None
