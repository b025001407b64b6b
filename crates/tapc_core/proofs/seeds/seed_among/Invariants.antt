use Rattle.std.proofs.Common.{◌≡◌, ◌++◌, drop}
use Rattle.tapc_core.specs.SeedWords.{one_seed, seed_listed, seeds_among}
use Rattle.tapc_core.proofs.seeds.seed_among.Given as goal

-- the seed so far, and then those among the words that are left, are all
abbrev pub invariant-loop-word : goal.invariant-loop-word
invariant-loop-word l = one_seed (seed_listed l.found ++ seeds_among (drop l.word-index l.words)) ≡ one_seed (seeds_among l.words)
