use Rattle.std.proofs.Common.{◌≡◌, map}
use Rattle.std.specs.List.{range_with_len}
use Rattle.drawn_choices.specs.Draws.{generator_of}
use Rattle.world_run.proofs.generators.generators_of.Given as goal

abbrev pub invariant-loop-process : goal.invariant-loop-process
invariant-loop-process l = l.generators ≡ map (generator_of l.seed) (range_with_len 0 l.process)
