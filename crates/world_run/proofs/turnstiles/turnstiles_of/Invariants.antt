use Rattle.std.proofs.Common.{◌≡◌, map, take}
use Rattle.world_run.proofs.Cursors.{first_cursor}
use Rattle.world_run.proofs.turnstiles.turnstiles_of.Given as goal

abbrev pub invariant-loop-process : goal.invariant-loop-process
invariant-loop-process l = l.turnstiles ≡ map first_cursor (take l.process-index l.process-items)
