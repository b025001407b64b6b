use Rattle.std.proofs.Common.{◌≡◌, ◌∙◌, ap, length, map, take, arith}
use Rattle.std.proofs.Math.Seq.{take-length}
use Rattle.world_run.proofs.Cursors.{first_cursor, opening_is}
use Rattle.world_run.proofs.turnstiles.turnstiles_of.Goals as goal

pub returns : goal.returns
returns c =
    let items = c.as_slice-process-items.result.now in
    let whole : c.loop-process.process-index ≡ length items = omega arith in
    c.loop-process.invariant ∙ ap (map first_cursor) (ap (λ n. take n items) whole ∙ take-length items ∙ c.as_slice-process-items.ensures) ∙ opening_is c.args.system.now
