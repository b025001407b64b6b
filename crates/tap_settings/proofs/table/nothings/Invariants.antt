use Rattle.std.proofs.Common.{◌≡◌, None, replicate}
use Rattle.tap_settings.proofs.table.nothings.Given as goal

abbrev pub invariant-loop-j : goal.invariant-loop-j
invariant-loop-j l = l.row ≡ replicate l._j None
