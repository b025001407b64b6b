use Rattle.std.proofs.Common.{◌≡◌, flat_map, drop}
use Rattle.tap_printer.specs.inner.Pages.{after}
use Rattle.tap_printer.proofs.written.write_all.Given as goal

-- what is written, and then the items that are left, are the whole
abbrev pub invariant-loop-item : goal.invariant-loop-item
invariant-loop-item g l = after l.pen (flat_map g.T.Written.tokens (drop l.item-index l.items)) ≡ after l.fn.pen (flat_map g.T.Written.tokens l.items)
