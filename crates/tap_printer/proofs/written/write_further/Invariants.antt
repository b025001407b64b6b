use Rattle.std.proofs.Common.{◌≡◌, map, drop}
use Rattle.tap_printer.specs.Canonical.{further}
use Rattle.tap_printer.specs.inner.Pages.{after}
use Rattle.tap_printer.proofs.written.write_further.Given as goal

-- what is written, and then the items that are left, are the whole
abbrev pub invariant-loop-item : goal.invariant-loop-item
invariant-loop-item g l = after l.pen (further l.separator (map g.T.Written.tokens (drop l.item-index l.items))) ≡ after l.fn.pen (further l.separator (map g.T.Written.tokens l.items))
