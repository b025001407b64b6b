use Rattle.std.proofs.Common.{◌≡◌, take}
use Rattle.std.specs.BTreeSet.{contains}
use Rattle.std.specs.List.{list_any}
use Rattle.tap_types.specs.inner.Receiving.{Numbers, compared, is_of}
use Rattle.tap_types.proofs.receivers.hold_each.Given as goal

abbrev pub invariant-receives : goal.invariant-receives
invariant-receives l = (q : Numbers) → contains compared l.numbers q ≡ list_any (is_of q) (take l.receive-index l.receives)
