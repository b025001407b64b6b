use Rattle.std.proofs.Common.{◌≡◌, [], take, drop}
use Rattle.register_code.specs.Declarations.{are_new}
use Rattle.tap_names.specs.Tables.{entries_of, names_in}
use Rattle.action_code.proofs.limits.all_differ.Given as goal

abbrev pub invariant-names : goal.invariant-names
invariant-names l = (names_in (entries_of l.known) ≡ take l.name-index l.names) × (are_new (take l.name-index l.names) (drop l.name-index l.names) ≡ are_new [] l.names)
