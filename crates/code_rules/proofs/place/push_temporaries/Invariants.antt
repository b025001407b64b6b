use Rattle.std.proofs.Common.{◌≡◌, ◌++◌, map, take}
use Rattle.register_code.specs.Registers.{temporary_range}
use Rattle.code_rules.proofs.place.push_temporaries.Given as goal

abbrev pub invariant-loop-temporary : goal.invariant-loop-temporary
invariant-loop-temporary l = l.all ≡ l.fn.all ++ map temporary_range (take l.temporary-index l.temporaries)
