use Rattle.std.proofs.Common.{◌≡◌, ◌+◌, ◌-◌, length, ap, sym, subst, arith}
use Rattle.std.proofs.lemmas.List.{length-set}
use Rattle.code_rules.specs.Nests.{AreSoonest}
use Rattle.code_rules.proofs.NestFacts.{soonest_more}
use Rattle.code_rules.proofs.nests.soonest_ends.Goals as goal

pub numbers-preserved : goal.numbers-preserved
numbers-preserved c =
    let before : c.numbers.at ≡ c.numbers.at - 1 + 1 = omega arith in
    let more = soonest_more c.args.instrs.now c.numbers.ends c.numbers.at (c.numbers.at - 1) c.soonest_from-end.result before c.numbers.invariant.0 c.soonest_from-end.ensures in
    let counted = length-set c.numbers.ends (c.numbers.at - 1) c.soonest_from-end.result in
    (subst (AreSoonest c.args.instrs.now (c.numbers.at - 1)) (sym c.set.ensures) more, omega (arith, c.numbers.invariant.1, counted, ap length c.set.ensures), omega (arith, c.numbers.invariant.2))
