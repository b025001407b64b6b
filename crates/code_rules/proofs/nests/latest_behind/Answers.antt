use Rattle.std.proofs.Common.{◌≡◌, ◌+◌, false, get_or, None, sym, ◌∙◌, subst, arith}
use Rattle.register_code.specs.Loops.{is_held_from}
use Rattle.code_rules.proofs.NestFacts.{Covers, come_to, covers_next, measure_falls, within_next}
use Rattle.code_rules.proofs.nests.latest_behind.Goals as goal

pub outward-smaller : goal.outward-smaller
outward-smaller c =
    let here = come_to c.args.instrs.now c.args.begins.now c.args.at c.in-Some.b c.outward.begin c.requires.table c.in-Some.is c.outward.invariant.1 in
    measure_falls c.args.instrs.now c.in-Some.b (get_or c.args.begins.now c.in-Some.b None) c.outward.begin c.in-Some.is here.latest

pub outward-preserved : goal.outward-preserved
outward-preserved c =
    let here = come_to c.args.instrs.now c.args.begins.now c.args.at c.in-Some.b c.outward.begin c.requires.table c.in-Some.is c.outward.invariant.1 in
    let none : is_held_from c.args.instrs.now c.in-Some.b (c.args.at + 1) ≡ false = sym c.is_held_from.ensures ∙ c.if-is_held_from.false in
    let covers = subst (Covers c.args.instrs.now (c.args.at + 1)) c.in-Some.is c.outward.invariant.0 in (
      covers_next c.args.instrs.now (c.args.at + 1) c.in-Some.b (get_or c.args.begins.now c.in-Some.b None) (omega (arith, here.early)) covers none here.latest,
      within_next c.args.instrs.now c.args.begins.now c.args.at c.in-Some.b (get_or c.args.begins.now c.in-Some.b None) here.inside here.early here.latest,
    )
