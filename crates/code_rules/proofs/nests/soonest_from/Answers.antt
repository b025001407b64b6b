use Rattle.std.proofs.Common.{◌≡◌, ◌≤◌, false, length, sym, ◌∙◌, subst}
use Rattle.std.specs.Prelude.{IfSome}
use Rattle.code_rules.specs.Nests.{is_held_until}
use Rattle.code_rules.proofs.NestFacts.{Meets, entry_behind, from_next, left_falls, meets_next}
use Rattle.code_rules.proofs.nests.soonest_from.Goals as goal

pub onward-smaller : goal.onward-smaller
onward-smaller c =
    let late : c.args.at ≤ c.in-Some.e = subst (λ o. IfSome o (λ e. c.args.at ≤ e)) c.in-Some.is c.onward.invariant.1 in
    left_falls (length c.args.instrs.now) c.in-Some.e c.entry-end.result c.onward.end c.in-Some.is (λ d is. entry_behind c.args.instrs.now c.args.ends.now c.args.at c.in-Some.e d c.requires.table late (sym c.entry-end.ensures ∙ is))

pub onward-preserved : goal.onward-preserved
onward-preserved c =
    let late : c.args.at ≤ c.in-Some.e = subst (λ o. IfSome o (λ e. c.args.at ≤ e)) c.in-Some.is c.onward.invariant.1 in
    let none : is_held_until c.args.instrs.now c.in-Some.e c.args.at ≡ false = sym c.is_held_until.ensures ∙ c.if-is_held_until.false in
    let meets = subst (Meets c.args.instrs.now c.args.at) c.in-Some.is c.onward.invariant.0 in (
      subst (Meets c.args.instrs.now c.args.at) (sym c.entry-end.ensures) (meets_next c.args.instrs.now c.args.ends.now c.args.at c.in-Some.e c.requires.all c.requires.table late meets none),
      from_next c.args.at c.in-Some.e c.entry-end.result late (λ d is. (entry_behind c.args.instrs.now c.args.ends.now c.args.at c.in-Some.e d c.requires.table late (sym c.entry-end.ensures ∙ is)).0),
    )
