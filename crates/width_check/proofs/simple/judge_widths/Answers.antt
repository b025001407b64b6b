use Rattle.std.proofs.Common.{◌≡◌, [], subst, sym, Option, Some}
use Rattle.tap_base.specs.declared.place.Range.{Range}
use Rattle.tap_base.specs.declared.refusal.RefusalCode.TheVariants.{W1}
use Rattle.tap_base.specs.ListWords.{first}
use Rattle.width_check.specs.ExprOffences.{where_wider}
use Rattle.width_check.specs.StmtOffences.{width_offences}
use Rattle.width_check.specs.inner.Reading.{scope_in}
use Rattle.width_check.proofs.Firsts.{refuses}
use Rattle.width_check.proofs.WidthFacts.{width_at, widths_on, widths_out}
use Rattle.width_check.proofs.simple.judge_widths.Goals as goal

pub returns-in_default : goal.returns-in_default
returns-in_default c = widths_out (scope_in c.args.reads.now) c.args.targets.now c.args.values.now c.loop-at.at c.loop-at.invariant (sym c.in_default.ensures)

pub returns-in_err-hold : goal.returns-in_err-hold
returns-in_err-hold c =
    let s = scope_in c.args.reads.now in
    let t = c.index-targets-at.result in
    let r = c.in_err-hold.field-0.0 in
    let F : Option Range → Type 0 = λ o. first (where_wider o t.range W1 t.place) ≡ Some r in
    refuses (width_offences s c.args.targets.now c.args.values.now) c.from_residual.result r c.from_residual.ensures.1
    (width_at s c.args.targets.now c.args.values.now c.loop-at.at c.loop-at.invariant t c.in-Some.value.now c.loop-at-test.true c.index-targets-at.is (sym c.in-Some.ensures) r
    (subst F c.interval.ensures c.in_err-hold.ensures))

pub loop-at-preserved : goal.loop-at-preserved
loop-at-preserved c =
    let s = scope_in c.args.reads.now in
    let t = c.index-targets-at.result in
    let F : Option Range → Type 0 = λ o. where_wider o t.range W1 t.place ≡ [] in
    widths_on s c.args.targets.now c.args.values.now c.loop-at.at c.loop-at.invariant t c.in-Some.value.now c.loop-at-test.true c.index-targets-at.is (sym c.in-Some.ensures)
    (subst F c.interval.ensures c.in_ok-hold.ensures)
