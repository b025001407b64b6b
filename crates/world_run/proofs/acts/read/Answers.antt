use Rattle.std.proofs.Common.{◌≡◌, ◌<◌, ◌∙◌, ℤ, List, pos, get_or, length, take, ap, subst, rules, arith}
use Rattle.std.specs.Prelude.{FitsSigned}
use Rattle.std.specs.Int.{w64}
use Rattle.std.proofs.Math.Seq.{take-length}
use Rattle.tap_base.specs.Lists.{Each}
use Rattle.world_run.proofs.DrawnActs.{each_more}
use Rattle.world_run.proofs.acts.read.Goals as goal

pub loop-i-preserved : goal.loop-i-preserved
loop-i-preserved c =
    let fits : FitsSigned w64 (get_or c.args.choices.now c.loop-i.i (pos 0)) = search rules in
    let there : c.loop-i.i < length c.args.choices.now = search (rules, arith) in
    each_more c.args.choices.now c.loop-i.i there fits c.loop-i.invariant

pub returns : goal.returns
returns c =
    let whole : c.loop-i.i ≡ length c.args.choices.now = search (rules, arith) in
    subst (λ (xs : List ℤ). Each (FitsSigned w64) xs) (ap (λ n. take n c.args.choices.now) whole ∙ take-length c.args.choices.now) c.loop-i.invariant
