use Rattle.std.proofs.Common.{◌≡◌, ℕ, ℤ, true, length, subst, rules, arith}
use Rattle.std.proofs.lemmas.Int.{to_z-of_z}
use Rattle.std.specs.Int.{w64}
use Rattle.machine_tests.specs.Suiting.{IsInInput}
use Rattle.machine_tests.proofs.Suited.{AreSoFar, all_looked, of_input, so_far_on}
use Rattle.machine_tests.proofs.suiting.all_within.Goals as goal

pub loop-at-preserved : goal.loop-at-preserved
loop-at-preserved c =
    let held : c.is_within.result ≡ true = search rules in
    let within = subst (λ (z : ℤ). IsInInput c.input_at.result.now z) (to_z-of_z w64 c.number_at.result (search rules)) (c.is_within.ensures held) in
    so_far_on of_input c.args.inputs.now c.args.given.now c.loop-at.at c.input_at.result.now c.number_at.result c.loop-at.invariant c.input_at.ensures c.number_at.ensures within

pub returns : goal.returns
returns c = λ t.
    let same : length c.args.given.now ≡ length c.args.inputs.now = omega arith in
    let end : c.loop-at.at ≡ length c.args.inputs.now = omega arith in
    all_looked of_input c.args.inputs.now c.args.given.now same (subst (λ (n : ℕ). AreSoFar of_input c.args.inputs.now c.args.given.now n) end c.loop-at.invariant)
