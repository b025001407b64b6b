use Rattle.std.proofs.Common.{◌≡◌, ℕ, ℤ, true, length, subst, rules, arith}
use Rattle.std.proofs.lemmas.Int.{to_z-of_z}
use Rattle.std.specs.Int.{w64}
use Rattle.machine_tests.specs.Suiting.{IsInField}
use Rattle.machine_tests.proofs.Suited.{AreSoFar, all_looked, fields_looked, of_field, so_far_on}
use Rattle.machine_tests.proofs.suiting.all_in_fields.Goals as goal

pub loop-at-preserved : goal.loop-at-preserved
loop-at-preserved c =
    let held : c.is_in_field.result ≡ true = search rules in
    let within = subst (λ (z : ℤ). IsInField c.field_at.result z) (to_z-of_z w64 c.number_at.result (search rules)) (c.is_in_field.ensures held) in
    so_far_on of_field c.args.fields.now c.args.given.now c.loop-at.at c.field_at.result c.number_at.result c.loop-at.invariant c.field_at.ensures c.number_at.ensures within

pub returns : goal.returns
returns c = λ t.
    let same : length c.args.given.now ≡ length c.args.fields.now = omega arith in
    let end : c.loop-at.at ≡ length c.args.fields.now = omega arith in
    fields_looked c.args.fields.now c.args.given.now (all_looked of_field c.args.fields.now c.args.given.now same (subst (λ (n : ℕ). AreSoFar of_field c.args.fields.now c.args.given.now n) end c.loop-at.invariant))
