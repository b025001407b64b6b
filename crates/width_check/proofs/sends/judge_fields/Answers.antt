use Rattle.std.proofs.Common.{◌≡◌, ◌<◌, length, sym, None, arith, rules}
use Rattle.tap_base.specs.Scope.{free_fields}
use Rattle.width_check.specs.StmtOffences.{field_offences}
use Rattle.width_check.specs.inner.Reading.{scope_in}
use Rattle.width_check.proofs.FieldFacts.{fields_out, free_on, in_field}
use Rattle.width_check.proofs.Firsts.{refuses}
use Rattle.width_check.proofs.sends.judge_fields.Goals as goal

pub returns-in_default : goal.returns-in_default
returns-in_default c = fields_out (scope_in c.args.reads.now) c.args.fields.now c.args.values.now c.loop-field.field-index c.loop-field.at c.loop-field.invariant.same (sym c.in_default.ensures)

pub returns-in_err-judge_field : goal.returns-in_err-judge_field
returns-in_err-judge_field c =
    let s = scope_in c.args.reads.now in
    let r = c.in_err-judge_field.field-0.0 in
    let l : c.loop-field.field-index < length c.args.fields.now = omega arith in
    let free : c.field-item.result.fixed ≡ None = search rules in
    refuses (field_offences s (free_fields c.args.fields.now) c.args.values.now) c.from_residual.result r c.from_residual.ensures.1
    (in_field s c.args.fields.now c.args.values.now c.loop-field.field-index c.loop-field.at c.loop-field.invariant.same c.field-item.result l c.field-item.is c.in-Some.value.now free (sym c.in-Some.ensures) r c.in_err-judge_field.ensures)

pub loop-field-preserved : goal.loop-field-preserved
loop-field-preserved c =
    let s = scope_in c.args.reads.now in
    let l : c.loop-field.field-index < length c.args.fields.now = omega arith in
    let free : c.field-item.result.fixed ≡ None = search rules in
    record {
      few = omega (arith, c.loop-field.invariant.few);
      same = free_on s c.args.fields.now c.args.values.now c.loop-field.field-index c.loop-field.at c.loop-field.invariant.same c.field-item.result l c.field-item.is c.in-Some.value.now free (sym c.in-Some.ensures) c.in_ok-judge_field.ensures;
    }
