use Rattle.std.proofs.Common.{◌≡◌, [], drop, sym, ap, ◌∙◌, arith}
use Rattle.std.proofs.lemmas.List.{drop_all}
use Rattle.register_code.specs.Sending.{fit_fields, free_fields}
use Rattle.code_rules.proofs.Fields.{none_left}
use Rattle.code_rules.proofs.sending.fit_fields.Goals as goal

pub returns : goal.returns
returns c =
    let done : drop c.loop-field.field-index c.args.fields.now ≡ [] = drop_all c.loop-field.field-index c.args.fields.now (omega arith) in
    none_left c.args.ranges.now c.loop-field.at c.loop-field.invariant.0
    ∙ ap (λ fs. fit_fields (free_fields fs) (drop c.loop-field.at c.args.ranges.now)) (sym done) ∙ c.loop-field.invariant.1
