use Rattle.std.proofs.Common.{◌≡◌, ◌/◌, Some, None, sym, ap, ◌∙◌, slice_get, rules, arith}
use Rattle.register_code.specs.declared.instr.Instr.TheVariants as instr
use Rattle.register_code.proofs.Nested.{is_begun, is_over}
use Rattle.action_code.proofs.Spending.{ended, passed, repeated}
use Rattle.action_code.proofs.costs.next_weight.Goals as goal

pub returns-in-Some-clause-value : goal.returns-in-Some-clause-value
returns-in-Some-clause-value c =
    let is : slice_get c.args.instrs.now c.args.at ≡ Some (instr.Repeat c.in-Some.found.count c.in-Some.found.last) = c.requires.here ∙ ap (λ i. Some i) (is_begun c.args.instr c.in-Some.found (sym c.in-Some.ensures)) in
    (repeated c.args.instrs.now c.requires.whole c.args.at c.args.weight c.in-Some.found.count c.in-Some.found.last is c.requires.was c.requires.small).value

pub returns-in-Some-clause-wide : goal.returns-in-Some-clause-wide
returns-in-Some-clause-wide c =
    let is : slice_get c.args.instrs.now c.args.at ≡ Some (instr.Repeat c.in-Some.found.count c.in-Some.found.last) = c.requires.here ∙ ap (λ i. Some i) (is_begun c.args.instr c.in-Some.found (sym c.in-Some.ensures)) in
    (repeated c.args.instrs.now c.requires.whole c.args.at c.args.weight c.in-Some.found.count c.in-Some.found.last is c.requires.was c.requires.small).wide

pub nonzero_div-result : goal.nonzero_div-result
nonzero_div-result c =
    let is : slice_get c.args.instrs.now c.args.at ≡ Some (instr.Again c.in-Some-ended_by.first) = c.requires.here ∙ ap (λ i. Some i) (is_over c.args.instr c.in-Some-ended_by.first (sym c.in-Some-ended_by.ensures)) in
    let some = (ended c.args.instrs.now c.requires.whole c.args.at c.args.weight c.in-Some-ended_by.first is c.requires.was c.requires.small).0 in omega (arith, some, c.count_at-count.ensures)

pub returns-in-Some-ended_by-clause-value : goal.returns-in-Some-ended_by-clause-value
returns-in-Some-ended_by-clause-value c =
    let is : slice_get c.args.instrs.now c.args.at ≡ Some (instr.Again c.in-Some-ended_by.first) = c.requires.here ∙ ap (λ i. Some i) (is_over c.args.instr c.in-Some-ended_by.first (sym c.in-Some-ended_by.ensures)) in
    ap (λ m. c.args.weight / m) c.count_at-count.ensures ∙ (ended c.args.instrs.now c.requires.whole c.args.at c.args.weight c.in-Some-ended_by.first is c.requires.was c.requires.small).1.value

pub returns-clause-value : goal.returns-clause-value
returns-clause-value c =
    let no_begin : c.begun_by.result ≡ None = search rules in
    let no_end : c.ended_by.result ≡ None = search rules in
    (passed c.args.instrs.now c.args.at c.args.weight c.args.instr c.requires.here (sym c.begun_by.ensures ∙ no_begin) (sym c.ended_by.ensures ∙ no_end) c.requires.was c.requires.small).value
