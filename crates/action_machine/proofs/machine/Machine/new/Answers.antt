use Rattle.std.proofs.Common.{◌≡◌, ◌+◌, ◌≤◌, subst, ◌∙◌, length, slice_get, Some, List, ℤ}
use Rattle.register_code.specs.declared.code.Code.{Code}
use Rattle.action_machine.proofs.Made.{is_new, made}
use Rattle.action_machine.proofs.machine.Machine.new.Goals as goal

pub returns : goal.returns
returns c =
    let there = subst (λ (s : Code). slice_get s.processes c.args.process ≡ Some c.process_of-declared.result.now) c.code.ensures.value c.process_of-declared.ensures in
    let items = c.into_vec.ensures in
    is_new c.args.code.now c.args.process c.args.inputs.now c.process_of-declared.result.now _ c.code.ensures.verified there c.requires
    (made c.process_of-declared.result.now c.args.process c.len-cells.result c.len-kept.result c.args.inputs.now c.in_ok-registers.registers c.append_slice.new.self c.in_ok-core.core c.as_slice.result.now c.as_slice-actions.result.now c.most_temporaries-temporaries.result c.most_counters-counters.result
    c.as_slice.ensures c.as_slice-actions.ensures c.in_ok-registers.ensures c.len-cells.ensures c.in_ok-append_slice.ensures.ok c.len-kept.ensures
    (c.in_ok-core.ensures.held ∙ items) c.most_temporaries-temporaries.ensures c.most_counters-counters.ensures
    (subst (λ (xs : List ℤ). length xs + c.most_temporaries-temporaries.result ≤ c.in_ok-core.core.registers_room) items c.in_ok-core.ensures.registers) c.in_ok-core.ensures.counters)
