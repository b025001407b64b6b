use Rattle.std.proofs.Common.{◌≡◌, ◌<◌, ◌&&◌, length, get_or, slice_get, Some, None, sym, ap, ◌∙◌, rules, arith}
use Rattle.std.specs.List.{list_all}
use Rattle.std.proofs.lemmas.Bool.{and_parts}
use Rattle.std.proofs.lemmas.Option.{slice_get-get_or}
use Rattle.register_code.specs.declared.code.CodeProcess.{CodeProcess}
use Rattle.register_code.specs.Declarations.{message_limits, process_limits, program_counts_fit}
use Rattle.register_code.specs.Verified.{process_breaks}
use Rattle.action_code.proofs.Firsts.{left_here, left_next}
use Rattle.register_code.proofs.Passing.{all_at}
use Rattle.action_code.proofs.breaks.processes_break.Goals as goal

pub process_break-requires-clause-few : goal.process_break-requires-clause-few
process_break-requires-clause-few c =
    let inside : c.loop-at.at < length c.args.code.now.processes = omega (arith, ap length c.as_slice-processes.ensures) in
    let element : c.index-processes-at.result ≡ get_or c.args.code.now.processes c.loop-at.at c.index-processes-at.result = c.index-processes-at.is ∙ ap (λ xs. get_or xs c.loop-at.at c.index-processes-at.result) c.as_slice-processes.ensures in
    let there : slice_get c.args.code.now.processes c.loop-at.at ≡ Some c.index-processes-at.result = slice_get-get_or c.args.code.now.processes c.loop-at.at c.index-processes-at.result inside ∙ ap (λ (x : CodeProcess). Some x) (sym element) in
    let limits = and_parts (program_counts_fit c.args.code.now && list_all message_limits c.args.code.now.messages && list_all process_limits c.args.code.now.processes) _ c.requires.few in
    let each = and_parts (program_counts_fit c.args.code.now && list_all message_limits c.args.code.now.messages) (list_all process_limits c.args.code.now.processes) limits.0 in
    all_at process_limits c.args.code.now.processes c.loop-at.at c.index-processes-at.result each.1 there

pub returns-in-Some : goal.returns-in-Some
returns-in-Some c =
    let inside : c.loop-at.at < length c.args.code.now.processes = omega (arith, ap length c.as_slice-processes.ensures) in
    let element : c.index-processes-at.result ≡ get_or c.args.code.now.processes c.loop-at.at c.index-processes-at.result = c.index-processes-at.is ∙ ap (λ xs. get_or xs c.loop-at.at c.index-processes-at.result) c.as_slice-processes.ensures in
    let f = process_breaks c.args.code.now in
    let said : slice_get (f c.loop-at.at (get_or c.args.code.now.processes c.loop-at.at c.index-processes-at.result)) 0 ≡ Some c.in-Some.bad = ap (λ (y : CodeProcess). slice_get (f c.loop-at.at y) 0) (sym element) ∙ sym c.in_ok-bad.ensures ∙ c.in-Some.is in
    sym (sym c.loop-at.invariant ∙ left_here f c.args.code.now.processes c.loop-at.at c.index-processes-at.result c.in-Some.bad inside said)

pub loop-at-preserved : goal.loop-at-preserved
loop-at-preserved c =
    let inside : c.loop-at.at < length c.args.code.now.processes = omega (arith, ap length c.as_slice-processes.ensures) in
    let element : c.index-processes-at.result ≡ get_or c.args.code.now.processes c.loop-at.at c.index-processes-at.result = c.index-processes-at.is ∙ ap (λ xs. get_or xs c.loop-at.at c.index-processes-at.result) c.as_slice-processes.ensures in
    let f = process_breaks c.args.code.now in
    let none : c.in_ok-bad.field-0 ≡ None = search rules in
    let said : slice_get (f c.loop-at.at (get_or c.args.code.now.processes c.loop-at.at c.index-processes-at.result)) 0 ≡ None = ap (λ (y : CodeProcess). slice_get (f c.loop-at.at y) 0) (sym element) ∙ sym c.in_ok-bad.ensures ∙ none in
    sym (left_next f c.args.code.now.processes c.loop-at.at c.index-processes-at.result inside said) ∙ c.loop-at.invariant
