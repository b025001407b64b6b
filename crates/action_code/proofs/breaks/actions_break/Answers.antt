use Rattle.std.proofs.Common.{◌≡◌, ◌<◌, ◌&&◌, length, get_or, slice_get, Some, None, sym, ap, ◌∙◌, rules, arith}
use Rattle.std.specs.List.{list_all}
use Rattle.std.proofs.lemmas.Bool.{and_parts}
use Rattle.std.proofs.lemmas.Option.{slice_get-get_or}
use Rattle.register_code.specs.declared.code.CodeAction.{CodeAction}
use Rattle.register_code.specs.Declarations.{action_limits, counts_fit, is_name, names_fit, names_of}
use Rattle.register_code.specs.Verified.{action_breaks}
use Rattle.action_code.proofs.Firsts.{left_here, left_next}
use Rattle.register_code.proofs.Passing.{all_at}
use Rattle.action_code.proofs.breaks.actions_break.Goals as goal

pub action_break-requires-clause-few : goal.action_break-requires-clause-few
action_break-requires-clause-few c =
    let inside : c.loop-at.at < length c.args.process.now.actions = omega (arith, ap length c.as_slice-actions.ensures) in
    let element : c.index-actions-at.result ≡ get_or c.args.process.now.actions c.loop-at.at c.index-actions-at.result = c.index-actions-at.is ∙ ap (λ xs. get_or xs c.loop-at.at c.index-actions-at.result) c.as_slice-actions.ensures in
    let there : slice_get c.args.process.now.actions c.loop-at.at ≡ Some c.index-actions-at.result = slice_get-get_or c.args.process.now.actions c.loop-at.at c.index-actions-at.result inside ∙ ap (λ (x : CodeAction). Some x) (sym element) in
    let limits = and_parts (is_name c.args.process.now.name && counts_fit c.args.process.now && names_fit (names_of c.args.process.now)) (list_all action_limits c.args.process.now.actions) c.requires.few in
    all_at action_limits c.args.process.now.actions c.loop-at.at c.index-actions-at.result limits.1 there

pub returns-in-Some : goal.returns-in-Some
returns-in-Some c =
    let inside : c.loop-at.at < length c.args.process.now.actions = omega (arith, ap length c.as_slice-actions.ensures) in
    let element : c.index-actions-at.result ≡ get_or c.args.process.now.actions c.loop-at.at c.index-actions-at.result = c.index-actions-at.is ∙ ap (λ xs. get_or xs c.loop-at.at c.index-actions-at.result) c.as_slice-actions.ensures in
    let f = action_breaks c.args.code.now c.args.number c.args.process.now in
    let said : slice_get (f c.loop-at.at (get_or c.args.process.now.actions c.loop-at.at c.index-actions-at.result)) 0 ≡ Some c.in-Some.bad = ap (λ (y : CodeAction). slice_get (f c.loop-at.at y) 0) (sym element) ∙ sym c.in_ok-bad.ensures.first ∙ c.in-Some.is in
    sym (sym c.loop-at.invariant.first ∙ left_here f c.args.process.now.actions c.loop-at.at c.index-actions-at.result c.in-Some.bad inside said)

pub loop-at-preserved : goal.loop-at-preserved
loop-at-preserved c =
    let inside : c.loop-at.at < length c.args.process.now.actions = omega (arith, ap length c.as_slice-actions.ensures) in
    let element : c.index-actions-at.result ≡ get_or c.args.process.now.actions c.loop-at.at c.index-actions-at.result = c.index-actions-at.is ∙ ap (λ xs. get_or xs c.loop-at.at c.index-actions-at.result) c.as_slice-actions.ensures in
    let f = action_breaks c.args.code.now c.args.number c.args.process.now in
    let none : c.in_ok-bad.field-0 ≡ None = search rules in
    let said : slice_get (f c.loop-at.at (get_or c.args.process.now.actions c.loop-at.at c.index-actions-at.result)) 0 ≡ None = ap (λ (y : CodeAction). slice_get (f c.loop-at.at y) 0) (sym element) ∙ sym c.in_ok-bad.ensures.first ∙ none in
    record { first = sym (left_next f c.args.process.now.actions c.loop-at.at c.index-actions-at.result inside said) ∙ c.loop-at.invariant.first; place = c.in_ok-bad.ensures.place }
