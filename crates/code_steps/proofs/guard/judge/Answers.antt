use Rattle.std.proofs.Common.{ℤ, pos, ap, sym, subst, ◌∙◌, rules}
use Rattle.std.specs.Ordering.{int_eq}
use Rattle.std.specs.Int.{w64}
use Rattle.std.proofs.lemmas.Int.{to_z-of_z}
use Rattle.code_steps.specs.Guarding.{IsInGuard}
use Rattle.code_steps.proofs.Judged.{finished, kept_first, kept_inside, opened, opened_is, result_inside, starts, tells}
use Rattle.code_steps.proofs.guard.judge.Goals as goal

pub finish-requires : goal.finish-requires
finish-requires c =
    let open_is = opened_is c.args.action.now c.args.keep c.args.core.now c.open.new.self c.as_slice.result.now c.len.result c.open.ensures c.as_slice.ensures c.len.ensures in
    subst (λ h. IsInGuard c.as_slice-2.result.now h) (sym open_is) (subst (λ is. IsInGuard is (opened c.args.action.now c.args.keep c.args.core.now)) (sym c.as_slice-2.ensures) (starts c.args.action.now c.args.keep c.args.core.now c.requires))

pub get-requires : goal.get-requires
get-requires c =
    let open_is = opened_is c.args.action.now c.args.keep c.args.core.now c.open.new.self c.as_slice.result.now c.len.result c.open.ensures c.as_slice.ensures c.len.ensures in
    let done = finished c.args.action.now c.args.keep c.args.core.now c.open.new.self c.finish.new.core c.as_slice-2.result.now open_is c.as_slice-2.ensures c.finish.ensures.comes c.finish.ensures.ended c.finish.ensures.keeps in
    result_inside c.args.action.now c.args.keep c.args.core.now c.requires c.finish.new.core done.comes done.ended

pub returns-clause-value : goal.returns-clause-value
returns-clause-value c = λ g.
    let open_is = opened_is c.args.action.now c.args.keep c.args.core.now c.open.new.self c.as_slice.result.now c.len.result c.open.ensures c.as_slice.ensures c.len.ensures in
    let done = finished c.args.action.now c.args.keep c.args.core.now c.open.new.self c.finish.new.core c.as_slice-2.result.now open_is c.as_slice-2.ensures c.finish.ensures.comes c.finish.ensures.ended c.finish.ensures.keeps in
    c.is_one.ensures ∙ ap (λ (z : ℤ). int_eq z (pos 1)) (to_z-of_z w64 c.get.result (search rules)) ∙ tells c.args.action.now c.args.keep c.args.core.now g c.finish.new.core c.get.result done.comes done.ended c.get.ensures

pub returns-clause-keeps : goal.returns-clause-keeps
returns-clause-keeps c =
    let open_is = opened_is c.args.action.now c.args.keep c.args.core.now c.open.new.self c.as_slice.result.now c.len.result c.open.ensures c.as_slice.ensures c.len.ensures in
    let done = finished c.args.action.now c.args.keep c.args.core.now c.open.new.self c.finish.new.core c.as_slice-2.result.now open_is c.as_slice-2.ensures c.finish.ensures.comes c.finish.ensures.ended c.finish.ensures.keeps in
    kept_first c.args.action.now c.args.keep c.args.core.now c.finish.new.core c.requires done

pub returns-clause-inside : goal.returns-clause-inside
returns-clause-inside c =
    let open_is = opened_is c.args.action.now c.args.keep c.args.core.now c.open.new.self c.as_slice.result.now c.len.result c.open.ensures c.as_slice.ensures c.len.ensures in
    let done = finished c.args.action.now c.args.keep c.args.core.now c.open.new.self c.finish.new.core c.as_slice-2.result.now open_is c.as_slice-2.ensures c.finish.ensures.comes c.finish.ensures.ended c.finish.ensures.keeps in
    kept_inside c.args.keep c.args.core.now c.finish.new.core (kept_first c.args.action.now c.args.keep c.args.core.now c.finish.new.core c.requires done) c.requires.inside
