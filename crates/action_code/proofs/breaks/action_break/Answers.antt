use Rattle.std.proofs.Common.{◌≡◌, true, None, sym, ◌∙◌, rules}
use Rattle.code_rules.proofs.Shared.{still}
use Rattle.register_code.specs.declared.bad.Part.TheVariants as part
use Rattle.action_code.proofs.Firsts.{body_first}
use Rattle.action_code.proofs.breaks.action_break.Goals as goal

pub returns-clause-first : goal.returns-clause-first
returns-clause-first c =
    let low : c.temporaries_fit.result ≡ true = search rules in
    let agrees : c.guard_fits.result ≡ true = search rules in
    let none : c.part_break_at.result ≡ None = search rules in
    c.part_break_at-2.ensures
    ∙ sym (body_first c.args.code.now c.args.number c.args.process.now c.args.at c.args.action.now (sym c.temporaries_fit.ensures ∙ low) (sym c.guard_fits.ensures ∙ agrees) (sym c.part_break_at.ensures ∙ none))

pub returns-clause-place : goal.returns-clause-place
returns-clause-place c = still c.args.number c.args.process.now c.args.action.now part.Body c.enter-2.new.place c.in_ok-enter-2.ensures
