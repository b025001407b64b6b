use Rattle.std.proofs.Common.{◌∙◌, ◌||◌, Bool, is_some, ap, sym}
use Rattle.tapc_core.specs.SeedWords.{seed_in}
use Rattle.tapc_core.proofs.settings.is_setting.Goals as goal

pub returns-then-is_input : goal.returns-then-is_input
returns-then-is_input c =
    let w = c.args.word.now in
    c.if-is_input.true ∙ sym (ap (λ (b : Bool). b || is_some (seed_in w)) (sym c.is_input.ensures ∙ c.if-is_input.true))

pub returns-else-is_input : goal.returns-else-is_input
returns-else-is_input c =
    let w = c.args.word.now in
    c.is_some.ensures ∙ ap is_some c.seed_of.ensures ∙ sym (ap (λ (b : Bool). b || is_some (seed_in w)) (sym c.is_input.ensures ∙ c.if-is_input.false))
