use Rattle.std.proofs.Common.{ℕ, ap, sym, ◌∙◌}
use Rattle.rand_pcg.specs.Lcg.{Lcg}
use Rattle.drawn_choices.proofs.Words.{word_now, after_one}
use Rattle.drawn_steps.proofs.selecting.next_word.Goals as goal

pub returns-clause-word : goal.returns-clause-word
returns-clause-word c = ap (λ (p : ℕ × Lcg). p.0) c.next_word.ensures ∙ sym (word_now c.args.generator.now)

pub returns-clause-moved : goal.returns-clause-moved
returns-clause-moved c = ap (λ (p : ℕ × Lcg). p.1) c.next_word.ensures ∙ sym (after_one c.args.generator.now)
