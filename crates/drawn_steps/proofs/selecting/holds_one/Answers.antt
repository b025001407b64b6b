use Rattle.std.proofs.Common.{◌≡◌, ◌+◌, ◌∷◌, if◌then◌else◌, ℤ, pos, Bool, ap, subst, sym, ◌∙◌, drop, rules}
use Rattle.std.proofs.lemmas.Int.{to_z-of_z}
use Rattle.std.specs.Int.{w64}
use Rattle.std.specs.Ordering.{int_eq}
use Rattle.register_code.specs.Instructions.{ones}
use Rattle.drawn_steps.proofs.Ones.{ones_at}
use Rattle.drawn_steps.proofs.selecting.holds_one.Goals as goal

pub returns : goal.returns
returns c =
    let same = to_z-of_z w64 c.number_at.result (search rules) in
    let is : c.is_one.result ≡ int_eq c.number_at.result (pos 1) = c.is_one.ensures ∙ ap (λ (z : ℤ). int_eq z (pos 1)) same in
    subst (λ (b : Bool). ones c.args.at (drop c.args.at c.args.xs.now) ≡ (if b then c.args.at ∷ ones (c.args.at + 1) (drop (c.args.at + 1) c.args.xs.now) else ones (c.args.at + 1) (drop (c.args.at + 1) c.args.xs.now))) (sym is) (ones_at c.args.at c.args.xs.now c.number_at.result c.number_at.ensures)
