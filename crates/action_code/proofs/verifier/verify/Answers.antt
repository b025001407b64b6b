use Rattle.std.proofs.Common.{◌≡◌, None, refl, rules}
use Rattle.register_code.specs.Verified.{breaks, first_break}
use Rattle.action_code.proofs.Firsts.{none_first}
use Rattle.action_code.proofs.verifier.verify.Goals as goal

pub invariant_of-result : goal.invariant_of-result
invariant_of-result c = let none : first_break c.args.code ≡ None = search rules in none_first (breaks c.args.code) none

pub returns-in-Ok-None : goal.returns-in-Ok-None
returns-in-Ok-None c = let none : first_break c.args.code ≡ None = search rules in (refl, none_first (breaks c.args.code) none)
