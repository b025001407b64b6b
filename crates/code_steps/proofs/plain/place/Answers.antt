use Rattle.std.proofs.Common.{◌≡◌, ap, ◌∙◌, arith, rules}
use Rattle.std.specs.Prelude.{unsigned_abs}
use Rattle.std.specs.Int.{w64}
use Rattle.std.proofs.lemmas.Int.{to_z-of_z}
use Rattle.code_steps.proofs.Moved.{indexed}
use Rattle.code_steps.proofs.plain.place.Goals as goal

pub returns-clause-within : goal.returns-clause-within
returns-clause-within c =
    let inside = (indexed c.get.result c.args.run (c.requires.within c.get.result c.get.ensures)).0 in
    let same = to_z-of_z w64 c.get.result (search rules) in
    let is : c.unsigned_abs.result ≡ unsigned_abs c.get.result = c.unsigned_abs.ensures.value ∙ ap unsigned_abs same in
    omega (arith, inside, is, c.requires.run_there)
