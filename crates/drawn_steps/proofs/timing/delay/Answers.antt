use Rattle.std.proofs.Common.{◌≡◌, ap, ◌∙◌, arith, rules}
use Rattle.std.specs.Prelude.{unsigned_abs}
use Rattle.std.specs.Int.{w64}
use Rattle.std.proofs.lemmas.Int.{to_z-of_z}
use Rattle.drawn_steps.proofs.Timed.{fits_delay}
use Rattle.drawn_steps.proofs.timing.delay.Goals as goal

pub overflow_cast-result : goal.overflow_cast-result
overflow_cast-result c =
    let fits = (fits_delay c.get.result (c.requires.within c.get.result c.get.ensures)).1 in
    let same = to_z-of_z w64 c.get.result (search rules) in
    let is : c.unsigned_abs.result ≡ unsigned_abs c.get.result = c.unsigned_abs.ensures.value ∙ ap unsigned_abs same in
    omega (arith, fits, is)
