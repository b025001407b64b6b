use Rattle.std.proofs.Common.{◌<◌, ◌-◌, length, refl, arith}
use Rattle.std.proofs.lemmas.Grind.{common_steps}
use Rattle.action_code.proofs.Naming.{is_named}
use Rattle.action_code.proofs.limits.is_name.Goals as goal

pub returns : goal.returns
returns c =
    let some : 0 < length c.args.name.now = grind (arith, common_steps) in
    let letter = c.is_ascii_alphabetic.ensures.value in
    let rest = c.are_word_bytes.ensures in
    rw (letter, rest) (is_named c.args.name.now (length c.args.name.now - 1) refl some)
