use Rattle.tap_front.proofs.Wholes.{read_has_parts}
use Rattle.byte_tests.proofs.meanings.resolved.Goals as goal

pub returns : goal.returns
returns c = c.in-Ok-resolve.ensures.whole (read_has_parts c.args.text.now c.in-Ok.tree c.in-Ok.ensures)
