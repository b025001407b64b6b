use Rattle.std.proofs.Common.{arith}
use Rattle.tap_settings.proofs.Texts.{split_parted}
use Rattle.tapc_core.proofs.seeds.cut_at_equals.Goals as goal

pub returns : goal.returns
returns c = split_parted 61 c.args.word.now _ c.split_once.ensures.cases (omega arith)
