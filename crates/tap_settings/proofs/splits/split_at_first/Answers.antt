use Rattle.tap_settings.proofs.Texts.{split_parted}
use Rattle.tap_settings.proofs.splits.split_at_first.Goals as goal

pub returns : goal.returns
returns c = split_parted c.args.mark c.args.text.now _ c.split_once.ensures.cases c.requires
