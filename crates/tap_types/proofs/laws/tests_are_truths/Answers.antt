use Rattle.tap_types.proofs.whole.TestRanges.{tests_are_truths}
use Rattle.tap_types.proofs.laws.tests_are_truths.Goals as goal

pub returns : goal.returns
returns c = tests_are_truths
