use Rattle.sound_code.proofs.KeepsRanges as KeepsRanges
use Rattle.sound_code.proofs.laws.code_keeps_ranges.Goals as goal

pub returns : goal.returns
returns c = KeepsRanges.code_keeps_ranges
