use Rattle.std.proofs.Common.{◌<◌, length, get_or, arith}
use Rattle.std.proofs.lemmas.Option.{slice_get-get_or}
use Rattle.code_rules.proofs.OthersCounted.{no_others}
use Rattle.code_rules.proofs.truths.are_truths.Goals as goal

pub returns : goal.returns
returns c =
    let from_within : c.min-from.result < length c.args.others.now = omega (arith, c.min-from.ensures, c.requires.counted) in
    let to_within : c.min-to.result < length c.args.others.now = omega (arith, c.min-to.ensures, c.requires.counted) in
    no_others c.args.ranges.now c.args.others.now c.args.first c.args.count c.min-from.result c.min-to.result (get_or c.args.others.now c.min-from.result 0) (get_or c.args.others.now c.min-to.result 0) c.requires c.min-from.ensures c.min-to.ensures
    (slice_get-get_or c.args.others.now c.min-from.result 0 from_within) (slice_get-get_or c.args.others.now c.min-to.result 0 to_within)
