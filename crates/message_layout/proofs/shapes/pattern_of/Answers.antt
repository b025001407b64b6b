use Rattle.message_layout.proofs.Marks.{padded_pattern}
use Rattle.message_layout.proofs.shapes.pattern_of.Goals as goal

pub returns : goal.returns
returns c =
    padded_pattern c.args.fields.now c.fields.field-index c.bit_count.result c.fields.bits c.push_digits.new.bits c.fields-test.false c.bit_count.ensures c.fields.invariant.said c.in_ok-push_digits.ensures
