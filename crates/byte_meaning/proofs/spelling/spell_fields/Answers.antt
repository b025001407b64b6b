use Rattle.std.proofs.Common.{map, ◌∙◌}
use Rattle.tap_exec.specs.Filling.{wire_field}
use Rattle.byte_meaning.specs.Spelling.{all_digits}
use Rattle.byte_meaning.proofs.Packs.{padded_bytes}
use Rattle.byte_meaning.proofs.spelling.spell_fields.Goals as goal

pub returns : goal.returns
returns c =
    c.into_vec.ensures
    ∙ padded_bytes (all_digits (map wire_field c.args.fields.now) c.args.values.now) c.new.result c.push_fields.new.packed c.pad.new.packed c.new.ensures c.in_ok-push_fields.ensures.packs c.in_ok-pad.ensures
