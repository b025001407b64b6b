use Rattle.std.proofs.Common.{◌++◌, ◌∙◌, ap, drop, refl, sym}
use Rattle.std.proofs.lemmas.Option.{slice_get_within}
use Rattle.byte_meaning.specs.Reading.{bits_of, values_by}
use Rattle.byte_meaning.proofs.Spelled.{counted_by}
use Rattle.bit_codec.proofs.Found.{found_length, found_meaning, no_meaning}
use Rattle.bit_codec.proofs.decode.decode_into.Goals as goal

pub returns-in_default : goal.returns-in_default
returns-in_default c = (no_meaning c.args.layout.now c.args.from c.args.to c.args.bytes.now c.in_default.ensures, refl)

pub fields-requires : goal.fields-requires
fields-requires c = slice_get_within c.args.layout.now.messages c.in-Some.message c.in-Some.ensures.fields c.in-Some.ensures.declared

pub read_into-requires-clause-bytes : goal.read_into-requires-clause-bytes
read_into-requires-clause-bytes c =
    found_length c.args.layout.now c.args.from c.args.to c.args.bytes.now c.in-Some.message c.fields.result.now c.in-Some.ensures c.fields.ensures.fields

pub read_into-requires-clause-room : goal.read_into-requires-clause-room
read_into-requires-clause-room c = c.requires c.in-Some.message c.fields.result.now c.in-Some.ensures.received c.fields.ensures.fields

pub returns : goal.returns
returns c =
    let values = values_by c.fields.result.now (bits_of c.args.bytes.now) in (
      values,
      found_meaning c.args.layout.now c.args.from c.args.to c.args.bytes.now c.in-Some.message c.fields.result.now c.in-Some.ensures c.fields.ensures.fields,
      c.read_into.ensures ∙ ap (λ n. values ++ drop n c.args.values.now) (sym (counted_by c.fields.result.now (bits_of c.args.bytes.now))),
    )
