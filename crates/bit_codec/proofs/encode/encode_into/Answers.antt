use Rattle.std.proofs.Common.{◌++◌, ◌∙◌, ap, arith, drop, sym}
use Rattle.byte_meaning.specs.Spelling.{spelling}
use Rattle.byte_meaning.proofs.Digits.{below_bytes}
use Rattle.byte_meaning.proofs.Spelled.{counted_as, length_all_digits}
use Rattle.bit_codec.proofs.Bits.{encoded}
use Rattle.bit_codec.proofs.Found.{length_there, one_message, values_fit}
use Rattle.bit_codec.proofs.encode.encode_into.Goals as goal

pub put_zeros-requires-clause-room : goal.put_zeros-requires-clause-room
put_zeros-requires-clause-room c =
    let fit = values_fit c.args.layout.now.messages c.args.message c.args.values.now c.fields-fields.result.now c.requires.values c.fields-fields.ensures.fields in
    let bits = length_all_digits c.fields-fields.result.now c.args.values.now (counted_as c.fields-fields.result.now c.args.values.now fit) in
    let long = length_there c.args.layout.now.messages c.args.message c.fields-fields.result.now c.fields-fields.ensures.fields in
    let room = c.requires.room in
    let place = c.put_fields-p.ensures.place in
    omega arith

pub returns-clause-length : goal.returns-clause-length
returns-clause-length c =
    let fit = values_fit c.args.layout.now.messages c.args.message c.args.values.now c.fields-fields.result.now c.requires.values c.fields-fields.ensures.fields in
    (encoded c.fields-fields.result.now c.args.values.now c.args.room.now c.put_fields-p.new.room c.put_zeros.new.room c.put_fields-p.result c.put_zeros.result
    (below_bytes c.put_zeros.new.room (λ i. omega (arith, c.type_inv.room i))) fit c.put_fields-p.ensures c.put_zeros.ensures).1
    ∙ sym (length_there c.args.layout.now.messages c.args.message c.fields-fields.result.now c.fields-fields.ensures.fields)

pub returns-clause-written : goal.returns-clause-written
returns-clause-written c = λ fields is.
    let fit = values_fit c.args.layout.now.messages c.args.message c.args.values.now c.fields-fields.result.now c.requires.values c.fields-fields.ensures.fields in
    (encoded c.fields-fields.result.now c.args.values.now c.args.room.now c.put_fields-p.new.room c.put_zeros.new.room c.put_fields-p.result c.put_zeros.result
    (below_bytes c.put_zeros.new.room (λ i. omega (arith, c.type_inv.room i))) fit c.put_fields-p.ensures c.put_zeros.ensures).0
    ∙ ap (λ fs. spelling fs c.args.values.now ++ drop c.put_zeros.result c.args.room.now) (one_message c.args.layout.now.messages c.args.message c.fields-fields.result.now fields c.fields-fields.ensures.fields is)
