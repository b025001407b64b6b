use Rattle.std.proofs.Common.{◌+◌, ◌/◌, ◌≤◌, Some, length, map, refl, ap, sym, ◌∙◌, arith}
use Rattle.std.proofs.lemmas.Option.{slice_get_read}
use Rattle.tap_exec.specs.Filling.{wire_field}
use Rattle.byte_meaning.specs.Reading.{bits_of}
use Rattle.byte_meaning.proofs.Digits.{below_bytes}
use Rattle.byte_meaning.proofs.Held.{of_other_length, of_other_value, of_other_padding, of_spelling}
use Rattle.byte_meaning.proofs.Read.{rooms, not_held, held_at_end, values_at_end, padding_at_end}
use Rattle.byte_meaning.proofs.reading.values_spelled.Goals as goal

pub returns-then-bytes-bit_length : goal.returns-then-bytes-bit_length
returns-then-bytes-bit_length c =
    sym (of_other_length (map wire_field c.args.fields.now) c.args.bytes.now (λ e. c.if-bytes-bit_length.true (e ∙ ap (λ n. (n + 7) / 8) (sym c.bit_length.ensures.length))))

pub returns-then-not-is_held : goal.returns-then-not-is_held
returns-then-not-is_held c =
    sym (of_other_value (map wire_field c.args.fields.now) c.args.bytes.now (rooms c.args.fields.now c.requires.fields)
    (not_held c.args.fields.now (bits_of c.args.bytes.now) c.loop-field.field-index c.loop-field.at c.number_at-number.result c.field-item.result
    (slice_get_read c.args.fields.now (length c.args.fields.now) c.loop-field.field-index c.field-item.result refl c.loop-field-test.true c.field-item.is)
    c.number_at-number.ensures.value (let e = c.is_held.ensures in let t = c.if-not-is_held.true in grind arith) c.loop-field.invariant.held))

pub returns-then-padding-ne0 : goal.returns-then-padding-ne0
returns-then-padding-ne0 c =
    sym (of_other_padding (map wire_field c.args.fields.now) c.args.bytes.now (λ e. c.if-padding-ne0.true
    (padding_at_end c.args.fields.now c.args.bytes.now c.loop-field.field-index c.loop-field.at _ c.number_at-padding.result (omega arith) c.loop-field.invariant.at refl c.number_at-padding.ensures.value ∙ e)))

pub returns : goal.returns
returns c =
    let past : length c.args.fields.now ≤ c.loop-field.field-index = omega arith in
    let bits = bits_of c.args.bytes.now in
    ap Some (values_at_end c.args.fields.now c.loop-field.values bits c.loop-field.field-index c.loop-field.at past c.loop-field.invariant.values)
    ∙ sym (of_spelling (map wire_field c.args.fields.now) c.args.bytes.now (below_bytes c.args.bytes.now (λ i. omega (arith, c.type_inv.bytes i)))
    (c.if-bytes-bit_length.false ∙ ap (λ n. (n + 7) / 8) c.bit_length.ensures.length)
    (held_at_end c.args.fields.now bits c.loop-field.field-index c.loop-field.at past c.loop-field.invariant.held)
    (sym (padding_at_end c.args.fields.now c.args.bytes.now c.loop-field.field-index c.loop-field.at _ c.number_at-padding.result past c.loop-field.invariant.at refl c.number_at-padding.ensures.value) ∙ c.if-padding-ne0.false))
