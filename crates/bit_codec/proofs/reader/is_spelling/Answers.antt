use Rattle.std.proofs.Common.{◌+◌, ◌/◌, ◌≤◌, None, length, get_or, refl, ap, sym, ◌∙◌, arith}
use Rattle.std.proofs.lemmas.Option.{slice_get-get_or}
use Rattle.byte_meaning.specs.Reading.{bits_of}
use Rattle.byte_meaning.proofs.Digits.{below_bytes}
use Rattle.byte_meaning.proofs.Held.{of_other_length, of_other_padding, of_other_value, of_spelling}
use Rattle.bit_codec.proofs.Spelt.{held_at_end, not_held, padding_at_end, rooms}
use Rattle.bit_codec.proofs.reader.is_spelling.Goals as goal

pub returns-then-bytes-bit_count : goal.returns-then-bytes-bit_count
returns-then-bytes-bit_count c =
    of_other_length c.args.fields.now c.args.bytes.now (λ e. c.if-bytes-bit_count.true (e ∙ ap (λ n. (n + 7) / 8) (sym c.bit_count.ensures)))

pub returns-then-not-can_hold : goal.returns-then-not-can_hold
returns-then-not-can_hold c =
    of_other_value c.args.fields.now c.args.bytes.now (rooms c.args.fields.now c.requires.fields)
    (not_held c.args.fields.now (bits_of c.args.bytes.now) c.fields.field-index c.fields.at c.number_at-number.result (get_or c.args.fields.now c.fields.field-index (record { width = 0; fixed = None }))
    (slice_get-get_or c.args.fields.now c.fields.field-index (record { width = 0; fixed = None }) c.fields-test.true)
    c.number_at-number.ensures.value (sym c.can_hold.ensures ∙ c.if-not-can_hold.true) c.fields.invariant.held)

pub returns-then-padding-ne0 : goal.returns-then-padding-ne0
returns-then-padding-ne0 c =
    of_other_padding c.args.fields.now c.args.bytes.now (λ e. c.if-padding-ne0.true
    (padding_at_end c.args.fields.now c.args.bytes.now c.fields.field-index c.fields.at _ c.number_at-padding.result (omega arith) c.fields.invariant.at refl c.number_at-padding.ensures.value ∙ e))

pub returns : goal.returns
returns c =
    let past : length c.args.fields.now ≤ c.fields.field-index = omega arith in
    of_spelling c.args.fields.now c.args.bytes.now (below_bytes c.args.bytes.now (λ i. omega (arith, c.type_inv.bytes i)))
    (c.if-bytes-bit_count.false ∙ ap (λ n. (n + 7) / 8) c.bit_count.ensures)
    (held_at_end c.args.fields.now (bits_of c.args.bytes.now) c.fields.field-index c.fields.at past c.fields.invariant.held)
    (sym (padding_at_end c.args.fields.now c.args.bytes.now c.fields.field-index c.fields.at _ c.number_at-padding.result past c.fields.invariant.at refl c.number_at-padding.ensures.value) ∙ c.if-padding-ne0.false)
