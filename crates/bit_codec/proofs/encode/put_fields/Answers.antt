use Rattle.std.proofs.Common.{◌≡◌, ◌++◌, ◌∙◌, ap, take, subst, arith, get_or, pos, None, unsigned_abs}
use Rattle.std.proofs.Common.{SFits, w64, rules, pos, get_or, unsigned_abs, ◌++◌, ◌≡◌, ◌∙◌}
use Rattle.std.proofs.lemmas.Int.{to_z-of_z}
use Rattle.byte_meaning.specs.Spelling.{digits}
use Rattle.std.proofs.lemmas.List.{length-take-le, take_all}
use Rattle.byte_meaning.specs.Spelling.{all_digits, digits}
use Rattle.byte_meaning.proofs.Spelled.{counted_as, length_all_digits}
use Rattle.bit_codec.specs.inner.Puts.{Puts, nothing_pending}
use Rattle.bit_codec.proofs.Bits.{field_taken, puts_more}
use Rattle.bit_codec.proofs.Spelt.{front_bits}
use Rattle.bit_codec.proofs.encode.put_fields.Goals as goal

pub put_number-p-requires-clause-room : goal.put_number-p-requires-clause-room
put_number-p-requires-clause-room c =
    let e = counted_as c.args.fields.now c.args.values.now c.requires.values in
    let f = length-take-le c.loop-i.i c.args.fields.now (omega arith) in
    let v = length-take-le c.loop-i.i c.args.values.now (omega arith) in
    let l = length_all_digits (take c.loop-i.i c.args.fields.now) (take c.loop-i.i c.args.values.now) (omega arith) in
    let w = front_bits c.args.fields.now c.loop-i.i (record { width = 0; fixed = None }) c.loop-i-test.true in
    let place = c.loop-i.invariant.place in omega arith

pub loop-i-preserved : goal.loop-i-preserved
loop-i-preserved c =
    let e = counted_as c.args.fields.now c.args.values.now c.requires.values in
    let fits : SFits w64 (get_or c.args.values.now c.loop-i.i (pos 0)) = search rules in
    let n : c.magnitude.result ≡ unsigned_abs (get_or c.args.values.now c.loop-i.i (pos 0)) =
    c.magnitude.ensures ∙ ap unsigned_abs (to_z-of_z w64 (get_or c.args.values.now c.loop-i.i (pos 0)) fits) in
    let f = get_or c.args.fields.now c.loop-i.i (record { width = 0; fixed = None }) in
    puts_more c.args.room.now nothing_pending (all_digits (take c.loop-i.i c.args.fields.now) (take c.loop-i.i c.args.values.now)) c.loop-i.room c.loop-i.p
    (digits f.width c.magnitude.result) c.put_number-p.new.room c.put_number-p.result _ c.loop-i.invariant c.put_number-p.ensures
    (ap (λ k. all_digits (take c.loop-i.i c.args.fields.now) (take c.loop-i.i c.args.values.now) ++ digits f.width k) n
    ∙ field_taken c.args.fields.now c.args.values.now c.loop-i.i (record { width = 0; fixed = None }) (pos 0) c.loop-i-test.true (omega arith))

pub returns : goal.returns
returns c =
    let e = counted_as c.args.fields.now c.args.values.now c.requires.values in
    subst (λ bits. Puts c.args.room.now nothing_pending bits c.loop-i.room c.loop-i.p)
    (ap (λ xs. all_digits xs (take c.loop-i.i c.args.values.now)) (take_all c.loop-i.i c.args.fields.now c.loop-i-test.false)
    ∙ ap (all_digits c.args.fields.now) (take_all c.loop-i.i c.args.values.now (omega arith))) c.loop-i.invariant
