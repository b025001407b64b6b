use Rattle.std.proofs.Common.{arith, length, ap, sym, ◌∙◌, refl}
use Rattle.std.proofs.lemmas.Int.{ints, to_z-of_z}
use Rattle.std.proofs.lemmas.Option.{slice_get_read}
use Rattle.byte_meaning.specs.inner.Packing.{all_packed}
use Rattle.byte_meaning.specs.Spelling.{digits}
use Rattle.byte_meaning.proofs.Packs.{next_field, no_value}
use Rattle.byte_meaning.proofs.spelling.push_fields.Goals as goal

pub loop-at-preserved : goal.loop-at-preserved
loop-at-preserved c = record {
  packed = c.in_ok-push_value.ensures.packed;
  rest = next_field c.args.fields.now c.args.values.now c.loop-at.at c.index-fields-at.result c.in-Some.value.now c.loop-at.packed c.push_value.new.packed
      (slice_get_read c.args.fields.now (length c.args.fields.now) c.loop-at.at c.index-fields-at.result refl c.loop-at-test.true c.index-fields-at.is)
      (sym c.in-Some.ensures) (c.in_ok-push_value.ensures.packs ∙ ap (λ n. all_packed (digits c.index-fields-at.result.width n) c.loop-at.packed) (c.magnitude.ensures ∙ grind (arith, ints, to_z-of_z)))
      ∙ c.loop-at.invariant.rest;
}

pub returns-in_default-clause-packs : goal.returns-in_default-clause-packs
returns-in_default-clause-packs c = sym (no_value c.args.fields.now c.args.values.now c.loop-at.at c.loop-at.packed (sym c.in_default.ensures)) ∙ c.loop-at.invariant.rest
