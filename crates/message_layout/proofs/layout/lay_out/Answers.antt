use Rattle.std.proofs.Common.{◌∙◌, ap, map, subst, sym}
use Rattle.byte_meaning.specs.Apart.{byte_length}
use Rattle.message_layout.specs.Wires.{AreShort}
use Rattle.message_layout.specs.inner.Arrivals.{AreArrivals}
use Rattle.message_layout.specs.inner.Kept.{IsKept}
use Rattle.byte_meaning.proofs.Apart.{wires_mean}
use Rattle.message_layout.proofs.layout.lay_out.Goals as goal

pub invariant_of-result : goal.invariant_of-result
invariant_of-result c =
    let kept : IsKept c.args.wire.now c.in_ok-lengths.lengths c.in_ok-arrivals.arrivals = record {
      wire_is = record { few = c.requires.few; fields = c.requires.fields; received = c.requires.received };
      short = subst AreShort c.as_slice-messages.ensures c.in_default.ensures;
      apart = c.in_default-first_clash.ensures;
      lengths_are = c.in_ok-lengths.ensures ∙ ap (map byte_length) c.as_slice-messages.ensures;
      arrivals_are = subst (λ rs. AreArrivals rs c.in_ok-arrivals.arrivals) c.as_slice.ensures c.in_ok-arrivals.ensures;
    } in
    subst (λ w. IsKept w c.in_ok-lengths.lengths c.in_ok-arrivals.arrivals) (sym c.in_ok-copy_wire.ensures) kept

pub returns-clause-meaning : goal.returns-clause-meaning
returns-clause-meaning c = (wires_mean c.args.wire.now c.in_default-first_clash.ensures).0
