use Rattle.std.proofs.Common.{◌∙◌, ap, arith}
use Rattle.std.specs.Prelude.{slice_get}
use Rattle.message_layout.specs.declared.arrivals.Arrival.{Arrival}
use Rattle.wire_tests.proofs.calls.has_room_for.Goals as goal

pub returns : goal.returns
returns c = λ m fields received is.
    let place = c.arriving-arriving.ensures.all m received in
    c.loop-i.invariant place.0 place.1 fields (let within = place.2 in omega arith)
    (ap (λ (a : Arrival). slice_get c.args.layout.now.messages a.message) place.3 ∙ ap (slice_get c.args.layout.now.messages) place.4 ∙ is)
