use Rattle.std.proofs.Common.{◌∙◌, arith, ap, sym, Some}
use Rattle.std.proofs.lemmas.Option.{slice_get-get_or}
use Rattle.message_layout.proofs.Firsts.{arriving_there, counted_rivals, first_clash, looked_at, tells_apart}
use Rattle.message_layout.proofs.clashes.first_clash.Goals as goal

pub bounds-rivals-message : goal.bounds-rivals-message
bounds-rivals-message c =
    let inside = arriving_there c.args.wire.now.messages c.args.wire.now.receives c.args.arrivals.now c.loop-at.at (record { to = 0; from = 0; message = 0 }) c.requires.received c.requires.arrivals c.loop-at-test.true in
    let counted = counted_rivals c.args.wire.now.messages c.args.rivals.now c.requires.rivals in
    omega arith

pub returns-in-Some : goal.returns-in-Some
returns-in-Some c =
    let inside = arriving_there c.args.wire.now.messages c.args.wire.now.receives c.args.arrivals.now c.loop-at.at (record { to = 0; from = 0; message = 0 }) c.requires.received c.requires.arrivals c.loop-at-test.true in
    let counted = counted_rivals c.args.wire.now.messages c.args.rivals.now c.requires.rivals in
    first_clash c.args.wire.now c.args.arrivals.now c.args.rivals.now c.loop-at.at c.in-Some.second (record { to = 0; from = 0; message = 0 }) c.as_slice-row.result.now
    c.requires.arrivals c.requires.rivals c.requires.received c.loop-at-test.true
    (slice_get-get_or c.args.rivals.now _ c.index-rivals-message.result (omega arith) ∙ ap Some (sym c.index-rivals-message.is ∙ sym c.as_slice-row.ensures)) c.loop-at.invariant c.in-Some.ensures

pub loop-at-preserved : goal.loop-at-preserved
loop-at-preserved c =
    let inside = arriving_there c.args.wire.now.messages c.args.wire.now.receives c.args.arrivals.now c.loop-at.at (record { to = 0; from = 0; message = 0 }) c.requires.received c.requires.arrivals c.loop-at-test.true in
    let counted = counted_rivals c.args.wire.now.messages c.args.rivals.now c.requires.rivals in
    looked_at c.args.arrivals.now c.args.rivals.now c.loop-at.at (record { to = 0; from = 0; message = 0 }) c.as_slice-row.result.now c.loop-at-test.true
    (slice_get-get_or c.args.rivals.now _ c.index-rivals-message.result (omega arith) ∙ ap Some (sym c.index-rivals-message.is ∙ sym c.as_slice-row.ensures)) c.in_default.ensures c.loop-at.invariant

pub returns : goal.returns
returns c = tells_apart c.args.wire.now c.args.arrivals.now c.args.rivals.now c.loop-at.at c.requires.arrivals c.requires.rivals c.loop-at-test.false c.loop-at.invariant
