use Rattle.std.proofs.Common.{subst}
use Rattle.message_layout.specs.Wires.{IsWire}
use Rattle.message_layout.specs.inner.Arrivals.{AreArrivals, AreBetween}
use Rattle.message_layout.proofs.Received.{all_received, received_within, some_received}
use Rattle.message_layout.proofs.layout.Layout.arriving.Goals as goal

pub returns-clause-some : goal.returns-clause-some
returns-clause-some c =
    some_received c.args.self.now c.self.inside.arrivals c.between.result.now c.args.to c.args.from
    (subst (λ w. AreArrivals w.receives c.self.inside.arrivals) c.self.view_is c.self.invariant.arrivals_are)
    (subst (λ xs. AreBetween xs c.args.to c.args.from c.between.result.now) c.as_slice.ensures c.between.ensures)

pub returns-clause-all : goal.returns-clause-all
returns-clause-all c =
    all_received c.args.self.now c.self.inside.arrivals c.between.result.now c.args.to c.args.from
    (subst (λ w. AreArrivals w.receives c.self.inside.arrivals) c.self.view_is c.self.invariant.arrivals_are)
    (subst (λ xs. AreBetween xs c.args.to c.args.from c.between.result.now) c.as_slice.ensures c.between.ensures)

pub returns-clause-there : goal.returns-clause-there
returns-clause-there c =
    received_within c.args.self.now c.self.inside.arrivals c.between.result.now c.args.to c.args.from (subst IsWire c.self.view_is c.self.invariant.wire_is)
    (subst (λ w. AreArrivals w.receives c.self.inside.arrivals) c.self.view_is c.self.invariant.arrivals_are)
    (subst (λ xs. AreBetween xs c.args.to c.args.from c.between.result.now) c.as_slice.ensures c.between.ensures)
