use Rattle.std.proofs.Common.{arith, sym}
use Rattle.message_layout.proofs.Firsts.{first_marked, none_left, none_this_way}
use Rattle.message_layout.proofs.clashes.first_rival.Goals as goal
use Rattle.message_layout.proofs.clashes.first_rival.Goals.{then-other-one-via-then-other-one, then-other-one-via-else-other-one+then-other-one-2}

pub returns-then-other-one : goal.returns-then-other-one
returns-then-other-one c =
    none_this_way c.args.arrivals.now c.args.at c.loop-k.k c.args.row.now (record { to = 0; from = 0; message = 0 }) c.requires.order (omega arith) c.loop-k-test.true
    (λ same. elim c.then-other-one.branch [
      | then-other-one-via-then-other-one w ↦ w.if-other-one.true same.0
      | then-other-one-via-else-other-one+then-other-one-2 w ↦ w.if-other-one-2.true same.1
    ]) c.loop-k.invariant

pub returns-then-is_marked : goal.returns-then-is_marked
returns-then-is_marked c =
    first_marked c.args.arrivals.now c.args.at c.loop-k.k c.args.row.now (record { to = 0; from = 0; message = 0 }) c.requires.order (omega arith) c.loop-k-test.true
    c.if-other-one.false c.if-other-one-2.false (sym c.if-is_marked.ensures) c.loop-k.invariant

pub returns : goal.returns
returns c = none_left c.args.arrivals.now c.args.at c.loop-k.k c.args.row.now c.requires.order c.requires.at (omega arith) c.loop-k.invariant
