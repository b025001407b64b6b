use Rattle.std.proofs.Common.{ap, sym, subst, length, IsSome, arith}
use Rattle.abstract_run.proofs.Fallen.{back_rest}
use Rattle.abstract_run.proofs.Stands.{gone_among}
use Rattle.abstract_run.proofs.stops.+take_back.Goals as goal

pub take_back-requires : goal.take_back-requires
take_back-requires t c = (
  omega (arith, ap length c.in-Some.ensures.cases.0),
  (
    gone_among c.args.processes c.in-Some-place_of.at c.args.channels.now c.drop_last_at.new.channels c.requires.among c.drop_last_at.ensures,
    subst IsSome
        (back_rest c.args.from c.in-Some.first.now c.in-Some-place_of.at c.in-Some.rest.now c.args.receivers.now c.args.channels.now c.drop_last_at.new.channels c.in-Some.ensures.cases.0
        (sym c.in-Some-place_of.ensures.place) c.drop_last_at.ensures)
        c.requires.can,
  ),
)
