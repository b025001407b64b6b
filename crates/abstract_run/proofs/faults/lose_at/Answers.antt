use Rattle.tap_base.specs.Faults.{lost_at}
use Rattle.abstract_run.specs.Channels.{on_flight}
use Rattle.abstract_run.proofs.Tried.{changes_in}
use Rattle.abstract_run.proofs.faults.lose_at.Goals as goal

pub returns : goal.returns
returns c =
    changes_in c.args.channels.now c.channels.inside.items.items c.args.at (on_flight (lost_at c.args.place)) c.index_mut.result.now c.lose_in.new.channel c.lose_in.result
    c.channels.view_is c.requires c.index_mut.ensures.value c.lose_in.ensures
