use Rattle.tap_base.specs.Faults.{copied_at}
use Rattle.abstract_run.specs.Channels.{on_flight, where_room}
use Rattle.abstract_run.proofs.Tried.{tries_in}
use Rattle.abstract_run.proofs.faults.copy_at.Goals as goal

pub returns : goal.returns
returns c =
    tries_in c.args.channels.now c.channels.inside.items.items c.args.at (where_room (on_flight (copied_at c.args.place))) c.index_mut.result.now c.copy_in.new.channel c.copy_in.result
    c.channels.view_is c.requires c.index_mut.ensures.value c.copy_in.ensures
