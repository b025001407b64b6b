use Rattle.tap_base.specs.Faults.{moved_to}
use Rattle.abstract_run.specs.Channels.{on_flight}
use Rattle.abstract_run.proofs.Tried.{changes_in}
use Rattle.abstract_run.proofs.faults.move_at.Goals as goal

pub returns : goal.returns
returns c =
    changes_in c.args.channels.now c.channels.inside.items.items c.args.at (on_flight (moved_to c.args.place c.args.target)) c.index_mut.result.now c.move_in.new.channel c.move_in.result
    c.channels.view_is c.requires c.index_mut.ensures.value c.move_in.ensures
