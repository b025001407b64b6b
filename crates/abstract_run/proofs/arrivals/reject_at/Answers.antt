use Rattle.abstract_run.specs.Channels.{rejected_at}
use Rattle.abstract_run.proofs.Tried.{changes_in}
use Rattle.abstract_run.proofs.arrivals.reject_at.Goals as goal

pub returns : goal.returns
returns c =
    changes_in c.args.channels.now c.channels.inside.items.items c.args.at (rejected_at c.args.place) c.index_mut.result.now c.reject_in.new.channel c.reject_in.result
    c.channels.view_is c.requires.within c.index_mut.ensures.value c.reject_in.ensures
