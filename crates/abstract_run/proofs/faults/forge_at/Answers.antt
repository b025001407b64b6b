use Rattle.abstract_run.specs.Channels.{appended}
use Rattle.abstract_run.proofs.Tried.{tries_in}
use Rattle.abstract_run.proofs.faults.forge_at.Goals as goal

pub returns : goal.returns
returns c =
    tries_in c.args.channels.now c.channels.inside.items.items c.args.at (appended c.args.cell) c.index_mut.result.now c.forge_in.new.channel c.forge_in.result
    c.channels.view_is c.requires c.index_mut.ensures.value c.forge_in.ensures
