use Rattle.std.proofs.Common.{Some, subst}
use Rattle.core_tests.proofs.InMemory.{took}
use Rattle.core_tests.proofs.cases.run_in_memory.Goals as goal
use Rattle.tapc_core.specs.Command.{AreFound}
use Rattle.link_trait.specs.Entries.{contents_of}
use Rattle.tapc_core.specs.Words.{command_of, world}
use Rattle.tapc_core.specs.commands.All.{command_for}
use Rattle.tapc_core.specs.declared.status.Status.TheVariants.{Done}

pub returns : goal.returns
returns c = record {
  done = λ system schedule seed settings same e.
      let contents = contents_of c.args.store.now.entries in
      let asked = command_of c.args.words.now in
      let answered : AreFound ((command_for asked).reads Done) contents = subst (λ s. AreFound ((command_for asked).reads s) contents) e (c.run.ensures.found tt) in
      let found : AreFound ((command_for (Some (world system schedule seed settings))).reads Done) contents = subst (λ a. AreFound ((command_for a).reads Done) contents) same answered in
      took system schedule seed settings c.args.store.now c.args.out.now c.run.new.out found (c.run.ensures.done system schedule seed settings same e);
}
