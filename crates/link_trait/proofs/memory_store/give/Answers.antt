use Rattle.std.proofs.Common.{◌∙◌, ap, rules, take}
use Rattle.std.proofs.lemmas.List.{take-append-le}
use Rattle.link_trait.proofs.FrontGiven.{gives_front}
use Rattle.link_trait.proofs.memory_store.give.Goals as goal

pub returns-clause-gives : goal.returns-clause-gives
returns-clause-gives c =
    let front = take-append-le _ _ _ (search rules) ∙ c.copy_front.ensures.front ∙ ap (take c.copy_front.result) c.rest.ensures in
    gives_front c.args.bytes.now _ c.args.at c.args.piece _ c.requires (search rules) front
