use Rattle.std.proofs.Common.{◌≡◌, sym, subst, IfOk}
use Rattle.byte_meaning.proofs.InSystem.{meaning_by_actions, meant_cell}
use Rattle.byte_meaning.proofs.messages.meaning.Goals as goal

pub returns-clause-exact : goal.returns-clause-exact
returns-clause-exact c =
    subst (λ meant. IfOk c.first_heard.result (λ cell. cell ≡ meant))
    (meaning_by_actions c.args.system.now c.args.from c.args.to c.args.bytes.now c.as_slice.result.now c.in-Some.process.now c.as_slice-2.result.now c.as_slice.ensures c.as_slice-2.ensures (sym c.in-Some.ensures))
    c.first_heard.ensures

pub returns-clause-means : goal.returns-clause-means
returns-clause-means c = meant_cell c.args.system.now c.args.from c.args.to c.args.bytes.now c.first_heard.result (returns-clause-exact c)
