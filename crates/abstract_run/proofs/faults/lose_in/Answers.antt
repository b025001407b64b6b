use Rattle.std.proofs.Common.{Some, ap, sym, ◌∙◌, arith}
use Rattle.abstract_run.proofs.Behind.{lost_behind}
use Rattle.abstract_run.proofs.faults.lose_in.Goals as goal

pub returns : goal.returns
returns c =
    lost_behind c.args.channel.now c.args.place (omega (arith, c.if-at-len.false, c.len.ensures)) ∙ ap (λ cells. Some (record c.args.channel.now { cells = cells })) (sym c.remove.ensures.rest)
