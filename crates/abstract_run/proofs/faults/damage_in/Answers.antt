use Rattle.std.proofs.Common.{Some, ap, sym, ◌∙◌, arith}
use Rattle.abstract_run.proofs.Behind.{damaged_behind}
use Rattle.abstract_run.proofs.faults.damage_in.Goals as goal

pub returns : goal.returns
returns c =
    damaged_behind c.args.channel.now c.args.place c.args.cell (omega (arith, c.if-at-len.false, c.len.ensures)) ∙ ap (λ cells. Some (record c.args.channel.now { cells = cells })) (sym c.set.ensures)
