use Rattle.std.proofs.Common.{◌≡◌, ◌<◌, ◌+◌, ◌∙◌, Some, length, ap, sym, arith}
use Rattle.std.specs.List.{insert}
use Rattle.abstract_run.specs.Channels.{most_cells}
use Rattle.abstract_run.proofs.Behind.{copied_where_room}
use Rattle.abstract_run.proofs.faults.copy_in.Goals as goal

pub returns : goal.returns
returns c =
    let channel = c.args.channel.now in
    let few : length channel.cells < most_cells = (let below = c.if-len-ge-MOST_CELLS.false in let len = c.len.ensures in omega (arith, below, len)) in
    copied_where_room channel c.args.place c.in-Some.cell.now few c.in-Some.ensures.within (sym c.in-Some.ensures.value)
    ∙ ap (λ x. Some (record channel { cells = insert channel.cells (channel.mark + c.args.place + 1) x })) (sym c.in_ok-copy.ensures)
    ∙ ap (λ cells. Some (record channel { cells = cells })) (sym c.in_ok-insert.ensures.ok)
