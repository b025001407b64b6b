use Rattle.std.proofs.Common.{◌+◌, ◌∙◌, Some, ap, sym, arith}
use Rattle.tap_base.proofs.ListFacts.{element_at}
use Rattle.abstract_run.proofs.Behind.{moved_behind}
use Rattle.abstract_run.proofs.faults.move_in.Goals as goal

pub returns-then-from-to : goal.returns-then-from-to
returns-then-from-to c =
    let channel = c.args.channel.now in
    let from = c.if-from-len.false in
    let to = c.if-to-len.false in
    let len = c.len.ensures in
    let still = c.len-else-from-len.ensures in
    let f = element_at channel.cells (channel.mark + c.args.place) (omega (arith, from, len)) in
    moved_behind channel c.args.place c.args.target f.0 (omega (arith, from, len)) (omega (arith, to, still)) f.1 ∙ ap (λ cells. Some (record channel { cells = cells })) (sym (c.move_up.ensures f.0 f.1))

pub returns-else-from-to : goal.returns-else-from-to
returns-else-from-to c =
    let channel = c.args.channel.now in
    let from = c.if-from-len.false in
    let to = c.if-to-len.false in
    let len = c.len.ensures in
    let still = c.len-else-from-len.ensures in
    let f = element_at channel.cells (channel.mark + c.args.place) (omega (arith, from, len)) in
    moved_behind channel c.args.place c.args.target f.0 (omega (arith, from, len)) (omega (arith, to, still)) f.1 ∙ ap (λ cells. Some (record channel { cells = cells })) (sym (c.move_down.ensures f.0 f.1))
