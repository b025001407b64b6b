use Rattle.std.proofs.lemmas.Result.{err_from_is_err_and}
use Rattle.store_lines.proofs.ReadOn.{fault_told, stop_told}
use Rattle.store_lines.proofs.line.read_line.Goals as goal

pub returns-in_err-ended-clause-tells : goal.returns-in_err-ended-clause-tells
returns-in_err-ended-clause-tells g c =
    let p = err_from_is_err_and c.from_residual-in_err-ended.result c.from_residual-in_err-ended.ensures.1 in
    rw (p.1, p.2) (stop_told c.in_err-ended.field-0.0 _ c.loop-ended.held (g.S.Store.left c.loop-ended.store) c.loop-ended.line.items c.move_front.new.held c.move_front.new.line.items _ c.loop-ended.invariant.reading c.in_err-ended.ensures)

pub returns-in_err-fill-2-clause-tells : goal.returns-in_err-fill-2-clause-tells
returns-in_err-fill-2-clause-tells g c =
    let p = err_from_is_err_and c.from_residual-in_err-fill-2.result c.from_residual-in_err-fill-2.ensures.1 in
    rw (p.1, p.2) (fault_told c.in_err-fill-2.field-0.0 _ c.loop-ended.held (g.S.Store.left c.loop-ended.store) c.loop-ended.line.items c.move_front.new.held c.move_front.new.line.items c.fill-else-ended.new.self _
    c.loop-ended.invariant.reading (rw c.if-ended.false at c.in_ok-ended.ensures) c.in_err-fill-2.ensures.fills)
