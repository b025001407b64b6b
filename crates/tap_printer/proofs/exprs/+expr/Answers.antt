use Rattle.std.proofs.Common.{rules, arith}
use Rattle.tap_printer.specs.inner.Levels.{as_level}
use Rattle.tap_printer.proofs.Appends.{after_append, on_ok}
use Rattle.tap_printer.proofs.Phrases.{by_kind, of_index, infix_written, choice_written}
use Rattle.tap_printer.proofs.exprs.+expr.Goals as goal

pub write_bare-returns-in_ok-write_at-in-Index : goal.write_bare-returns-in_ok-write_at-in-Index
write_bare-returns-in_ok-write_at-in-Index t c = grind (arith, after_append, by_kind, of_index)

pub write_bare-returns-in_ok-write_at-in-Binary-2 : goal.write_bare-returns-in_ok-write_at-in-Binary-2
write_bare-returns-in_ok-write_at-in-Binary-2 t c = on_ok c.mark-in-Binary-4.result c.mark-in-Binary-4.ensures
    (choice_written c.args.expr.now c.in-Binary.op c.get-in-Binary.result.now c.get-in-Binary-2.result.now c.operator.result c.args.pen.now c.mark-in-Binary.new.self c.mark-in-Binary-2.new.self c.write_at-in-Binary.new.pen c.mark-in-Binary-3.new.self c.write_at-in-Binary-2.new.pen _
    (search rules) (search rules) (search rules) (search rules) (search rules) (search rules) (search rules) (search rules))

pub write_bare-returns-in_ok-mark-in-Binary-2-2 : goal.write_bare-returns-in_ok-mark-in-Binary-2-2
write_bare-returns-in_ok-mark-in-Binary-2-2 t c = on_ok c.write_at-in-Binary-2-3.result c.write_at-in-Binary-2-3.ensures
    (infix_written c.args.expr.now c.in-Binary.op c.get-in-Binary-2-2.result.now c.get-in-Binary-2-3.result.now (as_level c.left_side.result) (as_level c.right_side.result) c.operator-in-Binary-2.result c.args.pen.now c.write_at-in-Binary-2-2.new.pen c.mark-in-Binary-2-2.new.self _
    (search rules) (search rules) (search rules) (search rules) (search rules) (search rules) (search rules))
