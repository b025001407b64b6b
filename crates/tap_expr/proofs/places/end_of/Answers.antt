use Rattle.std.proofs.Common.{sym, arith}
use Rattle.tap_expr.proofs.places.end_of.Goals as goal

pub overflow_sub-result : goal.overflow_sub-result
overflow_sub-result c = (c.requires.texts _ c.in-Some.token (sym c.in-Some.ensures.value)).ordered

pub overflow_add-result : goal.overflow_add-result
overflow_add-result c =
    let i = c.requires.texts _ c.in-Some.token (sym c.in-Some.ensures.value) in
    let p = c.requires.placed _ c.in-Some.token (sym c.in-Some.ensures.value) in
    let o = i.ordered in
    let w = i.within in
    let s = c.requires.sized in
    omega (arith, o, w, p, s)
