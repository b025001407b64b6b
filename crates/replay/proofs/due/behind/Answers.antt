use Rattle.std.proofs.Common.{◌≡◌, ◌<◌, true, length, get_or, arith, rules}
use Rattle.replay.proofs.Fronts.{eq_there, feed_there, halves, head_there, line_there}
use Rattle.replay.proofs.due.behind.Goals as goal
use Rattle.replay.proofs.due.behind.Goals.{else-eq-via-then-eq+else-tail-eq10, else-eq-via-else-eq}

pub returns-then-tail-eq10 : goal.returns-then-tail-eq10
returns-then-tail-eq10 c =
    let some : 0 < length c.split_at.result.1.now = omega arith in
    let same : c.split_at.result.0.now ≡ c.args.line.now = search rules in
    let feed : get_or c.split_at.result.1.now 0 0 ≡ 10 = search rules in
    line_there c.args.text.now c.args.line.now c.split_at.result.0.now c.split_at.result.1.now (halves _ _ _ _ c.split_at.ensures.front c.split_at.ensures.back) same some feed

pub returns-else-eq : goal.returns-else-eq
returns-else-eq c = λ rest e.
    let head = head_there c.args.text.now c.args.line.now c.split_at.result.0.now rest c.split_at.ensures.front e in
    let feed = feed_there c.args.text.now c.args.line.now c.split_at.result.1.now rest c.split_at.ensures.back e in
    let same : c.eq.result ≡ true = eq_there _ c.split_at.result.0.now c.args.line.now c.eq.ensures head in
    elim c.else-eq.branch [ else-eq-via-then-eq+else-tail-eq10 w ↦ w.if-tail-eq10.false feed | else-eq-via-else-eq w ↦ let no = w.if-eq.false in cc ]
