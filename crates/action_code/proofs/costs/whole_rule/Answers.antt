use Rattle.std.proofs.Common.{◌≡◌, ◌+◌, ◌*◌, ◌<◌, length, slice_get, get_or, pos, sym, ap, ◌∙◌, rules, arith}
use Rattle.std.proofs.lemmas.Option.{slice_get-get_or}
use Rattle.register_code.specs.declared.instr.Instr.TheVariants as instr
use Rattle.register_code.specs.Loops.{counted, cost, one_send, one_step, sends, weight}
use Rattle.action_code.proofs.Spending.{all_kept, at_most_one, grows, so_far, so_far_more, too_dear, too_many}
use Rattle.action_code.proofs.Weights.{weight_first}
use Rattle.action_code.proofs.costs.whole_rule.Goals as goal

pub loop-at-init : goal.loop-at-init
loop-at-init c = record { weight_is = sym (weight_first c.args.instrs.now); steps_are = search rules; sent_are = search rules; small = omega arith; fewer = omega arith; wide = omega arith }

pub returns-then-steps-gt16000000 : goal.returns-then-steps-gt16000000
returns-then-steps-gt16000000 c =
    let inside : c.loop-at.at < length c.args.instrs.now = omega arith in
    let here = slice_get-get_or c.args.instrs.now c.loop-at.at (instr.Const 0 (pos 0)) inside in
    let more = so_far_more one_step c.args.instrs.now c.loop-at.at (get_or c.args.instrs.now c.loop-at.at (instr.Const 0 (pos 0))) here in
    let most = grows (λ i. counted one_step (slice_get c.args.instrs.now i) * weight c.args.instrs.now i) (c.loop-at.at + 1) (length c.args.instrs.now) (omega arith) in
    let dear : 16000000 < cost c.args.instrs.now = omega (arith, more, most, c.loop-at.invariant.weight_is, c.loop-at.invariant.steps_are) in too_dear c.args.instrs.now dear

pub next_weight-weight-requires-clause-here : goal.next_weight-weight-requires-clause-here
next_weight-weight-requires-clause-here c = let inside : c.loop-at.at < length c.args.instrs.now = omega arith in slice_get-get_or c.args.instrs.now c.loop-at.at (instr.Const 0 (pos 0)) inside

pub loop-at-preserved : goal.loop-at-preserved
loop-at-preserved c =
    let inside : c.loop-at.at < length c.args.instrs.now = omega arith in
    let i = get_or c.args.instrs.now c.loop-at.at (instr.Const 0 (pos 0)) in
    let here = slice_get-get_or c.args.instrs.now c.loop-at.at (instr.Const 0 (pos 0)) inside in
    let steps = so_far_more one_step c.args.instrs.now c.loop-at.at i here in
    let sent = so_far_more one_send c.args.instrs.now c.loop-at.at i here in
    let few = at_most_one i (weight c.args.instrs.now c.loop-at.at) in
    let was = c.loop-at.invariant.weight_is in
    let sends_are : c.sends-sent.result ≡ one_send i * weight c.args.instrs.now c.loop-at.at = c.sends-sent.ensures ∙ ap (λ w. one_send i * w) was in
    record {
      weight_is = c.next_weight-weight.ensures.value;
      steps_are = omega (arith, steps, was, c.loop-at.invariant.steps_are);
      sent_are = omega (arith, sent, sends_are, c.loop-at.invariant.sent_are);
      small = omega arith;
      fewer = omega (arith, few, was, sends_are, c.loop-at.invariant.fewer);
      wide = c.next_weight-weight.ensures.wide;
    }

pub returns-then-sent-gt64 : goal.returns-then-sent-gt64
returns-then-sent-gt64 c =
    let end : c.loop-at.at ≡ length c.args.instrs.now = omega arith in
    let steps : c.loop-at.steps ≡ cost c.args.instrs.now = c.loop-at.invariant.steps_are ∙ ap (so_far one_step c.args.instrs.now) end in
    let sent : c.loop-at.sent ≡ sends c.args.instrs.now = c.loop-at.invariant.sent_are ∙ ap (so_far one_send c.args.instrs.now) end in
    too_many c.args.instrs.now (omega (arith, steps, c.loop-at.invariant.small)) (omega (arith, sent))

pub returns-else-sent-gt64 : goal.returns-else-sent-gt64
returns-else-sent-gt64 c =
    let end : c.loop-at.at ≡ length c.args.instrs.now = omega arith in
    let steps : c.loop-at.steps ≡ cost c.args.instrs.now = c.loop-at.invariant.steps_are ∙ ap (so_far one_step c.args.instrs.now) end in
    let sent : c.loop-at.sent ≡ sends c.args.instrs.now = c.loop-at.invariant.sent_are ∙ ap (so_far one_send c.args.instrs.now) end in
    all_kept c.args.instrs.now (omega (arith, steps, c.loop-at.invariant.small)) (omega (arith, sent))
