use Rattle.std.proofs.Common.{◌≡◌, ◌∙◌, length, sym, ap, refl, arith}
use Rattle.register_code.specs.Loops.{one_choice, one_send}
use Rattle.action_code.specs.Using.{one_value}
use Rattle.action_code.proofs.Spending.{so_far}
use Rattle.action_code.proofs.Used.{few_values, is_small, so_far_on}
use Rattle.action_code.proofs.Weights.{weight_first}
use Rattle.action_code.proofs.uses.uses_of.Goals as goal

pub loop-at-init : goal.loop-at-init
loop-at-init c = record { weight_is = sym (weight_first c.args.instrs.now); sends = refl; values = refl; choices = refl; few_sends = omega arith; few_values = omega arith; few_choices = omega arith }

pub add-uses-requires : goal.add-uses-requires
add-uses-requires c =
    let s = is_small c.args.messages.now c.args.instrs.now c.loop-at.at c.loop-at.weight c.loop-at.uses c.instr_at-instr.result c.instr_at-instr.ensures c.requires.cheap c.loop-at.invariant in
    record { few = few_values c.args.messages.now c.instr_at-instr.result c.requires.few; weight = s.weight; sends = s.sends; values = s.values; choices = s.choices }

pub next_weight-weight-requires : goal.next_weight-weight-requires
next_weight-weight-requires c =
    let s = is_small c.args.messages.now c.args.instrs.now c.loop-at.at c.loop-at.weight c.loop-at.uses c.instr_at-instr.result c.instr_at-instr.ensures c.requires.cheap c.loop-at.invariant in
    record { whole = c.requires.whole; here = c.instr_at-instr.ensures; was = c.loop-at.invariant.weight_is; small = s.weight }

pub loop-at-preserved : goal.loop-at-preserved
loop-at-preserved c =
    so_far_on c.args.messages.now c.args.instrs.now c.loop-at.at c.loop-at.weight c.next_weight-weight.result c.loop-at.uses c.add-uses.result c.instr_at-instr.result c.requires.few c.instr_at-instr.ensures c.loop-at.invariant
    (record { sends = c.add-uses.ensures.sends; values = c.add-uses.ensures.values; choices = c.add-uses.ensures.choices }) c.next_weight-weight.ensures.value

pub returns : goal.returns
returns c =
    let end : c.loop-at.at ≡ length c.args.instrs.now = omega arith in
    record {
      sends = c.loop-at.invariant.sends ∙ ap (so_far one_send c.args.instrs.now) end;
      values = c.loop-at.invariant.values ∙ ap (so_far (one_value c.args.messages.now) c.args.instrs.now) end;
      choices = c.loop-at.invariant.choices ∙ ap (so_far one_choice c.args.instrs.now) end;
    }
