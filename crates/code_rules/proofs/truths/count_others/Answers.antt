use Rattle.std.proofs.Common.{◌≡◌, ◌+◌, ◌<◌, ◌++◌, ◌∷◌, [], ℕ, pos, length, take, get_or, ap, sym, subst, ◌∙◌, arith}
use Rattle.std.specs.Prelude.{cond, count_by}
use Rattle.std.proofs.lemmas.List.{length-append}
use Rattle.tap_base.specs.Interval.{from_to}
use Rattle.code_rules.specs.Others.{is_other}
use Rattle.code_rules.proofs.OthersCounted.{AreCounts, count_at_end, count_few, count_more, counts_front, counts_more, one_at_most}
use Rattle.code_rules.proofs.truths.count_others.Goals as goal

pub registers-preserved : goal.registers-preserved
registers-preserved c =
    let inside : c.registers.at < length c.args.ranges.now = omega arith in
    let other = is_other (get_or c.args.ranges.now c.registers.at (from_to (pos 0) (pos 0))) in
    let more = count_more c.args.ranges.now c.registers.at (from_to (pos 0) (pos 0)) inside in
    let one : c.one_if-others.result ≡ cond other 1 0 = c.one_if-others.ensures ∙ ap (λ b. cond b 1 0) c.is_other.ensures in
    let sum : c.registers.others + c.one_if-others.result ≡ count_by is_other (take (c.registers.at + 1) c.args.ranges.now) = omega (arith, more, one, c.registers.invariant.others) in
    let pushed : c.push.new.self ≡ c.registers.table ++ (c.registers.others + c.one_if-others.result) ∷ [] = c.in_ok-push.ensures.ok in
    let counts = counts_more c.args.ranges.now c.registers.table (c.registers.at + 1) (c.registers.others + c.one_if-others.result) c.registers.invariant.each c.registers.invariant.counted sum in
    record {
      counted = ap length pushed ∙ length-append c.registers.table ((c.registers.others + c.one_if-others.result) ∷ []) ∙ ap (λ (n : ℕ). n + 1) c.registers.invariant.counted;
      each = subst (AreCounts c.args.ranges.now) (sym pushed) counts;
      others = sum;
      few = omega (arith, one, one_at_most other, c.registers.invariant.few);
    }

pub registers-init : goal.registers-init
registers-init c =
    let ranges = c.args.ranges.now in
    let front = counts_front ranges c.args.table.now c.args.from c.requires.within c.requires.counted in
    let last : get_or c.as_slice.result.now c.args.from 0 ≡ count_by is_other (take c.args.from ranges) = ap (λ xs. get_or xs c.args.from 0) c.as_slice.ensures ∙ count_at_end ranges c.args.table.now c.args.from c.requires.within c.requires.counted in
    record {
      counted = front.0;
      each = front.1;
      others = last;
      few = omega (arith, last, count_few ranges c.args.from c.requires.within);
    }
