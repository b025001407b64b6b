use Rattle.std.proofs.Common.{◌≡◌, ◌<◌, ℕ, length, ap, sym, ◌∙◌, slice_get, get_or, Some, None, pos, arith, rules}
use Rattle.std.specs.Option.{option_map}
use Rattle.register_code.specs.declared.bad.BadCode.{BadCode}
use Rattle.register_code.specs.declared.instr.Instr.TheVariants as instr
use Rattle.register_code.specs.Rules.{broken}
use Rattle.code_rules.specs.Places.{seen}
use Rattle.register_code.specs.Verified.{instr_breaks}
use Rattle.action_code.proofs.Firsts.{first_map, left_here, left_next}
use Rattle.action_code.proofs.breaks.instr_break.Goals as goal

pub returns-in-Some : goal.returns-in-Some
returns-in-Some c =
    let site = seen c.args.code.now c.args.instrs.now c.args.place.now in
    let first = instr.Const 0 (pos 0) in
    let here = get_or c.args.instrs.now c.loop-at.at first in
    let bad : ℕ → BadCode = λ rule. record { process = c.args.place.now.process; action = c.args.action; part = c.args.place.now.part; instr = c.loop-at.at; rule = rule } in
    let inside : c.loop-at.at < length c.args.instrs.now = omega arith in
    let said : slice_get (instr_breaks site c.args.action c.loop-at.at here) 0 ≡ Some (bad c.in-Some.rule) = first_map bad (broken site c.loop-at.at here) ∙ ap (option_map bad) (sym c.in-Some.ensures) in
    sym (sym c.loop-at.invariant ∙ left_here (instr_breaks site c.args.action) c.args.instrs.now c.loop-at.at first (bad c.in-Some.rule) inside said)

pub loop-at-preserved : goal.loop-at-preserved
loop-at-preserved c =
    let site = seen c.args.code.now c.args.instrs.now c.args.place.now in
    let first = instr.Const 0 (pos 0) in
    let here = get_or c.args.instrs.now c.loop-at.at first in
    let bad : ℕ → BadCode = λ rule. record { process = c.args.place.now.process; action = c.args.action; part = c.args.place.now.part; instr = c.loop-at.at; rule = rule } in
    let inside : c.loop-at.at < length c.args.instrs.now = omega arith in
    let none : c.first_broken.result ≡ None = search rules in
    let said : slice_get (instr_breaks site c.args.action c.loop-at.at here) 0 ≡ None = first_map bad (broken site c.loop-at.at here) ∙ ap (option_map bad) (sym c.first_broken.ensures ∙ none) in
    sym (left_next (instr_breaks site c.args.action) c.args.instrs.now c.loop-at.at first inside said) ∙ c.loop-at.invariant
