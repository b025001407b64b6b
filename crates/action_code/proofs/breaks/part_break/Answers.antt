use Rattle.std.proofs.Common.{◌≡◌, sym, ◌∙◌, None, rules}
use Rattle.code_rules.specs.Places.{seen}
use Rattle.tap_base.specs.ListWords.{by_number}
use Rattle.register_code.specs.Verified.{instr_breaks, whole_breaks}
use Rattle.action_code.proofs.Firsts.{first_some, none_first}
use Rattle.register_code.proofs.Kept.{whole_when}
use Rattle.action_code.proofs.breaks.part_break.Goals as goal

pub returns-in-Some : goal.returns-in-Some
returns-in-Some c =
    let site = seen c.args.code.now c.args.instrs.now c.args.place.now in
    sym (first_some (by_number 0 (instr_breaks site c.args.action) c.args.instrs.now) (whole_breaks site c.args.action) c.in-Some.bad (sym c.in-Some.ensures))

pub whole_rule-requires : goal.whole_rule-requires
whole_rule-requires c =
    let site = seen c.args.code.now c.args.instrs.now c.args.place.now in
    let none : c.instr_break.result ≡ None = search rules in
    whole_when site c.args.action (none_first (by_number 0 (instr_breaks site c.args.action) c.args.instrs.now) (sym c.instr_break.ensures ∙ none))
