use Rattle.std.proofs.Common.{sym, ◌∙◌}
use Rattle.tap_settings.proofs.Texts.{without_dot, without_equals, without_name, without_number}
use Rattle.tap_settings.proofs.settings.setting_of.Goals as goal
use Rattle.tap_settings.proofs.settings.setting_of.Goals.{then-not-is_name-via-then-not-is_name, then-not-is_name-via-else-not-is_name+then-not-is_name-2}

pub returns-in_default : goal.returns-in_default
returns-in_default c = without_dot c.args.word.now c.in_default.ensures

pub returns-in_default-split_at_first : goal.returns-in_default-split_at_first
returns-in_default-split_at_first c =
    without_equals c.args.word.now c.in-Some.process.now c.in-Some.behind.now c.in-Some.ensures.0 c.in-Some.ensures.1 c.in_default-split_at_first.ensures

pub returns-then-not-is_name : goal.returns-then-not-is_name
returns-then-not-is_name c =
    without_name c.args.word.now c.in-Some.process.now c.in-Some-split_at_first.input.now c.in-Some-split_at_first.number.now
    (record { behind = c.in-Some.behind.now; dot = c.in-Some.ensures.0; before_dot = c.in-Some.ensures.1; equals = c.in-Some-split_at_first.ensures.0; before_equals = c.in-Some-split_at_first.ensures.1 })
    (λ p x. elim c.then-not-is_name.branch [ then-not-is_name-via-then-not-is_name w ↦ let k = sym p ∙ sym c.is_name.ensures in let n = w.if-not-is_name.true in cc | then-not-is_name-via-else-not-is_name+then-not-is_name-2 w ↦ let k = sym x ∙ sym w.is_name-else-not-is_name.ensures in let n = w.if-not-is_name-2.true in cc ])

pub returns-in_default-read_integer : goal.returns-in_default-read_integer
returns-in_default-read_integer c =
    without_number c.args.word.now c.in-Some.process.now c.in-Some-split_at_first.input.now c.in-Some-split_at_first.number.now
    (record { behind = c.in-Some.behind.now; dot = c.in-Some.ensures.0; before_dot = c.in-Some.ensures.1; equals = c.in-Some-split_at_first.ensures.0; before_equals = c.in-Some-split_at_first.ensures.1 })
    (λ z h e. let k = c.in_default-read_integer.ensures.each z h e in cc)
