use Rattle.std.proofs.Common.{sym}
use Rattle.tap_lexer.proofs.Reading.{blank_steps}
use Rattle.tap_lexer.proofs.steps.read_step.Goals as goal

pub returns-then-is_blank : goal.returns-then-is_blank
returns-then-is_blank c = blank_steps c.args.text.now c.args.at c.args.place c.after.result c.requires.there c.requires.line c.requires.column (sym c.if-is_blank.ensures) c.after.ensures
