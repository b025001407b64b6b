use Rattle.std.proofs.Common.{subst, sym, ◌∙◌}
use Rattle.tap_settings.specs.inner.Reading.{BeginsInteger}
use Rattle.tap_settings.proofs.IntegerTexts.{integer_begins}
use Rattle.tap_settings.proofs.integers.read_integer.Goals as goal

pub returns-then-not-begins_integer-clause-each : goal.returns-then-not-begins_integer-clause-each
returns-then-not-begins_integer-clause-each c z h e = let k = c.if-not-begins_integer.ensures.1 (subst BeginsInteger (sym (c.as_bytes.ensures.value ∙ e)) (integer_begins z h)) in cc
