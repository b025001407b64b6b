use Rattle.std.proofs.Common.{sym, subst, None}
use Rattle.run_text.specs.inner.Reading.{BeginsNumber}
use Rattle.run_text.proofs.Numbers.{long_begins}
use Rattle.tapc_core.proofs.SeedTexts.{natural_found}
use Rattle.tapc_core.proofs.seeds.read_natural.Goals as goal

pub returns-then-not-begins_number : goal.returns-then-not-begins_number
returns-then-not-begins_number c =
    natural_found c.args.word.now None (λ n w. let k = c.if-not-begins_number.ensures.1 (subst BeginsNumber (sym c.as_bytes.ensures.value) (long_begins c.args.word.now n w)) in cc)

pub returns : goal.returns
returns c = natural_found c.args.word.now c.parsed.result c.parsed.ensures
