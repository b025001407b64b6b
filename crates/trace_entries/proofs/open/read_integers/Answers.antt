use Rattle.std.proofs.Common.{◌≡◌, ◌∷◌, ◌++◌, ◌∙◌, FitsSigned, ap, map, sym}
use Rattle.std.specs.Fmt.{signed_decimal}
use Rattle.std.specs.Int.{w64}
use Rattle.run_text.specs.Operands.{words_left}
use Rattle.trace_entries.proofs.TailFacts.{next_of}
use Rattle.trace_entries.proofs.open.read_integers.Goals as goal

pub returns-in-Err : goal.returns-in-Err
returns-in-Err c = λ bad others h.
    let cut : words_left c.loop-left.left ≡ c.split_word.result.0.now ∷ words_left c.split_word.result.1 = ap words_left c.in-Some.is ∙ c.split_word.ensures in
    let here = ap (λ ws. map signed_decimal c.loop-left.values ++ ws) (sym cut) ∙ c.loop-left.invariant.1 in
    let z = next_of (FitsSigned w64) signed_decimal (words_left c.args.words) c.loop-left.values c.split_word.result.0.now (words_left c.split_word.result.1) others here h in
    c.in-Err.ensures bad z.0 (z.1, z.2)
