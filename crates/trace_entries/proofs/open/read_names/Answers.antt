use Rattle.std.proofs.Common.{◌≡◌, ◌<◌, ◌∷◌, ◌++◌, ◌∙◌, ap, length, map, sym}
use Rattle.run_text.specs.Operands.{words_left}
use Rattle.run_text.specs.TraceText.{name_at}
use Rattle.trace_entries.proofs.TailFacts.{next_of}
use Rattle.trace_entries.proofs.open.read_names.Goals as goal

pub returns-in-Err : goal.returns-in-Err
returns-in-Err c = λ bad others h.
    let names = c.args.names.now in
    let cut : words_left c.loop-left.left ≡ c.split_word.result.0.now ∷ words_left c.split_word.result.1 = ap words_left c.in-Some.is ∙ c.split_word.ensures in
    let here = ap (λ ws. map (name_at names) c.loop-left.processes ++ ws) (sym cut) ∙ c.loop-left.invariant.1 in
    let p = next_of (λ q. q < length names) (name_at names) (words_left c.args.words) c.loop-left.processes c.split_word.result.0.now (words_left c.split_word.result.1) others here h in
    c.in-Err.ensures bad p.0 (p.1, p.2)
