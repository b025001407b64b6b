use Rattle.std.proofs.Common.{◌≡◌, ◌∙◌, ap, subst, sym, take}
use Rattle.run_text.specs.Names.{AreFewNames}
use Rattle.run_text.specs.Operands.{words_of}
use Rattle.run_text.specs.Reads.{Reads, texts}
use Rattle.run_text.specs.ScheduleText.{AreWordsOf}
use Rattle.run_text.proofs.Lines.{line_read}
use Rattle.run_text.proofs.events.read_event.Goals as goal

pub read_words-requires : goal.read_words-requires
read_words-requires c = subst AreFewNames (sym c.as_slice-2.ensures) (record { named = c.requires.named; few = c.requires.few })

pub returns : goal.returns
returns c =
    let names = c.args.names.now.processes in
    let words : texts c.as_slice.result.now ≡ take 6 (words_of c.args.line.now) = ap texts c.as_slice.ensures.value ∙ c.in-Ok.ensures in
    let read = subst (λ ns. Reads (AreWordsOf ns (texts c.as_slice.result.now)) c.read_words.result) c.as_slice-2.ensures c.read_words.ensures in
    line_read names c.args.line.now c.read_words.result c.requires.named (subst (λ ws. Reads (AreWordsOf names ws) c.read_words.result) words read)
