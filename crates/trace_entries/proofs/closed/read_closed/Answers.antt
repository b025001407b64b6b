use Rattle.std.proofs.Common.{◌≡◌, ◌∙◌, ap, subst, take}
use Rattle.run_text.specs.Operands.{words_of}
use Rattle.run_text.specs.Reads.{Reads, texts}
use Rattle.trace_entries.specs.inner.Closed.{AreClosedWords}
use Rattle.trace_entries.proofs.EntryLines.{closed_read}
use Rattle.trace_entries.proofs.closed.read_closed.Goals as goal

pub returns : goal.returns
returns c =
    let words : texts c.as_slice.result.now ≡ take 6 (words_of c.args.line.now) = ap texts c.as_slice.ensures.value ∙ c.in-Ok.ensures in
    closed_read c.args.names.now c.args.line.now c.read_words.result c.requires (subst (λ ws. Reads (AreClosedWords c.args.names.now ws) c.read_words.result) words c.read_words.ensures)
