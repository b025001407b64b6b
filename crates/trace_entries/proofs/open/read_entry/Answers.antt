use Rattle.std.proofs.Common.{◌∷◌, ◌∙◌, ap, codes}
use Rattle.run_text.specs.Operands.{words_left}
use Rattle.trace_entries.proofs.EntryLines.{line_read}
use Rattle.trace_entries.proofs.open.read_entry.Goals as goal

pub returns-then-is_word : goal.returns-then-is_word
returns-then-is_word c =
    let left = words_left c.split_word.result.1 in
    line_read c.args.names.now c.args.line.now (codes "act" ∷ left) c.read_act.result c.requires (c.split_word.ensures ∙ ap (λ k. k ∷ left) (c.is_word.ensures.0 c.if-is_word.true)) c.read_act.ensures

pub returns-then-is_word-2 : goal.returns-then-is_word-2
returns-then-is_word-2 c =
    let left = words_left c.split_word.result.1 in
    line_read c.args.names.now c.args.line.now (codes "stop" ∷ left) c.read_stop.result c.requires (c.split_word.ensures ∙ ap (λ k. k ∷ left) (c.is_word-2.ensures.0 c.if-is_word-2.true)) c.read_stop.ensures

pub returns-then-is_word-3 : goal.returns-then-is_word-3
returns-then-is_word-3 c =
    let left = words_left c.split_word.result.1 in
    line_read c.args.names.now c.args.line.now (codes "var" ∷ left) c.read_var.result c.requires (c.split_word.ensures ∙ ap (λ k. k ∷ left) (c.is_word-3.ensures.0 c.if-is_word-3.true)) c.read_var.ensures
