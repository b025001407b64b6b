use Rattle.std.proofs.Common.{rules, arith, sym, ap, codes}
use Rattle.std.proofs.lemmas.Slice.Eq.{text_from_reads}
use Rattle.tap_lexer.specs.Words.{acting_words, sign_in}
use Rattle.tap_lexer.proofs.spellings.acting_word.Goals as goal

pub returns-in-choose : goal.returns-in-choose
returns-in-choose c = sym (ap (sign_in acting_words) (text_from_reads c.args.bytes.now (codes "choose") (omega arith) (search rules)))

pub returns-in-timeout : goal.returns-in-timeout
returns-in-timeout c = sym (ap (sign_in acting_words) (text_from_reads c.args.bytes.now (codes "timeout") (omega arith) (search rules)))
