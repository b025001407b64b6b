use Rattle.std.proofs.Common.{rules, arith, sym, ap, codes}
use Rattle.std.proofs.lemmas.Slice.Eq.{text_from_reads}
use Rattle.tap_lexer.specs.Words.{declaring_words, sign_in}
use Rattle.tap_lexer.proofs.spellings.declaring_word.Goals as goal

pub returns-in-message : goal.returns-in-message
returns-in-message c = sym (ap (sign_in declaring_words) (text_from_reads c.args.bytes.now (codes "message") (omega arith) (search rules)))

pub returns-in-process : goal.returns-in-process
returns-in-process c = sym (ap (sign_in declaring_words) (text_from_reads c.args.bytes.now (codes "process") (omega arith) (search rules)))

pub returns-in-boolean : goal.returns-in-boolean
returns-in-boolean c = sym (ap (sign_in declaring_words) (text_from_reads c.args.bytes.now (codes "boolean") (omega arith) (search rules)))
