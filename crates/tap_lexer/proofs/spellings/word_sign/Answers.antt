use Rattle.std.proofs.Common.{sym, ◌∙◌, ◌++◌}
use Rattle.tap_lexer.specs.Words.{declaring_words, acting_words, reckoning_words}
use Rattle.tap_lexer.proofs.Tables.{found_first, left_second}
use Rattle.tap_lexer.proofs.spellings.word_sign.Goals as goal

pub returns-in-Some : goal.returns-in-Some
returns-in-Some c = sym (found_first declaring_words (acting_words ++ reckoning_words) c.args.bytes.now c.in-Some.sign (sym c.declaring_word.ensures ∙ c.in-Some.is))

pub returns-in-Some-acting_word : goal.returns-in-Some-acting_word
returns-in-Some-acting_word c =
    sym (left_second declaring_words (acting_words ++ reckoning_words) c.args.bytes.now (sym c.declaring_word.ensures ∙ c.in_default.is)
    ∙ found_first acting_words reckoning_words c.args.bytes.now c.in-Some-acting_word.sign (sym c.acting_word.ensures ∙ c.in-Some-acting_word.is))

pub returns : goal.returns
returns c =
    c.reckoning_word.ensures
    ∙ sym (left_second declaring_words (acting_words ++ reckoning_words) c.args.bytes.now (sym c.declaring_word.ensures ∙ c.in_default.is)
    ∙ left_second acting_words reckoning_words c.args.bytes.now (sym c.acting_word.ensures ∙ c.in_default-acting_word.is))
