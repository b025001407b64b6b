use Rattle.run_text.proofs.Cuts.{cut_at, cut_none}
use Rattle.run_text.proofs.words.split_word.Goals as goal

pub returns-in-Some : goal.returns-in-Some
returns-in-Some c = cut_at c.args.line.now c.in-Some.word.now c.in-Some.rest.now c.in-Some.ensures.0 c.in-Some.ensures.1

pub returns-in-None : goal.returns-in-None
returns-in-None c = cut_none c.args.line.now c.in-None.ensures
