use Rattle.std.proofs.Common.{◌<◌, ◌≤◌, ◌⊎◌, List, ℕ, subst, arith}
use Rattle.run_text.specs.OneTrace.{most_lines}
use Rattle.replay.specs.Grammar.{IsInGrammar, IsInNoGrammar}
use Rattle.replay.specs.Stages.{Goes, HasEnded, Stage}
use Rattle.replay.specs.inner.Judging.{said_by}
use Rattle.replay.proofs.Progressed.{bad_line, bad_of, goes_of, line_passed, no_run, no_run_of, too_many}
use Rattle.replay.proofs.reader.Reader.judge_line.Goals as goal

pub returns-then-number-gt-MOST_LINES-clause-fault : goal.returns-then-number-gt-MOST_LINES-clause-fault
returns-then-number-gt-MOST_LINES-clause-fault c = λ start taken text p e.
    let many : most_lines < c.args.self.now.number = omega arith in
    too_many (said_by c.args.given.now) start taken c.args.self.now.line.items text c.args.self.now.number c.args.self.now.judge many p e

pub returns-in-Ok-clause-goes_on : goal.returns-in-Ok-clause-goes_on
returns-in-Ok-clause-goes_on c = λ start taken p.
    let m = said_by c.args.given.now in
    let few : c.args.self.now.number ≤ most_lines = omega arith in
    let goes = goes_of m c.args.self.now.judge c.as_slice.result.now c.in-Ok.field-0 c.line.new.self c.in-Ok.ensures.takes in
    line_passed m start taken c.args.self.now.line.items c.args.self.now.number c.args.self.now.judge c.line.new.self few
    (subst (λ (l : List ℕ). Goes m c.args.self.now.judge l c.line.new.self) c.as_slice.ensures.value goes) p

pub returns-in-Err-BadLine-clause-fault : goal.returns-in-Err-BadLine-clause-fault
returns-in-Err-BadLine-clause-fault c = λ start taken text p e.
    let m = said_by c.args.given.now in
    let bad = bad_of m c.args.self.now.judge c.as_slice.result.now c.in-Err-BadLine.field-0 c.line.new.self c.in-Err-BadLine.field-0-is c.in-Err-BadLine.ensures.takes in
    bad_line m start taken c.args.self.now.line.items text c.args.self.now.number c.args.self.now.judge c.requires.given.tells.processes
    (subst (λ (l : List ℕ). HasEnded c.args.self.now.judge ⊎ IsInNoGrammar m l) c.as_slice.ensures.value bad.0)
    (subst (λ (l : List ℕ). (next : Stage) → Goes m c.args.self.now.judge l next → ⊥) c.as_slice.ensures.value bad.1) p e

pub returns-in-Err-NotARun-clause-fault : goal.returns-in-Err-NotARun-clause-fault
returns-in-Err-NotARun-clause-fault c = λ start taken text p e.
    let m = said_by c.args.given.now in
    let few : c.args.self.now.number ≤ most_lines = omega arith in
    let no = no_run_of m c.args.self.now.judge c.as_slice.result.now c.in-Err-NotARun.field-0 c.line.new.self c.in-Err-NotARun.field-0-is c.in-Err-NotARun.ensures.takes in
    no_run m start taken c.args.self.now.line.items text c.args.self.now.number c.args.self.now.judge c.requires.given.tells.processes few
    (subst (IsInGrammar m) c.as_slice.ensures.value no.0) no.1
    (subst (λ (l : List ℕ). (next : Stage) → Goes m c.args.self.now.judge l next → ⊥) c.as_slice.ensures.value no.2) p e
