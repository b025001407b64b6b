use Rattle.std.proofs.Common.{inr, rules, subst, sym}
use Rattle.trace_entries.specs.LineNames.{AreLineNames}
use Rattle.replay.specs.Grammar.{IsInNoGrammar}
use Rattle.replay.specs.inner.Judging.{said_by}
use Rattle.replay.proofs.Refusals.{bad_impossible, line_names}
use Rattle.replay.proofs.Taken.{passed_by}
use Rattle.replay.proofs.judge.Judge.line.Goals as goal

pub read_entry-requires : goal.read_entry-requires
read_entry-requires c = subst AreLineNames (sym c.requires.given.names) (line_names (said_by c.args.given.now) c.requires.given.safe.begins c.requires.given.tells)

pub returns-in-Err-BadLine-clause-takes : goal.returns-in-Err-BadLine-clause-takes
returns-in-Err-BadLine-clause-takes c =
    let m = said_by c.args.given.now in
    let none : IsInNoGrammar m c.args.line.now = search rules in
    let by = passed_by m c.args.self.now c.pass_due.new.self c.begin_last.new.self c.args.line.now c.pass_due.result c.in_ok-begin_last.field-0 c.if-pass_due.false c.pass_due.ensures c.if-branch.false c.in_ok-begin_last.ensures.begins in
    (inr none, bad_impossible m c.args.self.now c.args.line.now c.requires.given.safe.begins c.requires.fits none by.0 by.1, by.2)
