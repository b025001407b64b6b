use Rattle.std.proofs.Common.{rules}
use Rattle.replay.specs.Stages.{HasEnded}
use Rattle.replay.specs.inner.Judging.{said_by}
use Rattle.replay.proofs.Progressed.{end_wanting, ended}
use Rattle.replay.proofs.reader.Reader.close.Goals as goal

pub returns-then-has_ended-clause-judges : goal.returns-then-has_ended-clause-judges
returns-then-has_ended-clause-judges c = λ start text taken p t.
    let over : HasEnded c.args.self.now.judge = search rules in
    ended (said_by c.args.given.now) start text taken c.args.self.now.number c.args.self.now.judge over p t

pub returns-else-has_ended-clause-judges : goal.returns-else-has_ended-clause-judges
returns-else-has_ended-clause-judges c = λ start text taken p t.
    let going : HasEnded c.args.self.now.judge → ⊥ = search rules in
    end_wanting (said_by c.args.given.now) start text taken c.args.self.now.number c.args.self.now.judge c.requires.given.tells.processes going p t
