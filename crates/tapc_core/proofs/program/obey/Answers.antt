use Rattle.std.proofs.Common.{Option, subst}
use Rattle.tapc_core.specs.Words.{Asked}
use Rattle.tapc_core.specs.Written.{Writes}
use Rattle.tapc_core.specs.commands.All.{command_for}
use Rattle.tapc_core.specs.commands.NoCommand.{OfNone}
use Rattle.tapc_core.proofs.Outputs.{closes_alone}
use Rattle.tapc_core.proofs.program.obey.Goals as goal

pub returns-in-Some-World-clause-writes : goal.returns-in-Some-World-clause-writes
returns-in-Some-World-clause-writes g c =
    let P : Option Asked → Type 0 = λ a. Writes ((command_for a).writes (g.S.Store.contents c.args.store.now)) c.world.result (g.O.Sink.written c.args.out.now) (g.O.Sink.written c.world.new.out) in
    let asked = rw c.in-Some-World.field-0-is at c.in-Some-World.ensures.asked in
    subst P asked c.world.ensures.writes

pub returns-in-Some-Replay-clause-writes : goal.returns-in-Some-Replay-clause-writes
returns-in-Some-Replay-clause-writes g c =
    let P : Option Asked → Type 0 = λ a. Writes ((command_for a).writes (g.S.Store.contents c.args.store.now)) c.replay.result (g.O.Sink.written c.args.out.now) (g.O.Sink.written c.replay.new.out) in
    let asked = rw c.in-Some-Replay.field-0-is at c.in-Some-Replay.ensures.asked in
    subst P asked c.replay.ensures.writes

pub returns-in-Some-Make-clause-writes : goal.returns-in-Some-Make-clause-writes
returns-in-Some-Make-clause-writes g c =
    let P : Option Asked → Type 0 = λ a. Writes ((command_for a).writes (g.S.Store.contents c.args.store.now)) c.make.result (g.O.Sink.written c.args.out.now) (g.O.Sink.written c.make.new.out) in
    let asked = rw c.in-Some-Make.field-0-is at c.in-Some-Make.ensures.asked in
    subst P asked c.make.ensures.writes

pub returns-in-Some-Soak-clause-writes : goal.returns-in-Some-Soak-clause-writes
returns-in-Some-Soak-clause-writes g c =
    let P : Option Asked → Type 0 = λ a. Writes ((command_for a).writes (g.S.Store.contents c.args.store.now)) c.soak.result (g.O.Sink.written c.args.out.now) (g.O.Sink.written c.soak.new.out) in
    let asked = rw c.in-Some-Soak.field-0-is at c.in-Some-Soak.ensures.asked in
    subst P asked c.soak.ensures.writes

pub returns-in-None-clause-writes : goal.returns-in-None-clause-writes
returns-in-None-clause-writes g c =
    let P : Option Asked → Type 0 = λ a. Writes ((command_for a).writes (g.S.Store.contents c.args.store.now)) c.close.result (g.O.Sink.written c.args.out.now) (g.O.Sink.written c.close.new.out) in
    subst P c.in-None.ensures.asked (closes_alone OfNone c.usage_line.ensures c.close.ensures.closes)
