use Rattle.std.proofs.Common.{◌≡◌, true, refl, to_z, of_z, rules}
use Rattle.std.proofs.lemmas.Int.{to_z-of_z}
use Rattle.std.specs.Int.{w64}
use Rattle.code_steps.specs.Moving.{is_plain}
use Rattle.drawn_steps.proofs.Acted.{choose_acts, plain_acts, selects_acts, sends_acts, start_acts, stop_acts}
use Rattle.drawn_steps.proofs.acting.act.Goals as goal

pub returns-in-Choose : goal.returns-in-Choose
returns-in-Choose c =
    let is = c.in-Choose.is in
    let low = to_z-of_z w64 c.in-Choose.lo (search rules) in
    let high = to_z-of_z w64 c.in-Choose.hi (search rules) in
    rw is (choose_acts c.args.messages.now c.args.received.now c.in-Choose.r c.in-Choose.lo c.in-Choose.hi (to_z w64 (of_z w64 c.in-Choose.lo)) (to_z w64 (of_z w64 c.in-Choose.hi)) c.args.core.now c.choose.new.core c.args.timers.now c.args.out.now c.choose.new.out c.args.generator.now c.choose.new.generator
    low high c.choose.ensures c.requires.there)

pub returns-in-Select : goal.returns-in-Select
returns-in-Select c =
    let is = c.in-Select.is in
    let can = rw is at c.requires.can in
    rw is (selects_acts c.args.messages.now c.args.received.now c.in-Select.r c.in-Select.first c.in-Select.count _ c.args.core.now c.select.new.core c.args.timers.now c.args.out.now c.select.new.out c.args.generator.now c.select.new.generator can.1 refl c.select.ensures c.requires.there)

pub returns-in-Send : goal.returns-in-Send
returns-in-Send c =
    let is = c.in-Send.is in
    rw is (sends_acts c.args.messages.now c.args.received.now c.in-Send.message c.in-Send.first c.in-Send.count c.in-Send.to c.args.core.now c.send.new.core c.args.timers.now c.args.out.now c.send.new.out c.args.generator.now c.send.ensures c.requires.there)

pub returns-in-Start : goal.returns-in-Start
returns-in-Start c =
    let is = c.in-Start.is in
    rw is (start_acts c.args.messages.now c.args.received.now c.in-Start.timer c.in-Start.a c.args.core.now c.start.new.core c.args.timers.now c.start.new.timers c.args.out.now c.args.generator.now c.start.ensures c.requires.there)

pub returns-in-Stop : goal.returns-in-Stop
returns-in-Stop c =
    let is = c.in-Stop.is in
    rw is (stop_acts c.args.messages.now c.args.received.now c.in-Stop.timer c.args.core.now c.stop.new.core c.args.timers.now c.stop.new.timers c.args.out.now c.args.generator.now c.stop.ensures c.requires.there)

pub returns-in_default : goal.returns-in_default
returns-in_default c =
    let plain : is_plain c.args.instr ≡ true = search rules in
    plain_acts c.args.messages.now c.args.received.now c.args.instr c.args.core.now c.move_on.new.core c.args.timers.now c.args.out.now c.args.generator.now plain c.move_on.ensures c.requires.there
