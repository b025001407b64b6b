use Rattle.std.proofs.Common.{sym, arith}
use Rattle.abstract_run.proofs.Places.{no_receiver, no_sender, none_to_itself, place_before, place_behind}
use Rattle.world_run.proofs.rejects.place_among.Goals as goal
use Rattle.world_run.proofs.rejects.place_among.Goals.{then-sender-processes-via-then-sender-processes, then-sender-processes-via-else-sender-processes+then-receiver-processes}

pub returns-then-sender-processes : goal.returns-then-sender-processes
returns-then-sender-processes c =
    elim c.then-sender-processes.branch [
      | then-sender-processes-via-then-sender-processes w ↦ sym (no_sender c.args.from c.args.to c.args.processes w.if-sender-processes.true)
      | then-sender-processes-via-else-sender-processes+then-receiver-processes w ↦ sym (no_receiver c.args.from c.args.to c.args.processes w.if-receiver-processes.true)
    ]

pub returns-then-receiver-sender : goal.returns-then-receiver-sender
returns-then-receiver-sender c = sym (place_before c.args.from c.args.to c.args.processes (omega (arith, c.if-sender-processes.false)) (omega (arith, c.if-receiver-sender.true)))

pub returns-then-receiver-sender-2 : goal.returns-then-receiver-sender-2
returns-then-receiver-sender-2 c = sym (none_to_itself c.args.from c.args.to c.args.processes (sym c.if-receiver-sender-2.true))

pub returns : goal.returns
returns c =
    sym (place_behind c.args.from c.args.to c.args.processes (omega (arith, c.if-receiver-sender.false, c.if-receiver-sender-2.false)) (omega (arith, c.if-receiver-processes.false)))
