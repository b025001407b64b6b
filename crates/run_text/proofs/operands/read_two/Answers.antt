use Rattle.std.proofs.Common.{sym, ◌∙◌}
use Rattle.run_text.proofs.NamesAt.{one_name}
use Rattle.run_text.proofs.operands.read_two.Goals as goal

pub returns-then-from-to : goal.returns-then-from-to
returns-then-from-to c = λ bad q p w.
    let a = one_name c.args.names.now c.args.sender.now _ _ c.requires.named (w.0.0, w.1) c.in_ok-from.ensures in
    let b = one_name c.args.names.now c.args.receiver.now _ _ c.requires.named (w.0.1, w.2) c.in_ok-to.ensures in
    w.0.2 (a ∙ c.if-from-to.true ∙ sym b)
