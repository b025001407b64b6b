use Rattle.tap_front.specs.Accepting.{IsReadAs}
use Rattle.tap_printer.specs.Canonical.{canonical}
use Rattle.tap_printer.proofs.ReadBack.{read_again, read_again_only}
use Rattle.tap_front.proofs.laws.printed_again.Goals as goal

pub returns : goal.returns
returns c = λ text tree h short.
    let r = read_again text h.tokens tree h.lexed h.parsed in
    let read : IsReadAs (canonical tree) r.1 = record { sized = short; tokens = r.0; lexed = r.2; parsed = r.3 } in
    ((r.1, read, r.5), λ d g. read_again_only text h.tokens tree h.lexed h.parsed g.tokens d g.lexed g.parsed)
