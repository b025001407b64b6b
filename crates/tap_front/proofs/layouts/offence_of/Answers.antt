use Rattle.std.proofs.Common.{subst}
use Rattle.tap_base.specs.Wires.{wire_of}
use Rattle.message_layout.specs.declared.fault.LayoutFault.{LayoutFault}
use Rattle.message_layout.specs.Faults.{IsFault}
use Rattle.tap_front.proofs.Mislaid.{alike_found, long_found}
use Rattle.tap_front.proofs.layouts.offence_of.Goals as goal

pub returns-in-TooLong : goal.returns-in-TooLong
returns-in-TooLong c =
    let P : LayoutFault → Type 0 = IsFault (wire_of c.args.system.now) in
    long_found c.args.system.now c.as_slice-messages.result.now c.in-TooLong.message c.index-messages-message.result c.as_slice-messages.ensures (subst P c.in-TooLong.is c.requires)

pub returns-in-NotApart : goal.returns-in-NotApart
returns-in-NotApart c =
    let P : LayoutFault → Type 0 = IsFault (wire_of c.args.system.now) in
    alike_found c.args.system.now c.as_slice-messages.result.now c.in-NotApart.first c.in-NotApart.second c.index-messages-first.result c.index-messages-second.result
    c.index-messages-first.result c.index-messages-second.result c.as_slice-messages.ensures (subst P c.in-NotApart.is c.requires) c.index-messages-first.is c.index-messages-second.is c.alike.result c.alike.ensures
