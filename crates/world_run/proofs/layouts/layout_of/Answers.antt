use Rattle.std.proofs.Common.{subst}
use Rattle.tap_base.specs.Wires.{wire_of}
use Rattle.message_layout.specs.Faults.{IsFault}
use Rattle.world_run.proofs.LaidOut.{no_clash}
use Rattle.world_run.proofs.layouts.layout_of.Goals as goal

pub unreachable-requires-in-Err-NotApart : goal.unreachable-requires-in-Err-NotApart
unreachable-requires-in-Err-NotApart c =
    let fault = subst (IsFault c.in_ok-wire.wire) c.in-Err-NotApart.field-0-is c.in-Err-NotApart.ensures.fault in
    no_clash c.in_ok-wire.wire (wire_of c.args.system.now) c.in-Err-NotApart.field-0-0 c.in-Err-NotApart.field-0-1 c.in_ok-wire.ensures c.requires.wire.apart fault.1
