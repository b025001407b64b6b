use Rattle.std.proofs.Common.{sym, subst}
use Rattle.tap_base.specs.declared.wire.Wire.{Wire}
use Rattle.message_layout.specs.Wires.{IsWire}
use Rattle.tap_front.specs.Layouts.{IsLaidOut}
use Rattle.tap_front.proofs.ResolvedWires.{resolved_wire}
use Rattle.tap_front.proofs.layouts.judge_layout.Goals as goal

pub lay_out-requires : goal.lay_out-requires
lay_out-requires c = subst IsWire (sym c.in_ok-wire.ensures) (resolved_wire c.args.system.now c.requires)

pub returns-clause-laid_out : goal.returns-clause-laid_out
returns-clause-laid_out c =
    let P : Wire → Type 0 = IsLaidOut in
    subst P c.in_ok-wire.ensures (record { short = c.in_ok-lay_out.ensures.short; apart = c.in_ok-lay_out.ensures.apart })
