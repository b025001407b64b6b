use Rattle.std.proofs.Common.{sym, ◌∙◌}
use Rattle.tap_types.proofs.Positions.{kind_at_get}
use Rattle.tap_types.proofs.assigns.kind_at.Goals as goal

pub returns : goal.returns
returns c = c.copied.ensures ∙ c.item.ensures ∙ sym (kind_at_get c.args.kinds.now c.args.at)
